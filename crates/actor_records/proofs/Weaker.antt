-- Other terms for when a call is due.
use Rattle.std.proofs.Common.{ℕ, ◌+◌, ◌≤◌, List, [], ◌∷◌, length, eqb, arith}
use Rattle.turn_hall.specs.declared.entry.Entry.{Entry}
use Rattle.actor_records.specs.declared.record.Record.{Record}
use Rattle.actor_records.specs.declared.record.Did.{Did}
use Rattle.actor_records.specs.declared.record.Did.TheVariants.{Core}
use Rattle.actor_records.specs.Rules.{Rules}
use Rattle.actor_records.specs.Agreement.{Stand, AreLocals, Reaches, Agrees, after_local, after_core}
use Rattle.actor_records.proofs.Choice.{either_turned}
use Rattle.actor_records.proofs.Agreement.{Behind}

module _ {S N R C A T M H : Type 0} (u : Rules S N R C A T M H) (Due' : ℕ → M → Did N R C A T → Type 0) where
  abbrev pub other_due : Rules S N R C A T M H
  other_due = record u { Due = Due' }

  locals_weaker : (w : ℕ) (at to : Stand M H) (rs : List (Record N R C A T)) → ((m : M) (did : Did N R C A T) → u.Due at.after m did → Due' at.after m did)
      → AreLocals u w at rs to → AreLocals other_due w at rs to
  locals_weaker w at to [] turn a = a
  locals_weaker w at to (r ∷ rs) turn a = (
    record { number = a.0.number; after = a.0.after; index = a.0.index; who = a.0.who; due = turn at.mind r.did a.0.due; answers = a.0.answers },
    locals_weaker w (after_local u at r.did) to rs turn a.1,
  )

  -- records agree as well where each call that is due at a place of the history is due by the other terms
  pub agrees_weaker : (w n : ℕ) (s : S) (at to : Stand M H) (es : List (Entry N R)) (rs : List (Record N R C A T)) → at.after ≤ n
      → ((k : ℕ) (m : M) (did : Did N R C A T) → k ≤ n + length es → u.Due k m did → Due' k m did)
      → Agrees u w n s at es rs to → Agrees other_due w n s at es rs to
  agrees_weaker w n s at to [] rs early turn a = locals_weaker w at to rs (λ m did due. turn at.after m did (omega arith) due) a
  agrees_weaker w n s at to (e ∷ es) rs early turn a =
      let t = (u.step s e.who e.note).1 in
      let turn_later : (k : ℕ) (m : M) (did : Did N R C A T) → k ≤ (n + 1) + length es → u.Due k m did → Due' k m did = λ k m did h due. turn k m did (omega arith) due in
      let own : Reaches u w (n + 1) at e rs (Behind u w (n + 1) t e es to) → Reaches other_due w (n + 1) at e rs (Behind other_due w (n + 1) t e es to)
      = λ o. record {
        locals = o.locals;
        more = o.more;
        here = o.here;
        parts = o.parts;
        before = locals_weaker w at o.here o.locals (λ m did due. turn at.after m did (omega arith) due) o.before;
        due = turn (n + 1) o.here.mind (Core e.note e.reply) (omega arith) o.due;
        behind = agrees_weaker w (n + 1) t (after_core u w (n + 1) t o.here e) to es o.more (omega arith) turn_later o.behind;
      } in
      either_turned (eqb e.who w) own (λ o. agrees_weaker w (n + 1) t at to es rs (omega arith) turn_later o) a
