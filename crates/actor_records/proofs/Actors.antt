-- Several actors in one history: what a call and a local command of one of them keep, and what an actor holds.
use Rattle.std.proofs.Common.{◌≡◌, ◌≢◌, ℕ, ◌+◌, Bool, List, [], ◌∷◌, ◌++◌, length, if◌then◌else◌, eqb, ne_eqb, sym, refl, ap, ◌∙◌, subst}
use native.Mathlib.Decide.{ℕ_discrete}
use mathlib.Core.Logic.{dite}
use Rattle.turn_hall.specs.declared.entry.Entry.{Entry}
use Rattle.turn_hall.specs.Replay.{entries_of, replay}
use Rattle.actor_records.specs.declared.record.Record.{Record}
use Rattle.actor_records.specs.declared.record.Did.TheVariants.{Core}
use Rattle.actor_records.specs.Records.{core_record, updated}
use Rattle.actor_records.specs.Rules.{Rules}
use Rattle.actor_records.specs.Agreement.{Stand, IsLocal, AreLocals, Reaches, Agrees, AgreesWith, fresh, after_local, after_core}
use Rattle.actor_records.proofs.Choice.{by_test, different, updated_here, updated_else}
use Rattle.actor_records.proofs.Agreement.{Behind, agrees_local, agrees_core, agrees_other}

other_entry : {N R : Type 0} (w : ℕ) (e : Entry N R) → e.who ≢ w → entries_of w (e ∷ []) ≡ []
other_entry w e p = ap (λ (b : Bool). if b then (e ∷ []) else []) (ne_eqb e.who w p)

module _ {S N R C A T M H : Type 0} (u : Rules S N R C A T M H) where
  -- the records of each actor agree with one history
  abbrev pub AllAgree : S → (ℕ → M) → List (Entry N R) → (ℕ → List (Record N R C A T)) → (ℕ → Stand M H) → Type 0
  AllAgree s minds es parts to = (w : ℕ) → AgreesWith u s (minds w) w es (parts w) (to w)

  -- before any call
  pub all_start : (s : S) (minds : ℕ → M) → AllAgree s minds [] (λ w. []) (λ w. fresh u w s (minds w))
  all_start s minds w = refl

  -- the records of one actor change, and those of all others agree with this history too
  all_updated : (s : S) (minds : ℕ → M) (es more : List (Entry N R)) (parts : ℕ → List (Record N R C A T)) (to : ℕ → Stand M H) (k : ℕ)
      (rs : List (Record N R C A T)) (next : Stand M H) → AllAgree s minds es parts to
      → ((w : ℕ) → k ≢ w → entries_of w more ≡ []) → AgreesWith u s (minds k) k (es ++ more) rs next
      → AllAgree s minds (es ++ more) (updated parts k rs) (updated to k next)
  all_updated s minds es more parts to k rs next all others own w =
      dite (ℕ_discrete k w)
      (λ p. subst (λ x. AgreesWith u s (minds x) x (es ++ more) (updated parts k rs x) (updated to k next x)) p
      (subst (λ l. AgreesWith u s (minds k) k (es ++ more) l (updated to k next k)) (sym (updated_here parts k rs))
      (subst (λ x. AgreesWith u s (minds k) k (es ++ more) rs x) (sym (updated_here to k next)) own)))
      (λ p. subst (λ l. AgreesWith u s (minds w) w (es ++ more) l (updated to k next w)) (sym (updated_else parts k w rs p))
      (subst (λ x. AgreesWith u s (minds w) w (es ++ more) (parts w) x) (sym (updated_else to k w next p))
      (agrees_other u w 0 s (fresh u w s (minds w)) (to w) es more (parts w) (others w p) (all w))))

  -- one of them makes a core call
  pub all_core : (s : S) (minds : ℕ → M) (es : List (Entry N R)) (parts : ℕ → List (Record N R C A T)) (to : ℕ → Stand M H) (e : Entry N R)
      → AllAgree s minds es parts to → u.Due (0 + length es + 1) (to e.who).mind (Core e.note e.reply)
      → AllAgree s minds (es ++ e ∷ []) (updated parts e.who (parts e.who ++ core_record (0 + length es + 1) e ∷ []))
      (updated to e.who (after_core u e.who (0 + length es + 1) (replay u.step s (es ++ e ∷ [])) (to e.who) e))
  all_core s minds es parts to e all due =
      let k = e.who in
      all_updated s minds es (e ∷ []) parts to k (parts k ++ core_record (0 + length es + 1) e ∷ []) (after_core u k (0 + length es + 1) (replay u.step s (es ++ e ∷ [])) (to k) e) all
      (λ w p. other_entry w e p)
      (agrees_core u k 0 s (fresh u k s (minds k)) (to k) es (parts k) e refl (all k) due)

  -- one of them does something that is no core call
  pub all_local : (s : S) (minds : ℕ → M) (es : List (Entry N R)) (parts : ℕ → List (Record N R C A T)) (to : ℕ → Stand M H) (k : ℕ) (r : Record N R C A T)
      → AllAgree s minds es parts to → IsLocal u k (to k) r
      → AllAgree s minds es (updated parts k (parts k ++ r ∷ [])) (updated to k (after_local u (to k) r.did))
  all_local s minds es parts to k r all h w =
      let rs = parts k ++ r ∷ [] in let next = after_local u (to k) r.did in
      dite (ℕ_discrete k w)
      (λ p. subst (λ x. AgreesWith u s (minds x) x es (updated parts k rs x) (updated to k next x)) p
      (subst (λ l. AgreesWith u s (minds k) k es l (updated to k next k)) (sym (updated_here parts k rs))
      (subst (λ x. AgreesWith u s (minds k) k es rs x) (sym (updated_here to k next))
      (agrees_local u k 0 s (fresh u k s (minds k)) (to k) es (parts k) r (all k) h))))
      (λ p. subst (λ l. AgreesWith u s (minds w) w es l (updated to k next w)) (sym (updated_else parts k w rs p))
      (subst (λ x. AgreesWith u s (minds w) w es (parts w) x) (sym (updated_else to k w next p)) (all w)))

  -- what records without a core record leave
  pub held_locals : (w : ℕ) (at to : Stand M H) (ls : List (Record N R C A T)) → AreLocals u w at ls to → (to.held ≡ at.held) × (to.after ≡ at.after)
  held_locals w at to [] a = (ap (λ (x : Stand M H). x.held) a, ap (λ (x : Stand M H). x.after) a)
  held_locals w at to (r ∷ rs) a = held_locals w (after_local u at r.did) to rs a.1

  -- where what an actor holds changes at its own calls alone, it holds what the replay of the history says
  pub held_now : ((s : S) (k w : ℕ) (note : N) → k ≢ w → u.holds (u.step s k note).1 w ≡ u.holds s w)
      → (w n : ℕ) (s : S) (at to : Stand M H) (es : List (Entry N R)) (rs : List (Record N R C A T)) → at.held ≡ u.holds s w
      → Agrees u w n s at es rs to → to.held ≡ u.holds (replay u.step s es) w
  held_now law w n s at to [] rs same a = (held_locals w at to rs a).0 ∙ same
  held_now law w n s at to (e ∷ es) rs same a =
      let t = (u.step s e.who e.note).1 in
      let own : Reaches u w (n + 1) at e rs (Behind u w (n + 1) t e es to) → to.held ≡ u.holds (replay u.step t es) w
      = λ o. held_now law w (n + 1) t (after_core u w (n + 1) t o.here e) to es o.more refl o.behind in
      by_test (eqb e.who w)
      (λ b o. own o)
      (λ b o. held_now law w (n + 1) t at to es rs (same ∙ sym (law s e.who w e.note (different e.who w b))) o)
      a
