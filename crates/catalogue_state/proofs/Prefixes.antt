-- What was placed from a source is a prefix of its changes.
use Rattle.std.proofs.Common.{◌≡◌, ℕ, List, [], Option, Some, None, false, refl, ap, subst, sym, ◌∙◌}
use Rattle.std.specs.Prelude.{find, Contains, is_some}
use Rattle.std.proofs.lemmas.Option.{none-some, same_Some}
use Rattle.turn_hall.specs.declared.entry.Entry.{Entry}
use Rattle.turn_hall.specs.Replay.{replay}
use Rattle.turn_hall.proofs.Histories.{replay-keeps}
use Rattle.catalogue_state.specs.declared.ask.Ask.{Ask}
use Rattle.catalogue_state.specs.declared.ask.Ask.TheVariants.{OpenSession, CloseSession, Peek, Place, Derive, Publish, Unpublish, Get, Checkout, Append, Release, Columns, Lines}
use Rattle.catalogue_state.specs.declared.ask.How.TheVariants.{Changes}
use Rattle.catalogue_state.specs.declared.reply.Reply.{Reply}
use Rattle.catalogue_state.specs.declared.reply.Refusal.{Refusal}
use Rattle.catalogue_state.specs.declared.parts.Snap.{Snap}
use Rattle.catalogue_state.specs.declared.parts.Line.{Line}
use Rattle.catalogue_state.specs.declared.parts.Hold.{Hold}
use Rattle.catalogue_state.specs.declared.parts.Hold.TheVariants.{Private, Pin}
use Rattle.catalogue_state.specs.declared.parts.Held.{Held}
use Rattle.catalogue_state.specs.declared.parts.Session.{Session}
use Rattle.catalogue_state.specs.State.{Name, State, change_first, of_who, named, from_source, from_line, private_source, pinned_line}
use Rattle.catalogue_state.specs.Step.{Answer, step, hold_more, let_go, to_pin, to_snap, pin_as, move_to, derived, with_latest}
use Rattle.catalogue_state.specs.Bound.{opening}
use Rattle.catalogue_state.specs.Law.{IsPrefix, IsPrefixHeld, HasPrefixes}
use Rattle.catalogue_state.proofs.Keeping.{unless_keeps, unless_then_keeps, given_keeps, unless_refused_keeps}
use Rattle.catalogue_state.proofs.Lists.{Each, of_find, in_none, each_none, each_cons, each_changed, each_found, each_dropped, each_push}

module _ (m : State) (good : HasPrefixes m) where
  -- the same sources: all that was a prefix is one
  kept_prefix : (n : State) → n.sources ≡ m.sources → (source : Option Name) (b : Snap) → IsPrefix m source b → IsPrefix n source b
  kept_prefix n same None b h = tt
  kept_prefix n same (Some k) b h = (h.0, ap (find (from_source k)) same ∙ h.1, h.2)

  kept_held : (n : State) → n.sources ≡ m.sources → (hold : Hold) (b : Snap) → IsPrefixHeld m hold b → IsPrefixHeld n hold b
  kept_held n same (Private source) b h = kept_prefix n same source b h
  kept_held n same (Pin line) b h = tt

  abbrev OfLine : Line → Type 0
  OfLine l = (b : Snap) → Contains l.snaps b → IsPrefix m l.source b

  abbrev OfHeld : Held → Type 0
  OfHeld h = IsPrefixHeld m h.hold h.snap

  abbrev OfSession : Session → Type 0
  OfSession s = Each OfHeld s.held

  lines : Each OfLine m.lines
  lines l h b k = good.lines l b h k

  sessions : Each OfSession m.sessions
  sessions s h x k = good.held s x h k

  all_kept : (n : State) → n.sources ≡ m.sources → Each OfLine n.lines → Each OfSession n.sessions → HasPrefixes n
  all_kept n same ls ss = record {
    lines = λ l b h k. kept_prefix n same l.source b (ls l h b k);
    held = λ s h j k. kept_held n same h.hold h.snap (ss s j h k);
  }

  module _ (who : ℕ) where
    one_more : (h : Held) → OfHeld h → Each OfSession (change_first (of_who who) (hold_more h) m.sessions)
    one_more h ok = each_changed OfSession (of_who who) (hold_more h) (λ s all. each_push OfHeld s.held h all ok) m.sessions sessions

    -- a graph that is held for itself has its source, and a pin has none of its own
    of_private_at : (hold : Hold) (b : Snap) (source : Option Name) → private_source hold ≡ Some source → IsPrefixHeld m hold b → IsPrefix m source b
    of_private_at (Private own) b source is ok = subst (λ o. IsPrefix m o b) (same_Some own source is) ok
    of_private_at (Pin line) b source is ok = absurd (none-some source is)

    of_private : (h : Held) (source : Option Name) → private_source h.hold ≡ Some source → OfHeld h → IsPrefix m source h.snap
    of_private h source = of_private_at h.hold h.snap source

    pin_is_prefix : (hold : Hold) (line : Name) (b : Snap) → pinned_line hold ≡ Some line → IsPrefixHeld m hold b
    pin_is_prefix (Private own) line b is = absurd (none-some line is)
    pin_is_prefix (Pin own) line b is = tt

    -- a published graph without a source
    no_prefix : (o : Option Name) → is_some o ≡ false → (b : Snap) → IsPrefix m o b
    no_prefix None e b = tt
    no_prefix (Some n) e b = absurd (cc)

    abbrev Good : Answer → Type 0
    Good a = HasPrefixes a.1

    kept : (r : Refusal) → HasPrefixes m
    kept r = good

    pub step_prefixes : (ask : Ask) → HasPrefixes (step m who ask).1
    step_prefixes OpenSession =
        unless_keeps Good m kept _ _ _ (unless_keeps Good m kept _ _ _ (all_kept _ refl lines (each_push OfSession m.sessions _ sessions (each_none OfHeld))))
    step_prefixes CloseSession = given_keeps Good m kept _ _ _ (λ s is. all_kept _ refl lines (each_dropped OfSession (of_who who) m.sessions sessions))
    step_prefixes (Peek source) = given_keeps Good m kept _ _ _ (λ s is. good)
    step_prefixes (Place name source front) =
        given_keeps Good m kept _ _ _ (λ s is. given_keeps Good m kept _ _ _ (λ from js.
        unless_keeps Good m kept _ _ _ (unless_keeps Good m kept _ _ _ (unless_keeps Good m kept _ _ _
        (all_kept _ refl lines (one_more _ (from, js, refl)))))))
    step_prefixes (Derive name base how) =
        given_keeps Good m kept _ _ _ (λ s is. given_keeps Good m kept _ _ _ (λ b js.
        unless_keeps Good m kept _ _ _ (unless_keeps Good m kept _ _ _ (unless_refused_keeps Good m kept _ _ (λ ks. all_kept _ refl lines (one_more _ tt))))))
    step_prefixes (Publish name line keep threshold) =
        given_keeps Good m kept _ _ _ (λ s is. given_keeps Good m kept _ _ _ (λ h js. given_keeps Good m kept _ _ _ (λ source ks.
        unless_keeps Good m kept _ _ _ (unless_keeps Good m kept _ _ _ (all_kept _ refl (each_push OfLine m.lines _ lines (each_cons (IsPrefix m source) h.snap [] (of_private h source ks (sessions s (of_find (of_who who) m.sessions s is) h (of_find (named name) s.held h js))) (each_none (IsPrefix m source))))
        (each_changed OfSession (of_who who) (pin_as name line) (λ t all. each_changed OfHeld (named name) (to_pin line) (λ x ok. tt) t.held all) m.sessions sessions))))))
    step_prefixes (Unpublish line) =
        given_keeps Good m kept _ _ _ (λ s is. given_keeps Good m kept _ _ _ (λ l js. unless_keeps Good m kept _ _ _ (all_kept _ refl (each_dropped OfLine (from_line line) m.lines lines) sessions)))
    step_prefixes (Get line name) =
        given_keeps Good m kept _ _ _ (λ s is. given_keeps Good m kept _ _ _ (λ l js. unless_keeps Good m kept _ _ _ (unless_keeps Good m kept _ _ _ (
        given_keeps Good m kept _ _ _ (λ snap ks. all_kept _ refl lines (one_more _ tt))))))
    step_prefixes (Checkout name target) =
        given_keeps Good m kept _ _ _ (λ s is. given_keeps Good m kept _ _ _ (λ h js. given_keeps Good m kept _ _ _ (λ line ks.
        given_keeps Good m kept _ _ _ (λ l ls. given_keeps Good m kept _ _ _ (λ snap ns. all_kept _ refl lines
        (each_found OfSession (of_who who) (move_to name snap) s m.sessions is
        (each_found OfHeld (named name) (to_snap snap) h s.held js (pin_is_prefix h.hold line snap ks) (sessions s (of_find (of_who who) m.sessions s is))) sessions))))))
    step_prefixes (Append name changes) =
        given_keeps Good m kept _ _ _ (λ s is. given_keeps Good m kept _ _ _ (λ h js. given_keeps Good m kept _ _ _ (λ line ks.
        given_keeps Good m kept _ _ _ (λ l ls. unless_then_keeps Good m kept _ _ _ (λ none. given_keeps Good m kept _ _ _ (λ last ns.
        unless_keeps Good m kept _ _ _ (unless_refused_keeps Good m kept _ _ (λ os.
        all_kept _ refl (each_found OfLine (from_line line) (with_latest (derived m h.snap (Changes changes))) l m.lines ls (λ b k. no_prefix l.source none b) lines) sessions))))))))
    step_prefixes (Release name) =
        given_keeps Good m kept _ _ _ (λ s is. given_keeps Good m kept _ _ _ (λ h js.
        all_kept _ refl lines (each_changed OfSession (of_who who) (let_go name) (λ t all. each_dropped OfHeld (named name) t.held all) m.sessions sessions)))
    step_prefixes Columns = good
    step_prefixes Lines = good

none_in : {X : Type 0} (x : X) (xs : List X) → [] ≡ xs → Contains xs x → ⊥
none_in x xs q h = in_none x (subst (λ l. Contains l x) (sym q) h)

pub all_prefixes : (m : State) (es : List (Entry Ask Reply)) → opening m ≡ m → HasPrefixes (replay step m es)
all_prefixes m es first =
    let none : HasPrefixes m = record {
      lines = λ l b h k. absurd (none_in l m.lines (ap (λ (s : State). s.lines) first) h);
      held = λ s h j k. absurd (none_in s m.sessions (ap (λ (s : State). s.sessions) first) j);
    } in
    replay-keeps step HasPrefixes (λ s who ask good. step_prefixes s good who ask) m es none
