-- What callers hold stays up to date.
use Rattle.std.proofs.Common.{◌≡◌, ◌≢◌, ◌∙◌, ℕ, ◌<◌, Bool, List, [], ◌∷◌, ◌++◌, length, if◌then◌else◌, ne_eqb, length-set, get_or-set_same, get_or-set_other, map, sym, ap, subst, arith}
use Rattle.std.specs.Prelude.{slice_index_or, slice_set, Result, Ok, Err, IfOk, OnOk, OnErr}
use native.Mathlib.Decide.{ℕ_discrete}
use mathlib.Core.Logic.{dite}
use Rattle.column_types.specs.declared.fault.NoMemory.{NoMemory}
use Rattle.turn_hall.specs.Replay.{entry, entries_of, replay}
use Rattle.turn_hall.proofs.Histories.{replay-append}
use Rattle.catalogue_state.specs.declared.ask.Ask.{Ask}
use Rattle.catalogue_state.specs.declared.reply.Reply.{Reply}
use Rattle.catalogue_state.specs.State.{holds}
use Rattle.catalogue_state.specs.Step.{step}
use Rattle.catalogue_state.proofs.Own.{held_stays_along}
use Rattle.catalogue_hall.specs.declared.alone.Told.{Told}
use Rattle.catalogue_hall.specs.declared.held.Named.{Named}
use Rattle.catalogue_hall.specs.History.{History, held_by, named_of}
use Rattle.call_tries.specs.UpToDate.{AreUpToDate}

-- the history with one call more
abbrev pub and_call : History → ℕ → Ask → Reply → History
and_call h who ask reply = record { start = h.start; book = h.book ++ entry who ask reply ∷ [] }

-- a call of one caller leaves what another one holds
other_stays : (h : History) (who other : ℕ) (ask : Ask) (reply : Reply) → other ≢ who → held_by (and_call h who ask reply) other ≡ held_by h other
other_stays h who other ask reply differ =
    let none : entries_of other (entry who ask reply ∷ []) ≡ []
    = ap (λ (b : Bool). if b then (entry who ask reply ∷ []) else []) (ne_eqb who other (λ same. differ (sym same))) in
    ap (λ s. map named_of (holds s other)) (replay-append step h.start h.book (entry who ask reply ∷ []))
    ∙ ap (map named_of) (held_stays_along (replay step h.start h.book) other (entry who ask reply ∷ []) none)

-- what one caller holds was taken out, and put back as it is now
put_back : (h k : History) (helds : List (List Named)) (who : ℕ) (x held : List Named) → who < length helds → held ≡ held_by k who
    → ((other : ℕ) → other ≢ who → held_by k other ≡ held_by h other) → AreUpToDate h helds → AreUpToDate k (slice_set (slice_set helds who x) who held)
put_back h k helds who x held within is others up = λ i near.
    let one = length-set helds who x in
    let two = length-set (slice_set helds who x) who held in
    dite (ℕ_discrete i who)
    (λ same. subst (λ (j : ℕ). slice_index_or (slice_set (slice_set helds who x) who held) j [] ≡ held_by k j) (sym same)
    (get_or-set_same (slice_set helds who x) who held [] (omega arith) ∙ is))
    (λ differ. get_or-set_other (slice_set helds who x) who i held [] differ ∙ (get_or-set_other helds who i x [] differ ∙ (up i (omega arith) ∙ sym (others i differ))))

-- after a call, or where memory ran out
pub kept_up : (h k : History) (helds : List (List Named)) (who : ℕ) (ask : Ask) (x old held : List Named) (r : Result Told NoMemory) → who < length helds
    → IfOk r (λ t. k ≡ and_call h who ask t.reply) → OnOk r (held ≡ held_by k who) → OnErr r ((k ≡ h) × (held ≡ old)) → old ≡ held_by h who
    → AreUpToDate h helds → AreUpToDate k (slice_set (slice_set helds who x) who held)
kept_up h k helds who ask x old held (Ok t) within book now err was up =
    put_back h k helds who x held within now (λ other differ. ap (λ (g : History). held_by g other) book ∙ other_stays h who other ask t.reply differ) up
kept_up h k helds who ask x old held (Err e) within book now err was up =
    put_back h k helds who x held within (err.1 ∙ was ∙ sym (ap (λ (g : History). held_by g who) err.0)) (λ other differ. ap (λ (g : History). held_by g other) err.0) up
