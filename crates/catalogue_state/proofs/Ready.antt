-- A caller that brings what was built from the graph that it held after its own last call brings what was built from the one that it
-- holds when its turn comes: until then only others made calls.
use Rattle.std.proofs.Common.{◌≡◌, ℕ, ◌<◌, List, [], ◌++◌, sym, subst, ◌∙◌, length}
use Rattle.turn_hall.specs.declared.entry.Entry.{Entry}
use Rattle.turn_hall.specs.Replay.{replay, entries_of, EndsWith}
use Rattle.turn_hall.proofs.Histories.{replay-append}
use Rattle.catalogue_state.specs.declared.ask.Ask.{Ask}
use Rattle.catalogue_state.specs.declared.call.Call.{Call}
use Rattle.catalogue_state.specs.declared.reply.Reply.{Reply}
use Rattle.catalogue_state.specs.State.{State, holds}
use Rattle.catalogue_state.specs.Step.{step}
use Rattle.catalogue_state.specs.Bound.{opening}
use Rattle.catalogue_state.specs.Ready.{IsMadeFor, CanServe, MayAsk}
use Rattle.catalogue_state.proofs.Bounds.{calls_get_ready}
use Rattle.catalogue_state.proofs.Own.{held_stays_along}

-- what others do leaves what a caller holds
held_since : (m : State) (own more : List (Entry Ask Reply)) (who : ℕ) → entries_of who more ≡ [] → holds (replay step m (own ++ more)) who ≡ holds (replay step m own) who
held_since m own more who none = subst (λ n. holds n who ≡ holds (replay step m own) who) (sym (replay-append step m own more)) (held_stays_along (replay step m own) who more none)

pub asked_is_ready : (m : State) (own more : List (Entry Ask Reply)) (who : ℕ) (call : Call) → opening m ≡ m → length (own ++ more) < 33554432
    → EndsWith who own → entries_of who more ≡ [] → MayAsk m own call → CanServe (replay step m (own ++ more)) who call
asked_is_ready m own more who call first short mine none may = record {
  numbers = calls_get_ready m (own ++ more) first may.small short;
  made = subst (λ held. IsMadeFor held call.ask call.made) (sym (held_since m own more who none)) (may.made who mine);
}
