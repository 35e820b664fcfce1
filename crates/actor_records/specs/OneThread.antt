-- What one thread replies to calls that it makes one after another.
use Rattle.std.specs.Prelude.{ℕ, ⊤, List, [], ◌∷◌}
use Rattle.actor_records.specs.declared.record.Record.{Record}
use Rattle.actor_records.specs.declared.record.Did.{Did}
use Rattle.actor_records.specs.declared.record.Did.TheVariants.{Core, Local, Starved}
use Rattle.actor_records.specs.Records.{updated, place}
use Rattle.actor_records.specs.Rules.{Rules}

-- the shared state, and what each actor has in mind
pub record World (S M : Type 0) : Type 0 where
  pub state : S
  pub minds : ℕ → M

module _ {S N R C A T M H : Type 0} (u : Rules S N R C A T M H) where
  abbrev pub set_mind : World S M → S → ℕ → M → World S M
  set_mind world s who m = record { state = s; minds = updated world.minds who m }

  -- what an actor does, with the reply of one thread, and the world after it
  abbrev pub redone : World S M → ℕ → Did N R C A T → Did N R C A T × World S M
  redone world who (Core note reply) =
      let out = u.step world.state who note in
      (Core note out.0, set_mind world out.1 who (u.told (world.minds who) note out.0))
  redone world who (Local command reply) =
      let out = u.local (world.minds who) (u.holds world.state who) command in
      (Local command out.0, set_mind world world.state who out.1)
  redone world who (Starved head) = (Starved head, set_mind world world.state who (u.starved (world.minds who)))

  -- the same records with the replies of one thread
  abbrev pub one : World S M → List (Record N R C A T) → List (Record N R C A T)
  one world [] = []
  one world (r ∷ rs) = record r { did = (redone world r.who r.did).0 } ∷ one (redone world r.who r.did).1 rs

  -- the world after them
  abbrev pub world_after : World S M → List (Record N R C A T) → World S M
  world_after world [] = world
  world_after world (r ∷ rs) = world_after (redone world r.who r.did).1 rs

  -- each record is the call that comes next for its actor
  abbrev pub AllDue : World S M → List (Record N R C A T) → Type 0
  AllDue world [] = ⊤
  AllDue world (r ∷ rs) = u.Due (place r) (world.minds r.who) r.did × AllDue (redone world r.who r.did).1 rs
