-- What the actors of a script have between their blocks, and what phases do to it.
use Rattle.std.specs.Prelude.{◌≡◌, ℕ, zero, suc, ◌-◌, List, [], ◌∷◌, slice_index_or, slice_set, if◌then◌else◌, eqb}
use Rattle.std.specs.List.{flat_map}
use Rattle.catalogue_hall.specs.History.{History}
use Rattle.script_read.specs.declared.script.Command.{Command}
use Rattle.script_read.specs.declared.script.Block.{Block}
use Rattle.session_run.specs.Own.{fresh_own}
use Rattle.session_run.specs.Turns.{Work, worked}
use Rattle.session_run.specs.Ran.{Ran}
use Rattle.script_run.specs.declared.member.Member.{Member}

-- ---- actors between their blocks

-- an actor that has done nothing
abbrev pub fresh_member : Member
fresh_member = record { held = []; own = fresh_own; records = [] }

-- what a number has, where the first in the list is actor 1; who is no actor has done nothing
abbrev pub member_of : List Member → ℕ → Member
member_of members zero = fresh_member
member_of members (suc k) = slice_index_or members k fresh_member

-- what an actor has is replaced
abbrev pub with_member : List Member → ℕ → Member → List Member
with_member members who m = slice_set members (who - 1) m

-- an actor at work, after this history
abbrev pub member_work : History → Member → Work
member_work h m = worked h m.held m.own m.records

-- ---- phases

-- the commands that some blocks of a phase have for a number
abbrev pub commands_of : ℕ → List Block → List Command
commands_of who blocks = flat_map (λ (b : Block). if eqb b.actor who then b.commands else []) blocks

-- the blocks of a phase were run: each number did the commands that they have for it, and who has none did nothing
abbrev pub PhaseRan : List Block → History → List Member → History → List Member → Type 0
PhaseRan blocks h ms k ns = (who : ℕ) → Ran who (commands_of who blocks) (member_work h (member_of ms who)) (member_work k (member_of ns who))

-- phases were run one after another
abbrev pub PhasesRan : List (List Block) → History → List Member → History → List Member → Type 0
PhasesRan [] h ms k ns = (k ≡ h) × (ns ≡ ms)
PhasesRan (blocks ∷ phases) h ms k ns = (g : History) × (ls : List Member) × PhaseRan blocks h ms g ls × PhasesRan phases g ls k ns
