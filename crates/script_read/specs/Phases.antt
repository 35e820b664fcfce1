-- The phases of a script that can be run.
use Rattle.std.specs.Prelude.{◌≡◌, ℕ, ◌-◌, ◌≤◌, ◌<◌, ◌^◌, Bool, true, false, if◌then◌else◌, eqb, List, [], ◌∷◌, length, map, sum_by, ⊤}
use Rattle.std.specs.List.{AllByRecursion}
use Rattle.script_read.specs.declared.script.Block.{Block}
use Rattle.script_read.specs.declared.script.Script.{Script}

-- the number of an actor, of so many
pub record IsActor (actors who : ℕ) : Type 0 where
  pub first : 0 < who
  pub last : who ≤ actors

-- whether a number is in a list
abbrev pub has : ℕ → List ℕ → Bool
has k [] = false
has k (x ∷ xs) = if eqb x k then true else has k xs

-- each number once
abbrev pub Apart : List ℕ → Type 0
Apart [] = ⊤
Apart (k ∷ ks) = (has k ks ≡ false) × Apart ks

abbrev pub actor_number : Block → ℕ
actor_number b = b.actor

abbrev pub block_count : List Block → ℕ
block_count blocks = length blocks

-- how many commands a block has, and a phase
abbrev pub block_commands : Block → ℕ
block_commands b = length b.commands

abbrev pub phase_commands : List Block → ℕ
phase_commands blocks = sum_by block_commands blocks

-- a phase whose actors are of so many, and each of which has one block at most
pub record IsPhase (actors : ℕ) (blocks : List Block) : Type 0 where
  pub known : AllByRecursion (λ (b : Block). IsActor actors b.actor) blocks
  pub apart : Apart (map actor_number blocks)

-- a script whose phases are phases of its actors, with no more commands and blocks in all than a script may have
pub record MayRun (script : Script) : Type 0 where
  pub phases : AllByRecursion (λ (blocks : List Block). IsPhase (length script.actors) blocks) script.phases
  pub commands : sum_by phase_commands script.phases ≤ 65536
  pub blocks : sum_by block_count script.phases < 2 ^ 32 - 1
