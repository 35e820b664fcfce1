-- a search before its first vertex, and after its last
use Rattle.std.proofs.Common.{◌≡◌, ◌≢◌, ℕ, ◌<◌, ◌≤◌, inl, inr, List, [], length, replicate, refl, sym, ◌∙◌, arith}
use Rattle.std.proofs.Math.Nat.{mul-one}
use Rattle.std.proofs.lemmas.Bool.{cases_lt}
use Rattle.std.proofs.lemmas.List.{length-replicate, get_or-replicate, get_or_past}
use Rattle.std.proofs.lemmas.List.Sums.{sum_by-le}
use Rattle.algo_digraph.specs.Digraph.{Digraph}
use Rattle.algo_rank.specs.declared.search.Stage.{Stage}
use Rattle.algo_rank.specs.declared.search.Stage.TheVariants.{Unseen, Open, Closed}
use Rattle.algo_rank.specs.Search.{stage_of, unseen, AreStages, AreBlocks, AreSteps}

-- no vertex was met
unseen_all : (n v : ℕ) → stage_of (replicate n Unseen) v ≡ Unseen
unseen_all n v =
    elim (cases_lt v n) [
      | inl lt ↦ get_or-replicate n v Unseen Unseen lt
      | inr past ↦ get_or_past (replicate n Unseen) v Unseen (omega (arith, past, length-replicate {A = Stage} n Unseen))
    ]

unseen_le : (s : Stage) → unseen s ≤ 1
unseen_le Unseen = omega arith
unseen_le (Open p) = omega arith
unseen_le (Closed l) = omega arith

pub stages_first : (g : Digraph) → AreStages g (replicate g.vertices Unseen) []
stages_first g = record {
  long = length-replicate g.vertices Unseen;
  count =
      omega (
        arith,
        sum_by-le unseen 1 (replicate g.vertices Unseen) (λ k d lt. unseen_le _),
        mul-one (length (replicate g.vertices Unseen)),
        length-replicate {A = Stage} g.vertices Unseen,
      );
  placed = λ p lt. absurd (omega (arith, lt));
  found = λ v p at. (let no : Unseen ≡ Open p = sym (unseen_all g.vertices v) ∙ at in cc);
  labels = λ v l at. (let no : Unseen ≡ Closed l = sym (unseen_all g.vertices v) ∙ at in cc);
  final = λ e v w l goes at. (let no : Unseen ≡ Closed l = sym (unseen_all g.vertices v) ∙ at in cc);
}

pub blocks_first : (g : Digraph) → AreBlocks g [] []
blocks_first g = record {
  onward = λ p q le lt. absurd (omega (arith, lt));
  back = λ p q le lt one. absurd (omega (arith, lt));
  rise = λ i j d less lt. absurd (omega (arith, lt));
  within = λ h head. absurd (omega (arith, head.1));
  first = λ some. absurd (omega (arith, some));
}

pub steps_first : (g : Digraph) (Settled : ℕ → ℕ → Type 0) → AreSteps g [] [] [] Settled
steps_first g Settled = record {
  rise = λ i j d le lt. absurd (omega (arith, lt));
  places = λ q h. absurd (omega (arith, h.1));
  leaves = λ h head. absurd (omega (arith, head.1));
  follows = λ q w h. absurd (omega (arith, h.1));
  edges = λ e q w lt goes. absurd (omega (arith, lt));
}

-- where no vertex is on the path, each that was met has its label
closed_by : (s : Stage) → s ≢ Unseen → ((p : ℕ) → s ≡ Open p → ⊥) → (l : ℕ) × (s ≡ Closed l)
closed_by Unseen met none = absurd (met refl)
closed_by (Open p) met none = absurd (none p refl)
closed_by (Closed l) met none = (l, refl)

pub closed_last : (g : Digraph) (stages : List Stage) (path : List ℕ) (v : ℕ) → AreStages g stages path → (0 < length path → ⊥) → stage_of stages v ≢ Unseen → (l : ℕ) × (stage_of stages v ≡ Closed l)
closed_last g stages path v are none met = closed_by (stage_of stages v) met (λ p at. none (let f = are.found v p at in omega (arith, f.0)))

-- a vertex of the path is one of those that have a stage
pub open_within : (stages : List Stage) (v p : ℕ) → stage_of stages v ≡ Open p → v < length stages
open_within stages v p at =
    elim (cases_lt v (length stages)) [
      | inl lt ↦ lt
      | inr past ↦ (let no : Unseen ≡ Open p = sym (get_or_past stages v Unseen past) ∙ at in cc)
    ]

pub closed_within : (stages : List Stage) (v l : ℕ) → stage_of stages v ≡ Closed l → v < length stages
closed_within stages v l at =
    elim (cases_lt v (length stages)) [
      | inl lt ↦ lt
      | inr past ↦ (let no : Unseen ≡ Closed l = sym (get_or_past stages v Unseen past) ∙ at in cc)
    ]
