-- The names of sources.
use Rattle.std.proofs.Common.{ℕ, ◌+◌, ◌≤◌, [], ◌∷◌, Bool, true, false, sym, subst, cond, arith}
use Rattle.std.specs.Str.{bytes_eq}
use Rattle.std.proofs.lemmas.List.Sums.{sum_by-cons}
use Rattle.catalogue_state.specs.declared.parts.SourceData.{SourceData}
use Rattle.catalogue_state.specs.Bound.{NamesDiffer}

at_most_one : (b : Bool) → cond {A = ℕ} b 1 0 + 0 ≤ 1
at_most_one true = omega arith
at_most_one false = omega arith

-- no source has a name twice where there is none, or one
pub no_names : NamesDiffer []
no_names n = omega arith

pub one_name : (d : SourceData) → NamesDiffer (d ∷ [])
one_name d n = subst (λ k. k ≤ 1) (sym (sum_by-cons (λ (x : SourceData). cond {A = ℕ} (bytes_eq x.name n) 1 0) d [])) (at_most_one (bytes_eq d.name n))
