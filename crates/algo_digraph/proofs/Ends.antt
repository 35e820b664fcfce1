-- ends that are kept as INTEGERs
use Rattle.std.proofs.Common.{◌≡◌, ℕ, ◌<◌, ℤ, pos, negsuc, rules, List, All, FitsSigned, Fits, w32, length, slice_index_or}
use Rattle.std.proofs.lemmas.List.Elements.{All-get_or}
use lib.Dec.{T}
use lib.Signed.{non_neg}
use lib.IntN.{nat_abs}
use Rattle.algo_digraph.specs.Sides.{IsEnd}

-- a number that is not negative is the same number without its sign
pub cast_fits : (z : ℤ) (n : ℕ) → z ≡ pos n → FitsSigned w32 z → T (non_neg z) × Fits w32 (nat_abs z)
cast_fits (pos k) n e fits = search rules
cast_fits (negsuc k) n e fits = cc

-- the end of a place
pub end_of : (n first : ℕ) (there : List ℤ) (place : ℕ) → All (IsEnd n first) there → place < length there → IsEnd n first (slice_index_or there place (pos 0))
end_of n first there place all lt = All-get_or (IsEnd n first) there place (pos 0) lt all
