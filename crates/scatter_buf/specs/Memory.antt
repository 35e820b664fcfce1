-- The memory of places that each hold a value or none, at values of the row R.
use Rattle.std.specs.Prelude.{ℕ, suc, ◌+◌, ◌*◌, ◌^◌, List, [], ◌∷◌, length, Option, Some, None}
use Rattle.std.specs.Mem.{type_size}
use base.Fraction.{full_share}
use base.Fml.{Lft, Fml, ftrue, ffalse, fsep, flt, froom}
use mir.Syntax.{Ty, ty_array}
use mir.Raw.{raw}
use denote.RattleType.{RattleType}
use denote.Memory.{lone, part_at, shared_of}
use denote.Sharing.{nothing, said, beside}
use denote.RawPtr.{Ptr, block_ptr, null_ptr}

module _ (R : RattleType) where
  -- one place, at the offset o of the block b: a value, or room for one
  abbrev pub place_at : ℕ → ℕ → Option R.Denot → Fml
  place_at b o None = froom (raw (lone R.mir)) b o
  place_at b o (Some x) = part_at R full_share x b o

  -- places side by side, from the offset o on
  abbrev pub places_at : ℕ → ℕ → List (Option R.Denot) → Fml
  places_at b o [] = ftrue
  places_at b o (c ∷ cs) = fsep (place_at b o c) (places_at b (o + type_size R) cs)

  -- one place more than n would fit a block, too; so a single value does
  abbrev pub small : ℕ → Fml
  small n = flt (suc n * type_size R) (2 ^ 63)

  -- all that `Places` owns: the places, and the right to free the block
  abbrev pub owned : (Ty → Ptr → Fml) → Ptr → List (Option R.Denot) → Fml
  owned token (block_ptr b o) cs = fsep (small (length cs)) (fsep (places_at b o cs) (token (raw (ty_array (lone R.mir) (length cs))) (block_ptr b o)))
  owned token null_ptr cs = ffalse

  -- what a `&` shows of a place, and of places side by side
  abbrev pub place_lent : ℕ → ℕ → Option R.Denot → Lft → Fml
  place_lent b o None = nothing
  place_lent b o (Some x) = shared_of R x b o

  abbrev pub places_lent : ℕ → ℕ → List (Option R.Denot) → Lft → Fml
  places_lent b o [] = nothing
  places_lent b o (c ∷ cs) = beside (place_lent b o c) (places_lent b (o + type_size R) cs)

  abbrev pub lent : Ptr → List (Option R.Denot) → Lft → Fml
  lent (block_ptr b o) cs = beside (said (small (length cs))) (places_lent b o cs)
  lent null_ptr cs = said ffalse
