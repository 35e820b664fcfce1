-- A `&` to `Places` shows the values that are there, and the bound on the size.
use Rattle.scatter_buf.proofs.Steps.{ℕ, ◌+◌, List, [], ◌∷◌, length, Ura, Ty, ty_array, raw_ty, Lft, Fml, Incl, ftrue, ffalse, fsep, Logic, RattleType, RowLaws, lone, Laws, Ptr, block_ptr, null_ptr, ShrLaws, said, nothing_shr_laws, said_shr_laws, beside_shr_laws, Shares-less, Lends, Lends-nothing, Lends-said, Lends-false, Lends-first, Lends-both, Option, Some, None, type_size}
use Rattle.scatter_buf.specs.Memory.{small, place_at, places_at, owned, place_lent, places_lent, lent}

-- what is shown may be copied and used for a shorter time
module _ (R : RattleType) (laws : RowLaws R) where
  place_lent_laws : (b o : ℕ) (c : Option R.Denot) → ShrLaws (place_lent R b o c)
  place_lent_laws b o None = nothing_shr_laws
  place_lent_laws b o (Some x) = laws x b o

  places_lent_laws : (b o : ℕ) (cs : List (Option R.Denot)) → ShrLaws (places_lent R b o cs)
  places_lent_laws b o [] = nothing_shr_laws
  places_lent_laws b o (c ∷ cs) = let next = o + type_size R in
      beside_shr_laws (place_lent R b o c) (places_lent R b next cs) (place_lent_laws b o c) (places_lent_laws b next cs)

  pub lent_laws : (p : Ptr) (cs : List (Option R.Denot)) → ShrLaws (lent R p cs)
  lent_laws null_ptr cs = said_shr_laws ffalse tt
  lent_laws (block_ptr b o) cs =
      beside_shr_laws (said (small R (length cs))) (places_lent R b o cs) (said_shr_laws (small R (length cs)) tt) (places_lent_laws b o cs)

-- it is made of a borrow of what is owned
module _ {M : Type 1} {𝓤 : Ura M} (𝓛 : Logic 𝓤) (R : RattleType) (laws : Laws R) (l : Lft) (within : Incl l R.lives) where
  place_lends : (b o : ℕ) (c : Option R.Denot) → Lends 𝓛 (place_at R b o c) (place_lent R b o c) l
  place_lends b o None = Lends-nothing 𝓛 (place_at R b o None) l
  place_lends b o (Some x) = λ κ ts. Shares-less 𝓛 R R.lives l within (laws.shares 𝓛) x κ ts b o

  places_lend : (b o : ℕ) (cs : List (Option R.Denot)) → Lends 𝓛 (places_at R b o cs) (places_lent R b o cs) l
  places_lend b o [] = Lends-nothing 𝓛 ftrue l
  places_lend b o (c ∷ cs) = let next = o + type_size R in
      Lends-both 𝓛 (place_at R b o c) (places_at R b next cs) (place_lent R b o c) (places_lent R b next cs) l (place_lends b o c) (places_lend b next cs)

  pub owned_lends : (token : Ty → Ptr → Fml) (p : Ptr) (cs : List (Option R.Denot)) → Lends 𝓛 (owned R token p cs) (lent R p cs) l
  owned_lends token null_ptr cs = Lends-false 𝓛 (said ffalse) l
  owned_lends token (block_ptr b o) cs =
      let few = small R (length cs) in let right = token (raw_ty (ty_array (lone R.mir) (length cs))) (block_ptr b o) in
      Lends-both 𝓛 few (fsep (places_at R b o cs) right) (said few) (places_lent R b o cs) l (Lends-said 𝓛 few tt l)
      (Lends-first 𝓛 (places_at R b o cs) right (places_lent R b o cs) l (places_lend b o cs))
