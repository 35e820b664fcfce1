-- What the proofs by hand are given: the type parameters, `Places` over them, and the machine value of one.
use Rattle.scatter_buf.proofs.Steps.{List, [], ◌∷◌, Ura, Fml, ftrue, flft, Logic, Goal, Seq, Item, ‵, raw, ◌⊛◌, ◌$◌, move, split, drop, ◌⊑◌, Lfts, Shares, fact, heard, ◌≡◌, ℕ, ◌*◌, ◌<◌, ◌^◌, Ty, Args, a_type, ty_array, dcons, dnil, raw_ty, size, align, capped, capped_is, size-raw, align-raw, Val, vstruct, vcons, vnil, RattleType, param, bounded, param_laws, Ptr, ptr_val, shape, Lowered, Struct, El, R, elτ, sz, Al}
use Rattle.scatter_buf.specs.contracts.places.Places as places
use Rattle.scatter_buf.proofs.places.Places.TheLaws.{lowers}

module _ (E : El) (Z : Al) where
  abbrev pub args : Args
  args = bounded (a_type ∷ a_type ∷ []) (E.row, (Z.row, tt)) (dcons Z.d (dcons Z.drops dnil))

  abbrev pub HeapRow : RattleType
  HeapRow = param 1 Z.row

  abbrev pub PlacesRow : RattleType
  PlacesRow = places.the_row (R E) HeapRow Z.g

  -- its data fields, as a plain struct
  abbrev pub Fields : RattleType
  Fields = Struct (shape (places.the_type (R E) HeapRow Z.g))

  abbrev pub lowered : Lowered (places.the_type (R E) HeapRow Z.g)
  lowered = lowers (R E) HeapRow Z.g (param_laws 0 E.row E.laws) (param_laws 1 Z.row Z.laws)

-- the machine value of `Places`: a pointer, and a `PhantomData`
abbrev pub places_val : Ptr → Val
places_val p = vstruct (vcons (ptr_val p) (vcons (vstruct vnil) vnil))

module _ (E : El) where
  -- what a block of n places is allocated for
  abbrev pub block_ty : ℕ → Ty
  block_ty n = raw_ty (ty_array (elτ E) n)

  -- its size and alignment, as the allocator is told them
  pub block_layout : (n : ℕ) → n * sz E < 2 ^ 64 → (capped (size (block_ty n)) ≡ n * sz E) × (capped (align (block_ty n)) ≡ capped (align (elτ E)))
  block_layout n fits = let array = ty_array (elτ E) n in (rw (size-raw array) (capped_is (n * sz E) fits), rw (align-raw array))

-- the tokens of the lifetimes: of the reference, and of the two type parameters
abbrev pub Others : {M : Type 1} {𝓤 : Ura M} → Lfts 3 → Shares 3 → Item 𝓤
Others κs qs = ‵ (flft κs.1.0 qs.1.0) ⊛ ‵ (flft κs.1.1.0 qs.1.1.0) ⊛ ‵ ftrue

abbrev pub Alive : {M : Type 1} {𝓤 : Ura M} → Lfts 3 → Shares 3 → Item 𝓤
Alive κs qs = ‵ (flft κs.0 qs.0) ⊛ Others κs qs

-- what each function begins with: the tokens, what its parameters own, and what it requires
abbrev pub Entry : {M : Type 1} (𝓤 : Ura M) → (E : El) (Z : Al) (κs : Lfts 3) (qs : Shares 3) → Fml → Type 0 → List (Item 𝓤)
Entry 𝓤 E Z κs qs params Asked = (Alive κs qs ⊛ ‵ params) ∷ (raw (fact 𝓤 (κs.1.0 ⊑ E.row.lives)) ⊛ raw (fact 𝓤 (κs.1.1.0 ⊑ Z.row.lives)) ⊛ raw (fact 𝓤 Asked)) ∷ []

-- [what the parameters own; the token of the reference; the other tokens]
pub starts : {M : Type 1} {𝓤 : Ura M} {𝓛 : Logic 𝓤} {K : Type 0} {G : Goal 𝓤 𝓛.H} → K → (E : El) (Z : Al) (κs : Lfts 3) (qs : Shares 3) (params : Fml) (Asked : Type 0)
    → (κs.1.1.0 ⊑ Z.row.lives → Asked → Seq K 𝓛 (‵ params ∷ ‵ (flft κs.0 qs.0) ∷ Others κs qs ∷ []) G) → Seq K 𝓛 (Entry 𝓤 E Z κs qs params Asked) G
starts t E Z κs qs params Asked next =
    move t (1 ∷ []) $ split t $ drop t $ split t $ heard t (κs.1.1.0 ⊑ Z.row.lives) (λ inside. heard t Asked (λ asked. split t $ split t $ move t (2 ∷ []) $ next inside asked))
