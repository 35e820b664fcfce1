-- A `&` to `Places` is made of a borrow.
use Rattle.scatter_buf.proofs.Steps.{[], ◌++◌, Incl-trans, meet_⊑_left, RattleType, Laws, copy_shared, RawPtr-field, RawPtr-copy, field_copy, of_Lends, Ghosts}
use Rattle.std.specs.contracts.marker.PhantomData as marker
use Rattle.scatter_buf.specs.contracts.places.Places as places
use Rattle.scatter_buf.proofs.places.Places.TheLaw.Statement.{statement}
use Rattle.scatter_buf.proofs.Sharing.{lent_laws, owned_lends}

pub shares : (R A : RattleType) (g : Ghosts A.Denot) (L : Laws R) (K : Laws A) → statement R A g L K
shares R A g L K =
    of_Lends (places.struct R A g) (places.the_codes R.Denot A.Denot R.coded A.coded (marker.the_row A).coded) (places.the_heap R A g) (places.the_lent R A g)
    (λ d p. lent_laws R L.shr_laws d.start d.values) (copy_shared RawPtr-field RawPtr-copy, (copy_shared (marker.the_field A) (field_copy (marker.the_type A) tt), tt))
    (λ M 𝓤 𝓛 d p. let l = (places.the_row R A g).lives in
    owned_lends 𝓛 R L l (Incl-trans (meet_⊑_left (R.lives ++ (A.lives ++ [])) _) (meet_⊑_left R.lives (A.lives ++ []))) (g.dealloc_token d.heap) d.start d.values)
