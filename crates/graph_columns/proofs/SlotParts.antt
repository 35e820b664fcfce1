-- the values of one property of a table
use Rattle.std.proofs.Common.{◌≡◌, ℕ, zero, suc, ◌<◌, List, [], ◌∷◌, Some, All, length, slice_get, refl, sym, subst, arith}
use Rattle.graph_model.specs.Graph.{GraphData, IsGraph}
use Rattle.graph_slots.specs.Meaning.{source_places, destination_places}
use Rattle.graph_columns.proofs.EndPlaces.{sources_below, destinations_below, few_vertices_in}
use Rattle.graph_model.specs.Graph.{source_at, destination_at}

-- an item that is there
pub record Item {A : Type 0} (xs : List A) (i : ℕ) : Type 0 where
  pub item : A
  pub there : slice_get xs i ≡ Some item

pub item_at : {A : Type 0} (xs : List A) (i : ℕ) → i < length xs → Item xs i
item_at [] i h = absurd (omega arith)
item_at (x ∷ xs) zero h = record { item = x; there = refl }
item_at (x ∷ xs) (suc i) h = let r = item_at xs i (omega arith) in record { item = r.item; there = r.there }

-- ends are places of at most so many vertices
pub sources_few : (g : GraphData) (t : ℕ) (places : List ℕ) → IsGraph g → places ≡ source_places g t → All (λ p. p < 1048576) places
sources_few g t places is are =
    let below = sources_below g t is in
    subst (All (λ p. p < 1048576)) (sym are) (λ i d l. omega (arith, below i d l, few_vertices_in g (source_at g.schema t) is))

pub destinations_few : (g : GraphData) (t : ℕ) (places : List ℕ) → IsGraph g → places ≡ destination_places g t → All (λ p. p < 1048576) places
destinations_few g t places is are =
    let below = destinations_below g t is in
    subst (All (λ p. p < 1048576)) (sym are) (λ i d l. omega (arith, below i d l, few_vertices_in g (destination_at g.schema t) is))
