-- parts that are appended one after another
use Rattle.std.proofs.Common.{◌≡◌, List, [], ◌∷◌, ◌++◌, map, ap, ◌∙◌, append_assoc}
use Rattle.column_types.specs.Column.{ColumnData}
use Rattle.graph_model.specs.declared.columns.EdgeColumns.{EdgeColumns}
use Rattle.graph_slots.specs.declared.part.Part.{Part}
use Rattle.graph_slots.specs.declared.part.Part.TheVariants.{Cells}
use Rattle.graph_slots.specs.Meaning.{longs, edge_rows}
use Rattle.graph_columns.specs.Keys.{key_column}
use Rattle.graph_columns.specs.TableParts.{edge_parts, integers, places_told}

pub four_pushed : {X : Type 0} (old one two three four : List X) (a b c d : X) → one ≡ old ++ a ∷ [] → two ≡ one ++ b ∷ [] → three ≡ two ++ c ∷ [] → four ≡ three ++ d ∷ [] → four ≡ old ++ a ∷ b ∷ c ∷ d ∷ []
four_pushed old one two three four a b c d e f g h =
    h
    ∙ ap (λ xs. xs ++ d ∷ []) (g ∙ ap (λ xs. xs ++ c ∷ []) (f ∙ ap (λ xs. xs ++ b ∷ []) e ∙ append_assoc old (a ∷ []) (b ∷ [])) ∙ append_assoc old (a ∷ b ∷ []) (c ∷ []))
    ∙ append_assoc old (a ∷ b ∷ c ∷ []) (d ∷ [])

pub four_are : {X : Type 0} (old all : List X) (a b c d p q r s : X) → all ≡ old ++ a ∷ b ∷ c ∷ d ∷ [] → a ≡ p → b ≡ q → c ≡ r → d ≡ s → all ≡ old ++ p ∷ q ∷ r ∷ s ∷ []
four_are old all a b c d p q r s e f g h i =
    e ∙ ap (λ x. old ++ x ∷ b ∷ c ∷ d ∷ []) f ∙ ap (λ x. old ++ p ∷ x ∷ c ∷ d ∷ []) g ∙ ap (λ x. old ++ p ∷ q ∷ x ∷ d ∷ []) h ∙ ap (λ x. old ++ p ∷ q ∷ r ∷ x ∷ []) i

-- the parts of an edge table
pub edge_parts_pushed : (c : EdgeColumns) (column : ColumnData) (old pushed ended done : List Part) → column ≡ key_column c.keys → pushed ≡ old ++ Cells column ∷ [] → ended ≡ pushed ++ integers c.sources ∷ integers c.destinations ∷ edge_rows (places_told c.sources) ∷ edge_rows (places_told c.destinations) ∷ [] → done ≡ ended ++ map Cells c.values → done ≡ old ++ edge_parts c
edge_parts_pushed c column old pushed ended done is grown ends_grown more =
    let first = longs c.keys in
    let ends = integers c.sources ∷ integers c.destinations ∷ edge_rows (places_told c.sources) ∷ edge_rows (places_told c.destinations) ∷ [] in
    let props = map Cells c.values in
    more ∙ ap (λ xs. xs ++ props) (ends_grown ∙ ap (λ xs. xs ++ ends) (grown ∙ ap (λ d. old ++ Cells d ∷ []) is) ∙ append_assoc old (first ∷ []) ends)
    ∙ append_assoc old (first ∷ ends) props
