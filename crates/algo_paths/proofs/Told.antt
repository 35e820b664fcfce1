-- what a snapshot tells of the weight of an edge
use Rattle.std.proofs.Common.{◌≡◌, ℕ, ◌<◌, ◌≤◌, ℤ, Bool, true, false, not, cond, List, [], Some, None, pos, length, get_or, slice_get, map, option_map, refl, ap, sym, ◌∙◌, arith}
use Rattle.std.specs.Prelude.{nat_lt, position}
use Rattle.std.specs.List.{position_or_len}
use Rattle.std.proofs.lemmas.Bool.Decides.{nat_tests}
use Rattle.std.proofs.lemmas.List.Sums.{prefix_len-le-length}
use Rattle.std.proofs.lemmas.List.{get_or_past, length-map}
use Rattle.std.proofs.lemmas.List.Elements.{All-get_or}
use Rattle.std.proofs.lemmas.Option.{slice_get-map, slice_get_within, slice_get-get_or, get_or_from_slice_get, same_Some}
use Rattle.column_types.specs.declared.value.Value.{Value}
use Rattle.column_types.specs.declared.value.Value.TheVariants.{Null, Long}
use Rattle.graph_schema.specs.declared.schema.EdgeTable.{EdgeTable}
use Rattle.graph_model.specs.declared.row.EdgeRow.{EdgeRow}
use Rattle.graph_model.specs.Keys.{rows_at}
use Rattle.graph_model.specs.Graph.{GraphData, IsGraph, edge_props_at, edge_table_props}
use Rattle.graph_slots.specs.Meaning.{value_at, edge_prop_values}
use Rattle.graph_snap.specs.Reading.{edge_keys_at}
use Rattle.graph_schema.proofs.Sound.{few_edge_props}
use Rattle.graph_snap.proofs.GraphOf.{edge_widths}
use Rattle.graph_slots.proofs.SlotAt.{table_at}
use Rattle.graph_snap.proofs.Taken.{few_at}

-- the properties of a table that is there
pub props_of : (tables : List EdgeTable) (t : ℕ) (table : EdgeTable) → slice_get tables t ≡ Some table → edge_table_props (slice_get tables t) ≡ table.props
props_of tables t table at = ap edge_table_props at

module _ (g : GraphData) (t i : ℕ) (r : EdgeRow) (at : slice_get (rows_at g.edges t) i ≡ Some r) where
  -- past the last property of a table all values are NULL
  pub null_past : (p : ℕ) → IsGraph g → t < length g.schema.edges → length (edge_props_at g.schema t) ≤ p → value_at p r.values ≡ Null
  null_past p graph lt past =
      let rows = rows_at g.edges t in
      let wide : length (get_or rows i r).values ≡ length (edge_props_at g.schema t) =
      All-get_or (λ (x : EdgeRow). length x.values ≡ length (edge_props_at g.schema t)) rows i r (slice_get_within rows i r at) (edge_widths g t graph lt) in
      get_or_past r.values p Null (omega (arith, wide, ap (λ (x : EdgeRow). length x.values) (get_or_from_slice_get rows i r r at)))

  -- what is read at a place of a column is the row's
  pub value_read : (p : ℕ) (v : Value) → slice_get (edge_prop_values g t p) i ≡ Some v → value_at p r.values ≡ v
  value_read p v there =
      let f : EdgeRow → Value = λ (x : EdgeRow). value_at p x.values in
      same_Some (f r) v (sym (slice_get-map f (rows_at g.edges t) i ∙ ap (option_map f) at) ∙ there)

  -- the same where the column is read as numbers
  pub number_read : (p : ℕ) (numbers : List ℤ) (d : ℤ) → edge_prop_values g t p ≡ map Long numbers → value_at p r.values ≡ Long (get_or numbers i d)
  number_read p numbers d all =
      let long : length (edge_prop_values g t p) ≡ length numbers = ap length all ∙ length-map numbers Long in
      let within : i < length numbers = omega (arith, long, length-map (rows_at g.edges t) (λ (x : EdgeRow). value_at p x.values), slice_get_within (rows_at g.edges t) i r at) in
      value_read p (Long (get_or numbers i d)) (ap (λ (values : List Value). slice_get values i) all ∙ slice_get-map Long numbers i ∙ ap (option_map Long) (slice_get-get_or numbers i d within))

  pub key_read : (key : ℤ) → slice_get (edge_keys_at g t) i ≡ Some key → key ≡ r.key
  key_read key there =
      let f : EdgeRow → ℤ = λ (x : EdgeRow). x.key in
      sym (same_Some (f r) key (sym (slice_get-map f (rows_at g.edges t) i ∙ ap (option_map f) at) ∙ there))

blank_edge : EdgeRow
blank_edge = record { key = pos 0; source = pos 0; destination = pos 0; values = [] }

-- the row of a place of a table
pub row_there : (g : GraphData) (t i : ℕ) → i < length (rows_at g.edges t) → (r : EdgeRow) × (slice_get (rows_at g.edges t) i ≡ Some r)
row_there g t i lt = (get_or (rows_at g.edges t) i blank_edge, slice_get-get_or (rows_at g.edges t) i blank_edge lt)

-- ---- the place of the first that passes a test

found_by : {X : Type 0} (p : X → Bool) (xs : List X) (k : ℕ) (b : Bool) → cond b (Some (position_or_len p xs)) None ≡ Some k → k ≡ position_or_len p xs
found_by p xs k true e = sym (same_Some (position_or_len p xs) k e)
found_by p xs k false e = cc

pub place_found : {X : Type 0} (p : X → Bool) (xs : List X) (k : ℕ) → position p xs ≡ Some k → k ≡ position_or_len p xs
place_found p xs k e = found_by p xs k (nat_lt (position_or_len p xs) (length xs)) e

missing_by : {X : Type 0} (p : X → Bool) (xs : List X) (b : Bool) → nat_lt (position_or_len p xs) (length xs) ≡ b → cond b (Some (position_or_len p xs)) None ≡ None → length xs ≡ position_or_len p xs
missing_by p xs true is e = cc
missing_by p xs false is e = let most : position_or_len p xs ≤ length xs = prefix_len-le-length (λ x. not (p x)) xs in grind (arith, nat_tests)

pub place_missing : {X : Type 0} (p : X → Bool) (xs : List X) → position p xs ≡ None → length xs ≡ position_or_len p xs
place_missing p xs e = missing_by p xs (nat_lt (position_or_len p xs) (length xs)) refl e

-- ---- the properties of a table

-- a table has at most 64
pub few_props : (g : GraphData) (t : ℕ) → IsGraph g → t < length g.schema.edges → length (edge_props_at g.schema t) ≤ 64
few_props g t graph lt =
    let at = table_at g.schema.edges t lt in
    omega (arith, ap (λ o. length (edge_table_props o)) at.there, few_at (λ (x : EdgeTable). length x.props) g.schema.edges t at.table (few_edge_props g.schema graph.schema) at.there)
