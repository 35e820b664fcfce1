-- the slots of new edge tables
use Rattle.std.proofs.Common.{◌≡◌, ℕ, zero, suc, ◌+◌, ◌*◌, ◌<◌, List, [], ◌∷◌, ◌++◌, Some, length, get_or, map, slice_get, refl, ap, sym, ◌∙◌, arith, append_assoc, add-one}
use Rattle.std.specs.List.{range_with_len}
use Rattle.std.proofs.Math.Nat.{suc-mul}
use Rattle.std.proofs.lemmas.List.FromFn.{map-range_with_len_more}
use Rattle.std.proofs.lemmas.Option.{slice_get-get_or}
use Rattle.column_types.specs.Column.{ColumnData}
use Rattle.graph_schema.specs.declared.schema.VertexTable.{VertexTable}
use Rattle.graph_schema.specs.declared.schema.EdgeTable.{EdgeTable}
use Rattle.graph_schema.specs.Schema.{SchemaData}
use Rattle.graph_model.specs.Graph.{GraphData, edge_props_at, edge_table_props, vertex_props_at, vertex_table_props}
use Rattle.graph_slots.specs.declared.part.Part.{Part}
use Rattle.graph_slots.specs.declared.part.Part.TheVariants.{Cells}
use Rattle.graph_slots.specs.declared.slot.SlotName.TheVariants.{EdgeProp}
use Rattle.graph_slots.specs.Meaning.{slot_value, cells, longs, edge_rows, edge_prop_kind, edge_prop_values}
use Rattle.graph_slots.proofs.Kept.{map_map}
use Rattle.graph_columns.specs.TableParts.{integers, places_told}
use Rattle.graph_snap.proofs.Readers.{same_cells}
use Rattle.graph_snap.specs.declared.derived.Derived.{Derived}
use Rattle.graph_snap.specs.declared.derived.Derived.TheVariants.{New}
use Rattle.graph_mutate.specs.declared.edge_lists.EdgeLists.{EdgeLists}
use Rattle.graph_mutate.specs.Taken.{taken}
use Rattle.graph_mutate.specs.EdgeTables.{taken_prop, list_parts}

-- one more item that a function gives of a place
pub range_mapped : {X : Type 0} (f : ℕ → X) (old before after : List X) (p : ℕ) → before ≡ old ++ map f (range_with_len 0 p) → after ≡ before ++ f p ∷ [] → after ≡ old ++ map f (range_with_len 0 (p + 1))
range_mapped f old before after p so_far grown =
    grown ∙ ap (λ xs. xs ++ f p ∷ []) so_far ∙ append_assoc old (map f (range_with_len 0 p)) (f p ∷ [])
    ∙ ap (λ xs. old ++ xs) (sym (map-range_with_len_more f 0 p p (omega arith)))

-- one more row
pub one_more_time : (p n : ℕ) → (p + 1) * n ≡ p * n + n
one_more_time p n = ap (λ k. k * n) (add-one p) ∙ suc-mul p n

-- a table that was read
pub shape_there : {X : Type 0} (xs ys : List X) (t : ℕ) (x : X) → ys ≡ xs → t < length xs → x ≡ get_or ys t x → slice_get xs t ≡ Some x
shape_there xs ys t x same within is =
    slice_get-get_or xs t x within ∙ ap (λ zs. Some (get_or zs t x)) (sym same) ∙ ap Some (sym is)

pub shape_read : {X : Type 0} (xs ys : List X) (t : ℕ) (x : X) → ys ≡ xs → t < length ys → x ≡ get_or ys t x → slice_get xs t ≡ Some x
shape_read xs ys t x same within is = ap (λ zs. slice_get zs t) (sym same) ∙ slice_get-get_or ys t x within ∙ ap Some (sym is)

pub edge_width : (s : SchemaData) (t : ℕ) (x : EdgeTable) → slice_get s.edges t ≡ Some x → length (edge_props_at s t) ≡ length x.props
edge_width s t x there = ap (λ o. length (edge_table_props o)) there

pub vertex_width : (s : SchemaData) (t : ℕ) (x : VertexTable) → slice_get s.vertices t ≡ Some x → length (vertex_props_at s t) ≡ length x.props
vertex_width s t x there = ap (λ o. length (vertex_table_props o)) there

-- the column of a property
pub record PropColumn (g : GraphData) (t p : ℕ) (c : ColumnData) : Type 0 where
  pub kind : c.kind ≡ edge_prop_kind g.schema t p
  pub values : c.values ≡ edge_prop_values g t p

pub prop_column : (g : GraphData) (t p : ℕ) (c : ColumnData) → slot_value g (EdgeProp t p) ≡ Cells c → PropColumn g t p c
prop_column g t p c e =
    let same = same_cells (record { kind = edge_prop_kind g.schema t p; values = edge_prop_values g t p }) c e in
    record { kind = sym (ap (λ d. d.kind) same); values = sym (ap (λ d. d.values) same) }

pub prop_taken : (g : GraphData) (t p : ℕ) (origins : List ℕ) (c : ColumnData) (part : Part) → slot_value g (EdgeProp t p) ≡ Cells c → part ≡ Cells (record { kind = c.kind; values = taken c.values origins }) → part ≡ taken_prop g t origins p
prop_taken g t p origins c part is made =
    let column = prop_column g t p c is in
    made ∙ ap (λ k. cells k (taken c.values origins)) column.kind ∙ ap (λ vs. cells (edge_prop_kind g.schema t p) (taken vs origins)) column.values

-- the slots of a table that are appended one after another
pub edge_slots_pushed : (g : GraphData) (t : ℕ) (e : EdgeLists) (part : Part) (origins : List ℕ) (old pushed ended done : List Derived) → part ≡ longs e.keys → origins ≡ e.origins → pushed ≡ old ++ New part ∷ [] → ended ≡ pushed ++ New (integers e.sources) ∷ New (integers e.destinations) ∷ New (edge_rows (places_told e.sources)) ∷ New (edge_rows (places_told e.destinations)) ∷ [] → done ≡ ended ++ map (λ p. New (taken_prop g t origins p)) (range_with_len 0 (length (edge_props_at g.schema t))) → done ≡ old ++ map New (list_parts g t e)
edge_slots_pushed g t e part origins old pushed ended done is same grown ends more =
    let width = range_with_len 0 (length (edge_props_at g.schema t)) in
    let first = New (longs e.keys) in
    let four = New (integers e.sources) ∷ New (integers e.destinations) ∷ New (edge_rows (places_told e.sources)) ∷ New (edge_rows (places_told e.destinations)) ∷ [] in
    let props = map (λ p. New (taken_prop g t e.origins p)) width in
    more ∙ ap (λ os. ended ++ map (λ p. New (taken_prop g t os p)) width) same
    ∙ ap (λ xs. xs ++ props) (ends ∙ ap (λ xs. xs ++ four) (grown ∙ ap (λ p. old ++ New p ∷ []) is) ∙ append_assoc old (first ∷ []) four)
    ∙ append_assoc old (first ∷ four) props
    ∙ ap (λ xs. old ++ ((first ∷ four) ++ xs)) (sym (map_map (taken_prop g t e.origins) New (λ p. New (taken_prop g t e.origins p)) width (λ p. refl)))

-- ---- all places

range_push : (a n : ℕ) → range_with_len a (suc n) ≡ range_with_len a n ++ (a + n) ∷ []
range_push a zero = ap (λ k. k ∷ []) (let e : a ≡ a + 0 = omega arith in e)
range_push a (suc n) = ap (λ xs. a ∷ xs) (range_push (a + 1) n ∙ ap (λ k. range_with_len (a + 1) n ++ k ∷ []) (let e : (a + 1) + n ≡ a + suc n = omega arith in e))

pub range_more : (n : ℕ) (places after : List ℕ) → places ≡ range_with_len 0 n → after ≡ places ++ n ∷ [] → after ≡ range_with_len 0 (n + 1)
range_more n places after so_far grown =
    grown ∙ ap (λ xs. xs ++ n ∷ []) so_far ∙ ap (λ k. range_with_len 0 n ++ k ∷ []) (let e : n ≡ 0 + n = omega arith in e)
    ∙ sym (range_push 0 n) ∙ ap (range_with_len 0) (let e : suc n ≡ n + 1 = omega arith in e)
