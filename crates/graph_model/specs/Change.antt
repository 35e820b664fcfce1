-- Changes of graphs.
use Rattle.std.specs.Prelude.{◌≡◌, ℕ, ◌+◌, Bool, false, not, ◌||◌, ◌==◌, nat_lt, if◌then◌else◌, List, [], ◌∷◌, ◌++◌, length, slice_set, slice_get, take, fold, Option, Some, None, Result, Ok, Err}
use Rattle.column_types.specs.declared.value.Value.{Value}
use Rattle.column_types.specs.Value.{fits_kind}
use Rattle.graph_schema.specs.declared.schema.Prop.{Prop}
use Rattle.graph_model.specs.declared.row.VertexRow.{VertexRow}
use Rattle.graph_model.specs.declared.row.EdgeRow.{EdgeRow}
use Rattle.graph_model.specs.declared.change.Change.{Change}
use Rattle.graph_model.specs.declared.change.Change.TheVariants.{InsertVertex, DeleteVertex, InsertEdge, DeleteEdge, SetVertex, SetEdge}
use Rattle.graph_model.specs.declared.change.Why.{Why}
use Rattle.graph_model.specs.declared.change.Why.TheVariants.{Table, Count, Prop as NoProp, Kind, KeyTaken, KeyMissing, EndMissing, HasEdges, Limit}
use Rattle.graph_model.specs.declared.change.ApplyFault.{ApplyFault}
use Rattle.graph_model.specs.declared.change.ApplyFault.TheVariants.{Misfit, NoMemory}
use Rattle.graph_model.specs.Keys.{rows_at, is_taken, without_key, change_at_key}
use Rattle.graph_model.specs.Graph.{GraphData, vertex_props_at, edge_props_at, source_at, destination_at, vertex_key, edge_key, has_vertex_in, has_edge_in, is_end, kinds_fit, vertex_total, edge_total, cell_total, most_vertices, most_edges, most_cells}

-- ---- whether a change fits

-- a value is NULL or of the property's kind; no value fits where there is no property
abbrev pub prop_fits : Option Prop → Value → Bool
prop_fits None v = false
prop_fits (Some q) v = fits_kind q.kind v

abbrev pub kind_fits_at : List Prop → ℕ → Value → Bool
kind_fits_at props p v = prop_fits (slice_get props p) v

-- the first cause, in the order of `Why`, for which a change does not fit a graph
abbrev pub misfit : GraphData → Change → Option Why
misfit g (InsertVertex t k vs) =
    if not (nat_lt t (length g.schema.vertices)) then Some Table
    else if not (length vs == length (vertex_props_at g.schema t)) then Some Count
    else if not (kinds_fit (vertex_props_at g.schema t) vs) then Some Kind
    else if is_taken g.schema.keys vertex_key k g.vertices t then Some KeyTaken
    else if nat_lt most_vertices (vertex_total g + 1) || nat_lt most_cells (cell_total g + length vs) then Some Limit
    else None
misfit g (DeleteVertex t k) =
    if not (nat_lt t (length g.schema.vertices)) then Some Table
    else if not (has_vertex_in k (rows_at g.vertices t)) then Some KeyMissing
    else if is_end g.schema t k g.edges then Some HasEdges
    else None
misfit g (InsertEdge t k s d vs) =
    if not (nat_lt t (length g.schema.edges)) then Some Table
    else if not (length vs == length (edge_props_at g.schema t)) then Some Count
    else if not (kinds_fit (edge_props_at g.schema t) vs) then Some Kind
    else if is_taken g.schema.keys edge_key k g.edges t then Some KeyTaken
    else if not (has_vertex_in s (rows_at g.vertices (source_at g.schema t))) || not (has_vertex_in d (rows_at g.vertices (destination_at g.schema t))) then Some EndMissing
    else if nat_lt most_edges (edge_total g + 1) || nat_lt most_cells (cell_total g + length vs) then Some Limit
    else None
misfit g (DeleteEdge t k) =
    if not (nat_lt t (length g.schema.edges)) then Some Table
    else if not (has_edge_in k (rows_at g.edges t)) then Some KeyMissing
    else None
misfit g (SetVertex t k p v) =
    if not (nat_lt t (length g.schema.vertices)) then Some Table
    else if not (nat_lt p (length (vertex_props_at g.schema t))) then Some NoProp
    else if not (kind_fits_at (vertex_props_at g.schema t) p v) then Some Kind
    else if not (has_vertex_in k (rows_at g.vertices t)) then Some KeyMissing
    else None
misfit g (SetEdge t k p v) =
    if not (nat_lt t (length g.schema.edges)) then Some Table
    else if not (nat_lt p (length (edge_props_at g.schema t))) then Some NoProp
    else if not (kind_fits_at (edge_props_at g.schema t) p v) then Some Kind
    else if not (has_edge_in k (rows_at g.edges t)) then Some KeyMissing
    else None

-- ---- what a change makes of a graph

-- the tables with other rows in one
abbrev pub with_rows : {R : Type 0} → List (List R) → ℕ → List R → List (List R)
with_rows tables t rows = slice_set tables t rows

-- a row with another value of a property
abbrev pub with_vertex_value : ℕ → Value → VertexRow → VertexRow
with_vertex_value p v r = record { key = r.key; values = slice_set r.values p v }

abbrev pub with_edge_value : ℕ → Value → EdgeRow → EdgeRow
with_edge_value p v r = record { key = r.key; source = r.source; destination = r.destination; values = slice_set r.values p v }

-- a graph after a change that fits: insert goes last, delete closes up, set changes one value
abbrev pub changed : GraphData → Change → GraphData
changed g (InsertVertex t k vs) =
    record g { vertices = with_rows g.vertices t (rows_at g.vertices t ++ record { key = k; values = vs } ∷ []) }
changed g (DeleteVertex t k) =
    record g { vertices = with_rows g.vertices t (without_key vertex_key k (rows_at g.vertices t)) }
changed g (InsertEdge t k s d vs) =
    record g { edges = with_rows g.edges t (rows_at g.edges t ++ record { key = k; source = s; destination = d; values = vs } ∷ []) }
changed g (DeleteEdge t k) =
    record g { edges = with_rows g.edges t (without_key edge_key k (rows_at g.edges t)) }
changed g (SetVertex t k p v) =
    record g { vertices = with_rows g.vertices t (change_at_key vertex_key k (with_vertex_value p v) (rows_at g.vertices t)) }
changed g (SetEdge t k p v) =
    record g { edges = with_rows g.edges t (change_at_key edge_key k (with_edge_value p v) (rows_at g.edges t)) }

abbrev pub changed_unless : Option Why → GraphData → Change → GraphData
changed_unless (Some why) g c = g
changed_unless None g c = changed g c

-- a graph after a change; one that does not fit leaves it
abbrev pub apply : GraphData → Change → GraphData
apply g c = changed_unless (misfit g c) g c

-- a graph after the first k changes of a list
abbrev pub after : GraphData → List Change → ℕ → GraphData
after g changes k = fold apply g (take k changes)

-- what a call that applies a change answers and leaves: Ok where it fits and was made, the cause where it does not fit,
-- and the graph as it was after each error
abbrev pub Applies : GraphData → Change → Result (Unit {0}) ApplyFault → GraphData → Type 0
Applies old c (Ok u) new = (misfit old c ≡ None) × (new ≡ changed old c)
Applies old c (Err (Misfit why)) new = (misfit old c ≡ Some why) × (new ≡ old)
Applies old c (Err NoMemory) new = new ≡ old
