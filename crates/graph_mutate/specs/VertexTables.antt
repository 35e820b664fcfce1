-- A vertex table in another order.
use Rattle.std.specs.Prelude.{ℕ, List}
use Rattle.graph_model.specs.Graph.{GraphData}
use Rattle.graph_slots.specs.declared.part.Part.{Part}
use Rattle.graph_slots.specs.Meaning.{longs, cells, vertex_prop_kind, vertex_prop_values}
use Rattle.graph_columns.specs.Keys.{vertex_keys_at}
use Rattle.graph_mutate.specs.Taken.{taken}

-- the keys, and the values of a property, at these places
abbrev pub taken_keys : GraphData → ℕ → List ℕ → Part
taken_keys g t places = longs (taken (vertex_keys_at g t) places)

abbrev pub taken_values : GraphData → ℕ → List ℕ → ℕ → Part
taken_values g t places p = cells (vertex_prop_kind g.schema t p) (taken (vertex_prop_values g t p) places)
