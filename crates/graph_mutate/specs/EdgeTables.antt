-- A new edge table, told by lists.
use Rattle.std.specs.Prelude.{◌≡◌, ℕ, ◌+◌, ◌*◌, ◌<◌, pos, List, ◌∷◌, All, length, map}
use Rattle.std.specs.List.{range_with_len}
use Rattle.graph_model.specs.Keys.{rows_at}
use Rattle.graph_model.specs.Graph.{GraphData, edge_values, edge_props_at}
use Rattle.graph_slots.specs.declared.part.Part.{Part}
use Rattle.graph_slots.specs.Meaning.{source_places, destination_places, edge_prop_kind, edge_prop_values, cells, longs, edge_rows}
use Rattle.graph_columns.specs.Keys.{edge_keys_at}
use Rattle.graph_columns.specs.TableParts.{ArePlaces, integers, places_told}
use Rattle.graph_mutate.specs.declared.edge_lists.EdgeLists.{EdgeLists}
use Rattle.graph_mutate.specs.Taken.{taken}

-- the lists tell the edges of a table of the new graph: their keys and the places of their ends, and for each of them the place
-- of an edge of the old graph that has its values
pub record Tells (old new : GraphData) (t : ℕ) (e : EdgeLists) : Type 0 where
  pub keys : e.keys ≡ edge_keys_at new t
  pub sources : e.sources ≡ map pos (source_places new t)
  pub destinations : e.destinations ≡ map pos (destination_places new t)
  pub values : map edge_values (rows_at new.edges t) ≡ taken (map edge_values (rows_at old.edges t)) e.origins
  pub origins : All (λ p. p < length (rows_at old.edges t)) e.origins

-- the lists are those of a table
pub record AreLists (base : GraphData) (t : ℕ) (e : EdgeLists) : Type 0 where
  pub few_keys : length e.keys < 4294967295
  pub few_sources : length e.sources < 4294967295
  pub few_destinations : length e.destinations < 4294967295
  pub few_origins : length e.origins < 4294967295
  pub sources : ArePlaces e.sources
  pub destinations : ArePlaces e.destinations
  pub origins : All (λ p. p < length (rows_at base.edges t)) e.origins

-- the values of a property at these places of the old table
abbrev pub taken_prop : GraphData → ℕ → List ℕ → ℕ → Part
taken_prop base t origins p = cells (edge_prop_kind base.schema t p) (taken (edge_prop_values base t p) origins)

-- what the slots of the new table hold, in slot order
abbrev pub list_parts : GraphData → ℕ → EdgeLists → List Part
list_parts base t e =
    longs e.keys ∷ integers e.sources ∷ integers e.destinations ∷ edge_rows (places_told e.sources) ∷ edge_rows (places_told e.destinations) ∷ map (taken_prop base t e.origins) (range_with_len 0 (length (edge_props_at base.schema t)))

-- a step for each value of each of them
abbrev pub list_steps : GraphData → ℕ → EdgeLists → ℕ
list_steps base t e =
    (length e.keys + (length e.sources + length e.destinations) + (length e.sources + length e.destinations)) + length (edge_props_at base.schema t) * length e.origins
