-- lists that tell the edges that stay
use Rattle.std.proofs.Common.{◌≡◌, ℕ, ◌<◌, pos, [], Some, All, length, map, slice_get, ap, sym, ◌∙◌}
use Rattle.std.specs.Prelude.{◌==◌}
use Rattle.graph_schema.specs.declared.schema.EdgeTable.{EdgeTable}
use Rattle.graph_model.specs.declared.row.EdgeRow.{EdgeRow}
use Rattle.graph_model.specs.Keys.{rows_at}
use Rattle.graph_model.specs.Graph.{GraphData, edge_key, edge_values, source_at, destination_at, source_table, destination_table}
use Rattle.graph_slots.specs.Meaning.{source_places, destination_places, place_in}
use Rattle.graph_columns.specs.Keys.{edge_keys_at}
use Rattle.graph_mutate.specs.declared.edge_lists.EdgeLists.{EdgeLists}
use Rattle.graph_mutate.specs.Taken.{taken}
use Rattle.graph_mutate.specs.EdgeTables.{Tells}
use Rattle.graph_mutate.specs.Simplified.{simple, simple_from, simplified}
use Rattle.graph_mutate.proofs.Gathering.{map-taken}
use Rattle.graph_mutate.proofs.Zipped.{zipped_rows}

-- edges of a table at places
pub record TakenLists (g : GraphData) (t : ℕ) (e : EdgeLists) : Type 0 where
  pub keys : e.keys ≡ taken (edge_keys_at g t) e.origins
  pub sources : e.sources ≡ taken (map pos (source_places g t)) e.origins
  pub destinations : e.destinations ≡ taken (map pos (destination_places g t)) e.origins
  pub origins : All (λ p. p < length (rows_at g.edges t)) e.origins

pub simple_told : (g : GraphData) (t : ℕ) (x : EdgeTable) (e : EdgeLists) → slice_get g.schema.edges t ≡ Some x → t < length g.edges → taken (rows_at g.edges t) e.origins ≡ simple_from (source_at g.schema t == destination_at g.schema t) [] (rows_at g.edges t) → TakenLists g t e → Tells g (simplified g) t e
simple_told g t x e there within stay w =
    let old = rows_at g.edges t in
    let new = rows_at (simplified g).edges t in
    let rows : taken old e.origins ≡ new =
    stay ∙ ap (λ o. simple_from (source_table o == destination_table o) [] old) there ∙ sym (zipped_rows simple g.schema.edges g.edges t x there within) in
    let from : EdgeRow → ℕ = λ r. place_in (rows_at g.vertices (source_at g.schema t)) r.source in
    let to : EdgeRow → ℕ = λ r. place_in (rows_at g.vertices (destination_at g.schema t)) r.destination in
    let ends : (f : EdgeRow → ℕ) → taken (map pos (map f old)) e.origins ≡ map pos (map f new) = λ f. sym (ap (map pos) (map-taken f old e.origins) ∙ map-taken pos (map f old) e.origins) ∙ ap (λ rs. map pos (map f rs)) rows in
    record {
      keys = w.keys ∙ sym (map-taken edge_key old e.origins) ∙ ap (map edge_key) rows;
      sources = w.sources ∙ ends from;
      destinations = w.destinations ∙ ends to;
      values = ap (map edge_values) (sym rows) ∙ map-taken edge_values old e.origins;
      origins = w.origins;
    }
