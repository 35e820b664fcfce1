use Rattle.std.proofs.Common.{◌++◌, pos, map, ap, ◌∙◌}
use Rattle.graph_slots.specs.Meaning.{source_places, destination_places}
use Rattle.graph_columns.specs.Keys.{edge_keys_at}
use Rattle.graph_columns.proofs.SlotParts.{item_at}
use Rattle.graph_mutate.specs.Taken.{taken}
use Rattle.graph_mutate.proofs.ReverseLists.{edges_within}
use Rattle.graph_mutate.proofs.SimpleTold.{simple_told}
use Rattle.graph_mutate.proofs.simplify.simple_edges.Goals as goal

pub returns : goal.returns
returns c =
    let g = c.args.base.now in
    let t = c.args.table in
    let origins = c.in_ok-origins.origins in
    let shape = item_at g.schema.edges t c.requires in
    simple_told g t shape.item _ shape.there (edges_within g t c.sound.ensures c.requires) c.in_ok-origins.ensures.taken
    (record {
      keys = c.in_ok-keys.ensures ∙ ap (taken (edge_keys_at g t)) c.as_slice.ensures;
      sources = c.in_ok-push_ends.ensures ∙ ap (λ es. es ++ taken c.source_places.result.now c.as_slice-2.result.now) c.new-sources.ensures ∙ ap (λ es. taken es c.as_slice-2.result.now) c.source_places.ensures ∙ ap (taken (map pos (source_places g t))) c.as_slice-2.ensures;
      destinations = c.in_ok-push_ends-2.ensures ∙ ap (λ es. es ++ taken c.destination_places.result.now c.as_slice-3.result.now) c.new-destinations.ensures ∙ ap (λ es. taken es c.as_slice-3.result.now) c.destination_places.ensures ∙ ap (taken (map pos (destination_places g t))) c.as_slice-3.ensures;
      origins = c.in_ok-origins.ensures.within;
    })
