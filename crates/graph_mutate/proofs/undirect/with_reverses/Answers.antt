use Rattle.std.proofs.Common.{◌≤◌, ◌++◌, pos, length, map, ap, ◌∙◌, arith, rules, w64}
use Rattle.std.specs.List.{range_with_len}
use Rattle.std.proofs.lemmas.Int.{to_z-of_z}
use mir.Val.{to_z, of_z}
use Rattle.std.proofs.lemmas.List.{length-map}
use Rattle.graph_model.specs.Keys.{rows_at}
use Rattle.graph_slots.specs.Meaning.{source_places, destination_places}
use Rattle.graph_columns.proofs.EndPlaces.{few_edges_in}
use Rattle.graph_columns.proofs.AllSteps.{sources_long}
use Rattle.graph_columns.specs.Keys.{edge_keys_at}
use Rattle.graph_mutate.specs.Undirected.{keys_after}
use Rattle.graph_mutate.specs.Taken.{taken}
use Rattle.graph_mutate.proofs.Sizes.{straight_le}
use Rattle.graph_mutate.proofs.ReverseLists.{AreStraight, straight_long, reverses_told, edges_within}
use Rattle.graph_mutate.proofs.undirect.with_reverses.Goals as goal

pub overflow_cast-single : goal.overflow_cast-single
overflow_cast-single c =
    let g = c.args.base.now in
    let t = c.args.table in
    let long = straight_long g t c.args.single.now (record { taken_are = c.requires.taken; within = c.requires.within }) in
    let small : length c.args.single.now ≤ 4194304 = omega (arith, long, straight_le (rows_at g.edges t), few_edges_in g t c.sound.ensures) in
    search rules

pub push_ends-requires-2 : goal.push_ends-requires-2
push_ends-requires-2 c =
    let long = ap length c.source_places-from.ensures in
    λ i d h. omega (arith, c.requires.within i d h, long, length-map (source_places c.args.base.now c.args.table) pos, sources_long c.args.base.now c.args.table)

pub returns : goal.returns
returns c =
    let g = c.args.base.now in
    let t = c.args.table in
    let single = c.args.single.now in
    let are : AreStraight g t single = record { taken_are = c.requires.taken; within = c.requires.within } in
    let last = to_z-of_z w64 c.args.last c.ranges.last ∙ c.requires.last in
    reverses_told g t single _ c.requires.mixed (edges_within g t c.sound.ensures c.requires.table) are
    (record {
      keys = c.in_ok-push_keys_after.ensures ∙ ap (λ ks. ks ++ keys_after (to_z w64 (of_z w64 c.args.last)) (length single)) (c.in_ok-keys.ensures ∙ c.edge_keys.ensures) ∙ ap (λ k. edge_keys_at g t ++ keys_after k (length single)) last;
      sources = c.in_ok-push_ends.ensures ∙ ap (λ es. es ++ taken c.destination_places-to.result.now single) (c.in_ok-sources.ensures ∙ c.source_places-from.ensures) ∙ ap (λ es. map pos (source_places g t) ++ taken es single) c.destination_places-to.ensures;
      destinations = c.in_ok-push_ends-2.ensures ∙ ap (λ es. es ++ taken c.source_places-from.result.now single) (c.in_ok-destinations.ensures ∙ c.destination_places-to.ensures) ∙ ap (λ es. map pos (destination_places g t) ++ taken es single) c.source_places-from.ensures;
      origins = c.in_ok-extend_from_slice.ensures.ok ∙ ap (λ ps. ps ++ single) (c.in_ok-origins.ensures ∙ ap (range_with_len 0) c.edge_count.ensures);
    })
