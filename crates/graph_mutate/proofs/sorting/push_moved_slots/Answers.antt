use Rattle.std.proofs.Common.{◌≡◌, ◌<◌, All, length, get_or, refl, subst, sym, ◌∙◌}
use Rattle.std.proofs.lemmas.Result.{on_ok_weaker}
use Rattle.graph_model.specs.Keys.{rows_at}
use Rattle.graph_model.specs.Graph.{source_at, destination_at}
use Rattle.graph_slots.specs.Meaning.{source_places, destination_places}
use Rattle.graph_columns.proofs.ColumnTables.{told, are_places}
use Rattle.graph_columns.proofs.SlotParts.{sources_few, destinations_few}
use Rattle.graph_columns.proofs.EndPlaces.{sources_below, destinations_below}
use Rattle.graph_mutate.specs.Sorted.{sorted}
use Rattle.graph_mutate.proofs.Falling.{sorted_is}
use Rattle.graph_mutate.proofs.Moved.{moved_sources, moved_destinations}
use Rattle.graph_mutate.proofs.SortedTables.{order_rows, ends_moved, edge_table_done}
use Rattle.graph_mutate.proofs.sorting.push_moved_slots.Goals as goal

pub moved-requires-clause-places : goal.moved-requires-clause-places
moved-requires-clause-places g c = are_places c.source_places.result.now (source_places c.args.base.now c.args.table) c.source_places.ensures (sources_few c.args.base.now c.args.table (source_places c.args.base.now c.args.table) c.sound.ensures refl)

pub moved-requires-clause-within : goal.moved-requires-clause-within
moved-requires-clause-within g c =
    let base = c.args.base.now in
    let t = c.args.table in
    let long : length (rows_at base.vertices (source_at base.schema t)) ≡ length c.args.from.now = sym (c.requires.from.count ∙ order_rows base (source_at base.schema t)) in
    subst (λ ns. All (λ p. p < length c.args.from.now) ns) (sym (told c.source_places.result.now (source_places base t) c.source_places.ensures))
    (subst (λ n. All (λ p. p < n) (source_places base t)) long (sources_below base t c.sound.ensures))

pub moved-requires-clause-few : goal.moved-requires-clause-few
moved-requires-clause-few g c =
    let base = c.args.base.now in
    let t = c.args.table in
    subst (λ ns. All (λ p. get_or c.args.from.now p 0 < 1048576) ns) (sym (told c.source_places.result.now (source_places base t) c.source_places.ensures)) (moved_sources base t c.args.from.now c.sound.ensures c.requires.from).small

pub moved-requires-2-clause-places : goal.moved-requires-2-clause-places
moved-requires-2-clause-places g c = are_places c.destination_places.result.now (destination_places c.args.base.now c.args.table) c.destination_places.ensures (destinations_few c.args.base.now c.args.table (destination_places c.args.base.now c.args.table) c.sound.ensures refl)

pub moved-requires-2-clause-within : goal.moved-requires-2-clause-within
moved-requires-2-clause-within g c =
    let base = c.args.base.now in
    let t = c.args.table in
    let long : length (rows_at base.vertices (destination_at base.schema t)) ≡ length c.args.to.now = sym (c.requires.to.count ∙ order_rows base (destination_at base.schema t)) in
    subst (λ ns. All (λ p. p < length c.args.to.now) ns) (sym (told c.destination_places.result.now (destination_places base t) c.destination_places.ensures))
    (subst (λ n. All (λ p. p < n) (destination_places base t)) long (destinations_below base t c.sound.ensures))

pub moved-requires-2-clause-few : goal.moved-requires-2-clause-few
moved-requires-2-clause-few g c =
    let base = c.args.base.now in
    let t = c.args.table in
    subst (λ ns. All (λ p. get_or c.args.to.now p 0 < 1048576) ns) (sym (told c.destination_places.result.now (destination_places base t) c.destination_places.ensures)) (moved_destinations base t c.args.to.now c.sound.ensures c.requires.to).small

pub push_end_slots-requires-clause-sources : goal.push_end_slots-requires-clause-sources
push_end_slots-requires-clause-sources g c =
    let base = c.args.base.now in
    let t = c.args.table in
    let new = source_places (sorted base) t in
    let is = ends_moved c.args.from.now (source_places base t) new c.source_places.result.now c.in_ok-sources.sources c.source_places.ensures (moved_sources base t c.args.from.now c.sound.ensures c.requires.from).places c.in_ok-sources.ensures in
    are_places c.in_ok-sources.sources new is (sources_few (sorted base) t new (sorted_is base c.sound.ensures) refl)

pub push_end_slots-requires-clause-destinations : goal.push_end_slots-requires-clause-destinations
push_end_slots-requires-clause-destinations g c =
    let base = c.args.base.now in
    let t = c.args.table in
    let new = destination_places (sorted base) t in
    let is = ends_moved c.args.to.now (destination_places base t) new c.destination_places.result.now c.in_ok-destinations.destinations c.destination_places.ensures (moved_destinations base t c.args.to.now c.sound.ensures c.requires.to).places c.in_ok-destinations.ensures in
    are_places c.in_ok-destinations.destinations new is (destinations_few (sorted base) t new (sorted_is base c.sound.ensures) refl)

pub returns-clause-slots : goal.returns-clause-slots
returns-clause-slots g c =
    let base = c.args.base.now in
    let t = c.args.table in
    let from = ends_moved c.args.from.now (source_places base t) (source_places (sorted base) t) c.source_places.result.now c.in_ok-sources.sources c.source_places.ensures (moved_sources base t c.args.from.now c.sound.ensures c.requires.from).places c.in_ok-sources.ensures in
    let to = ends_moved c.args.to.now (destination_places base t) (destination_places (sorted base) t) c.destination_places.result.now c.in_ok-destinations.destinations c.destination_places.ensures (moved_destinations base t c.args.to.now c.sound.ensures c.requires.to).places c.in_ok-destinations.ensures in
    on_ok_weaker c.push_kept_props.result
    (λ grown x there. edge_table_done base t x c.kept_slot.result c.in_ok-sources.sources c.in_ok-destinations.destinations c.args.derived.now c.push.new.self c.push_end_slots.new.derived c.push_kept_props.new.derived there c.kept_slot.ensures from to c.in_ok-push.ensures.ok c.in_ok-push_end_slots.ensures.slots grown)
    c.push_kept_props.ensures
