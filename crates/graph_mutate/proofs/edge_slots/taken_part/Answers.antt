use Rattle.std.proofs.Common.{◌≡◌, length, take, ap, sym, ◌∙◌, arith, Some, length-take-le}
use Rattle.std.proofs.lemmas.List.{take_all}
use Rattle.graph_mutate.specs.Taken.{taken}
use Rattle.graph_mutate.proofs.Gathering.{taken_more, length-taken_le, length-taken}
use Rattle.graph_mutate.proofs.Fitting.{value_fits, on_ok}
use Rattle.graph_mutate.proofs.edge_slots.taken_part.Goals as goal

pub push-requires-clause-kind : goal.push-requires-clause-kind
push-requires-clause-kind g c = value_fits c.args.column.now _ c.loop-place.values.kind c.in_ok-copy_value.field-0 c.len-rows.ensures.column c.loop-place.invariant.kind (c.get.ensures ∙ ap Some (sym c.in_ok-copy_value.ensures))

pub push-requires-clause-room : goal.push-requires-clause-room
push-requires-clause-room g c =
    let few = length-taken_le c.args.column.now.values (take c.loop-place.place-index c.args.places.now) in
    omega (arith, few, ap length c.loop-place.invariant.values, length-take-le c.loop-place.place-index c.args.places.now (omega arith), c.requires.few, c.loop-place-test.true)

pub loop-place-preserved : goal.loop-place-preserved
loop-place-preserved g c = record {
  kind = c.in_ok-push.ensures.kind ∙ c.loop-place.invariant.kind;
  values = taken_more c.args.column.now.values c.args.places.now c.loop-place.place-index _ c.in_ok-copy_value.field-0 c.loop-place.values.values c.push.new.self.values c.loop-place-test.true (c.get.ensures ∙ ap Some (sym c.in_ok-copy_value.ensures)) c.loop-place.invariant.values c.in_ok-push.ensures.ok;
  counted = c.loop-place.invariant.counted;
}

pub returns-clause-counted : goal.returns-clause-counted
returns-clause-counted g c =
    let places = c.args.places.now in
    let values = c.args.column.now.values in
    let all = take_all c.loop-place.place-index places c.loop-place-test.false in
    let long : length c.loop-place.values.values ≡ length places = ap length (c.loop-place.invariant.values ∙ ap (taken values) all) ∙ length-taken values places c.requires.within in
    on_ok c.prop_part.result _ (omega (arith, c.prop_part.ensures.counted, long, c.loop-place.invariant.counted))
