use Rattle.std.proofs.Common.{◌≡◌, ◌<◌, ◌^◌, ◌∙◌, ap, sym, arith, rules, w64, FitsSigned, Some, None}
use Rattle.std.specs.List.{position_or_len}
use Rattle.std.proofs.lemmas.Int.{to_z-of_z}
use Rattle.std.proofs.lemmas.List.Elements.{All-push}
use Rattle.graph_model.specs.Keys.{rows_at}
use Rattle.graph_model.specs.Graph.{edge_props_at}
use Rattle.graph_slots.specs.Meaning.{value_at}
use Rattle.algo_paths.specs.Weights.{edge_weight, is_named, weight_of_value}
use Rattle.algo_paths.proofs.Causes.{adds_more, first_bad}
use Rattle.algo_paths.proofs.Told.{row_there, key_read}
use Rattle.algo_paths.proofs.weights.push_weights.Goals as goal

pub returns-in_default-clause-cause : goal.returns-in_default-clause-cause
returns-in_default-clause-cause c =
    let g = c.args.on.now in
    let t = c.args.table in
    let i = c.loop-place.place in
    let name = c.args.name.now in
    let row = row_there g t i (omega (arith, c.loop-place-test.true, c.edge_count-place-end.ensures)) in
    let prop : c.prop_place-prop.result ≡ position_or_len (is_named name) (edge_props_at g.schema t) = c.prop_place-prop.ensures ∙ ap (position_or_len (is_named name)) c.table_props.ensures in
    let bad : edge_weight name g (t, row.0) ≡ None = sym (c.in_default.ensures.value row.0 row.1 ∙ ap (λ p. weight_of_value (value_at p row.0.values)) prop) in
    let fits : FitsSigned w64 c.edge_key.result = search rules in (
      row.0,
      first_bad (λ r. edge_weight name g (t, r)) (rows_at g.edges t) i row.0 _ _ row.1 bad c.loop-place.invariant.adds,
      to_z-of_z w64 _ fits ∙ key_read g t i row.0 row.1 _ c.edge_key.ensures,
    )

pub loop-place-preserved : goal.loop-place-preserved
loop-place-preserved c =
    let g = c.args.on.now in
    let t = c.args.table in
    let i = c.loop-place.place in
    let name = c.args.name.now in
    let row = row_there g t i (omega (arith, c.loop-place-test.true, c.edge_count-place-end.ensures)) in
    let prop : c.prop_place-prop.result ≡ position_or_len (is_named name) (edge_props_at g.schema t) = c.prop_place-prop.ensures ∙ ap (position_or_len (is_named name)) c.table_props.ensures in
    let is : edge_weight name g (t, row.0) ≡ Some c.in-Some.weight = sym (c.in-Some.ensures.value row.0 row.1 ∙ ap (λ p. weight_of_value (value_at p row.0.values)) prop) in
    record {
      adds = adds_more (λ r. edge_weight name g (t, r)) (rows_at g.edges t) i c.in-Some.weight row.0 _ _ _ row.1 is c.loop-place.invariant.adds c.in_ok-push.ensures.ok;
      fit = rw c.in_ok-push.ensures.ok (All-push (λ w. w < 2 ^ 63) _ _ c.loop-place.invariant.fit c.in-Some.ensures.fit);
    }
