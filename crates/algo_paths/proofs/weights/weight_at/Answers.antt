use Rattle.std.proofs.Common.{◌≤◌, ◌<◌, ◌∙◌, ap, sym, length, get_or, pos, w64, FitsSigned, arith, rules}
use Rattle.std.proofs.lemmas.Int.{to_z-of_z}
use Rattle.graph_model.specs.Graph.{edge_props_at}
use Rattle.algo_paths.specs.Weights.{natural, weight_of_value}
use Rattle.algo_paths.proofs.Told.{null_past, value_read, few_props, number_read}
use Rattle.algo_paths.proofs.weights.weight_at.Goals as goal

pub returns-then-prop-table_props-clause-value : goal.returns-then-prop-table_props-clause-value
returns-then-prop-table_props-clause-value c = λ r at.
    let g = c.args.on.now in
    let past : length (edge_props_at g.schema c.args.at.table) ≤ c.args.prop = omega (arith, ap length c.table_props.ensures, c.if-prop-table_props.true) in
    sym (ap weight_of_value (null_past g c.args.at.table c.args.at.place r at c.args.prop c.sound.ensures c.requires.table past))

pub overflow_cast-prop : goal.overflow_cast-prop
overflow_cast-prop c =
    let small : c.args.prop < 64 = omega (arith, ap length c.table_props.ensures, c.if-prop-table_props.false, few_props c.args.on.now c.args.at.table c.sound.ensures c.requires.table) in
    search rules

pub returns-clause-value : goal.returns-clause-value
returns-clause-value c = λ r at.
    c.weight_of.ensures.value ∙ ap weight_of_value (sym (value_read c.args.on.now c.args.at.table c.args.at.place r at c.args.prop _ c.edge_value.ensures))

pub returns-in-Some-clause-value : goal.returns-in-Some-clause-value
returns-in-Some-clause-value c = λ r at.
    let number = get_or c.in-Some.numbers.now c.args.at.place (pos 0) in
    let fits : FitsSigned w64 number = search rules in
    let all = rw c.in-Some.is at c.requires.longs in
    let read = number_read c.args.on.now c.args.at.table c.args.at.place r at c.args.prop c.in-Some.numbers.now (pos 0) all in
    c.weight_of_number.ensures.value ∙ ap natural (to_z-of_z w64 number fits) ∙ sym (ap weight_of_value read)
