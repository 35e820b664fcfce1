use Rattle.std.proofs.Common.{◌+◌, arith}
use Rattle.std.proofs.lemmas.Result.{err_from_is_err_and}
use Rattle.csv.specs.Records.{fields_of}
use Rattle.change_feed.specs.Row.{values_from}
use Rattle.change_feed.proofs.Texts.{goes_on, stops, ends}
use Rattle.change_feed.proofs.fields.read_values.Goals as goal

pub returns-in_err-value : goal.returns-in_err-value
unfolding values_from
returns-in_err-value c =
    let e = err_from_is_err_and c.from_residual-in_err-value.result c.from_residual-in_err-value.ensures.1 in
    rw (e.1, e.2)
    (stops c.args.props.now c.loop-i.i c.index-props-i.result (fields_of c.args.fields.now) (c.args.first + c.loop-i.i) c.loop-i.values _ c.in_err-value.field-0.0 c.loop-i-test.true c.index-props-i.is c.in_err-value.ensures c.loop-i.invariant)

pub loop-i-preserved : goal.loop-i-preserved
loop-i-preserved c =
    rw c.in_ok-push.ensures.ok
    (goes_on c.args.props.now c.loop-i.i c.index-props-i.result (fields_of c.args.fields.now) (c.args.first + c.loop-i.i) (c.args.first + (c.loop-i.i + 1)) c.loop-i.values c.in_ok-value.value _ c.loop-i-test.true c.index-props-i.is c.in_ok-value.ensures (omega arith) c.loop-i.invariant)

pub returns : goal.returns
unfolding values_from
returns c = ends c.args.props.now (fields_of c.args.fields.now) c.loop-i.i c.args.first c.loop-i.values _ c.requires.count c.loop-i-test.false c.loop-i.invariant
