use Rattle.std.proofs.Common.{rules, arith}
use Rattle.script_read.proofs.Rests.{rest_next, rest_past, rest_is}
use Rattle.script_read.proofs.words.rest_from.Goals as goal

pub returns-in-None : goal.returns-in-None
returns-in-None c = rest_past c.args.line.now c.loop-i.rest.now c.args.place c.loop-i._i c.loop-i.invariant.1 c.in-None.ensures.cases c.loop-i-test.true

pub loop-i-preserved : goal.loop-i-preserved
loop-i-preserved c = (search rules, rest_next c.args.line.now c.loop-i.rest.now c.loop-i._i (c.in-Some.field-0-0, c.in-Some.behind) c.loop-i.invariant.1 c.in-Some.ensures.cases)

pub returns : goal.returns
returns c =
    let least = c.loop-i-test.false in
    let most = c.loop-i.auto._i-end in
    rest_is c.args.line.now c.loop-i.rest.now c.args.place c.loop-i._i c.loop-i.invariant.1 (omega (arith, least, most))
