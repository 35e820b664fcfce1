use Rattle.std.proofs.Common.{◌∙◌, sym, arith}
use Rattle.script_read.proofs.DueWords.{had_next, why_next, why_end, why_found, why_rest, why_behind}
use Rattle.script_read.proofs.args.wrong_word.Goals as goal
use Rattle.script_read.proofs.args.wrong_word.Goals.{then-is_some-via-then-is_some, then-is_some-via-else-is_some+then-is_rest}

pub returns-then-is_some : goal.returns-then-is_some
returns-then-is_some c =
    let dues = c.args.args.now in
    let line = c.args.line.now in
    elim c.then-is_some.branch [
      | then-is_some-via-then-is_some w ↦ sym (c.loop-i.invariant.so_far ∙ (why_next dues line c.loop-i.i _ _ c.loop-i-test.true c.loop-i.invariant.stand c.piece_at.ensures
          ∙ why_found _ _ c.word_why-why.result c.word_why-why.ensures (sym c.is_some.ensures ∙ w.if-is_some.true)))
      | then-is_some-via-else-is_some+then-is_rest w ↦ sym (c.loop-i.invariant.so_far ∙ (why_next dues line c.loop-i.i _ _ c.loop-i-test.true c.loop-i.invariant.stand c.piece_at.ensures
          ∙ why_rest _ _ c.word_why-why.result _ w.is_rest.result c.word_why-why.ensures w.is_rest.ensures w.if-is_rest.true))
    ]

pub loop-i-preserved : goal.loop-i-preserved
loop-i-preserved c = record {
  so_far = c.loop-i.invariant.so_far ∙ (why_next c.args.args.now c.args.line.now c.loop-i.i _ _ c.loop-i-test.true c.loop-i.invariant.stand c.piece_at.ensures
      ∙ why_behind _ _ c.word_why-why.result _ c.is_rest.result c.word_why-why.ensures (sym c.is_some.ensures ∙ c.if-is_some.false) c.is_rest.ensures c.if-is_rest.false);
  stand = had_next c.args.args.now c.args.line.now c.loop-i.i _ c.is_rest.result c.loop-i-test.true c.loop-i.invariant.stand c.is_rest.ensures c.if-is_rest.false;
}

pub returns : goal.returns
returns c =
    let least = c.loop-i-test.false in
    let most = c.loop-i.auto.i-end in
    sym (c.loop-i.invariant.so_far ∙ why_end c.args.args.now c.args.line.now c.loop-i.i (omega (arith, least, most)))
