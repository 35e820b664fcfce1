use Rattle.std.proofs.Common.{◌∙◌, sym, arith}
use Rattle.script_read.proofs.DueWords.{no_word_left, word_next, words_end, test_fails, test_passes, rest_passes, no_rest}
use Rattle.script_read.proofs.args.has_form.Goals as goal
use Rattle.script_read.proofs.args.has_form.Goals.{then-i-count-via-then-i-count, then-i-count-via-else-i-count+then-not-may_stand}

pub returns-then-i-count : goal.returns-then-i-count
returns-then-i-count c =
    let dues = c.args.args.now in
    let line = c.args.line.now in
    elim c.then-i-count.branch [
      | then-i-count-via-then-i-count w ↦ sym (c.loop-i.invariant ∙ no_word_left dues line c.loop-i.i _ c.count_words-count.ensures c.loop-i-test.true w.if-i-count.true)
      | then-i-count-via-else-i-count+then-not-may_stand w ↦ sym (c.loop-i.invariant
          ∙ (word_next dues line c.loop-i.i _ _ _ c.count_words-count.ensures c.loop-i-test.true w.if-i-count.false w.piece_at.ensures ∙ test_fails _ _ w.may_stand.result w.may_stand.ensures w.if-not-may_stand.true))
    ]

pub returns-then-is_rest : goal.returns-then-is_rest
returns-then-is_rest c =
    sym (c.loop-i.invariant
    ∙ (word_next c.args.args.now c.args.line.now c.loop-i.i _ _ _ c.count_words-count.ensures c.loop-i-test.true c.if-i-count.false c.piece_at.ensures
    ∙ (test_passes _ _ c.may_stand.result c.may_stand.ensures c.if-not-may_stand.false ∙ rest_passes _ _ c.is_rest.result c.is_rest.ensures c.if-is_rest.true)))

pub loop-i-preserved : goal.loop-i-preserved
loop-i-preserved c =
    c.loop-i.invariant
    ∙ (word_next c.args.args.now c.args.line.now c.loop-i.i _ _ _ c.count_words-count.ensures c.loop-i-test.true c.if-i-count.false c.piece_at.ensures
    ∙ (test_passes _ _ c.may_stand.result c.may_stand.ensures c.if-not-may_stand.false ∙ no_rest _ _ c.is_rest.result c.is_rest.ensures c.if-is_rest.false))

pub returns : goal.returns
returns c =
    let least = c.loop-i-test.false in
    let most = c.loop-i.auto.i-end in
    words_end c.args.args.now c.args.line.now c.loop-i.i _ c.count_words-count.ensures (omega (arith, least, most)) ∙ sym c.loop-i.invariant
