use Rattle.std.proofs.Common.{◌≡◌, Err, rules, subst, sym}
use Rattle.script_read.specs.Faults.{Gives}
use Rattle.script_read.specs.Words.{words_of}
use Rattle.script_read.specs.Commands.{form_of}
use Rattle.script_read.proofs.DueWords.{row_refuses, row_reads, no_row}
use Rattle.script_read.proofs.command.read_form.Goals as goal

pub returns-in_err-check_words-in-Some : goal.returns-in_err-check_words-in-Some
returns-in_err-check_words-in-Some c =
    let same : c.from_residual.result ≡ Err c.in_err-check_words-in-Some.field-0.0 = search rules in
    subst (λ r. Gives r (form_of (words_of c.args.line.now))) (sym same)
    (row_refuses c.args.line.now _ _ c.in_err-check_words-in-Some.field-0.0 c.nth_word.ensures c.in-Some.ensures c.in_err-check_words-in-Some.ensures)

pub returns-in_ok-check_words-in-Some : goal.returns-in_ok-check_words-in-Some
returns-in_ok-check_words-in-Some c =
    subst (Gives c.form_at.result) (sym (row_reads c.args.line.now _ _ _ c.nth_word.ensures c.in-Some.ensures c.in_ok-check_words-in-Some.ensures)) c.form_at.ensures

pub returns-in-None : goal.returns-in-None
returns-in-None c = no_row c.args.line.now _ c.nth_word.ensures c.in-None.ensures
