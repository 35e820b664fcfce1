use Rattle.std.proofs.Common.{◌≡◌, ◌+◌, ◌-◌, ◌*◌, ◌<◌, ◌∙◌, min, length, get_or, drop, [], ap, sym, arith}
use Rattle.std.proofs.lemmas.Grind.{common_steps}
use Rattle.std.proofs.lemmas.List.{drop_all}
use Rattle.pgql_lex.specs.Spelling.{decimal_from}
use Rattle.pgql_lex.proofs.Steps.{digit_read}
use Rattle.pgql_pieces.proofs.words.number_of.Goals as goal

pub loop-d-preserved : goal.loop-d-preserved
loop-d-preserved c =
    let z = c.args.digits.now in
    let within : c.loop-d.d-index < length z = omega arith in
    let read : c.min-value.result ≡ min (10 * c.loop-d.value + (get_or z c.loop-d.d-index 0 - 48)) 9223372036854775808 = grind (arith, common_steps) in
    (digit_read z c.loop-d.d-index c.loop-d.value c.min-value.result within read ∙ c.loop-d.invariant.0, omega (arith, read))

pub returns : goal.returns
returns c =
    let none : drop c.loop-d.d-index c.args.digits.now ≡ [] = drop_all c.loop-d.d-index c.args.digits.now (omega arith) in
    let small : c.loop-d.value ≡ min c.loop-d.value 9223372036854775808 = omega (arith, c.loop-d.invariant.1) in
    small ∙ ap (λ l. min (decimal_from c.loop-d.value l) 9223372036854775808) (sym none) ∙ c.loop-d.invariant.0
