use Rattle.std.proofs.Common.{◌≡◌, ◌+◌, ◌-◌, ◌*◌, ◌<◌, ◌∙◌, min, length, get_or, arith}
use Rattle.std.proofs.lemmas.Grind.{common_steps}
use Rattle.pgql_lex.proofs.Steps.{digit_read}
use Rattle.pgql_lex.proofs.front.fits.Goals as goal

pub loop-d-preserved : goal.loop-d-preserved
loop-d-preserved c =
    let z = c.args.digits.now in
    let within : c.loop-d.d-index < length z = omega arith in
    let read : c.min-value.result ≡ min (10 * c.loop-d.value + (get_or z c.loop-d.d-index 0 - 48)) 9223372036854775808 = grind (arith, common_steps) in
    digit_read z c.loop-d.d-index c.loop-d.value c.min-value.result within read ∙ c.loop-d.invariant
