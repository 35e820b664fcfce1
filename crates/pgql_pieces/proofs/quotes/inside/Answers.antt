use Rattle.std.proofs.Common.{◌≡◌, ◌<◌, length, get_or, ap, arith}
use Rattle.std.proofs.lemmas.Str.{lead_after_ascii}
use Rattle.pgql_pieces.proofs.quotes.inside.Goals as goal

pub range-requires-clause-start_boundary : goal.range-requires-clause-start_boundary
range-requires-clause-start_boundary c =
    let w = c.args.word.now in
    let first : get_or w 0 0 ≡ c.requires.first = ap (λ l. get_or l 0 0) c.requires.whole in
    let some : 0 < length w = omega (arith, ap length c.requires.whole) in
    let small : get_or w 0 0 < 128 = omega (arith, first, c.requires.begins) in
    λ _. (some, λ less high. lead_after_ascii w 0 c.utf8.word small less high)
