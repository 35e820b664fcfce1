use Rattle.std.proofs.Common.{◌≡◌, ◌++◌, ◌&&◌, ◌==◌, false, ap, sym, ◌∙◌, arith}
use Rattle.std.proofs.lemmas.Grind.{common_steps}
use Rattle.std.proofs.Math.Utf8.{encode}
use Rattle.std.specs.Str.Iter.{chars_rest}
use Rattle.pgql_grammar.specs.Pieces.{undoubled as once}
use Rattle.pgql_pieces.proofs.Undoubling.{char_read}
use Rattle.pgql_pieces.proofs.quotes.undoubled.Goals as goal

pub loop-c-preserved : goal.loop-c-preserved
loop-c-preserved c =
    let l = c.loop-c in
    let x = c.in-Some.c in
    let behind = chars_rest c.next.new.self in
    let apart : (l.behind_quote && (x == 39)) ≡ false = grind (arith, common_steps) in
    let rest : chars_rest l.c-iterator ≡ encode x ++ behind = c.in-Some.ensures.steps.0 in
    ap (λ o. o ++ once (x == 39) behind) c.in_ok-push_char.ensures.ok ∙ sym (char_read l.out behind l.behind_quote x apart) ∙ ap (λ r. l.out ++ once l.behind_quote r) (sym rest) ∙ l.invariant
