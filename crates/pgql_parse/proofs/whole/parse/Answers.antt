use Rattle.std.proofs.Common.{rules, ◌≡◌, length, true, false, Ok, Err}
use Rattle.pgql_grammar.specs.declared.piece.Sym.TheVariants.{End}
use Rattle.pgql_grammar.specs.Sorts.{is}
use Rattle.pgql_grammar.specs.Reading.{head}
use Rattle.pgql_grammar.specs.QueryReader.{query_to}
use Rattle.pgql_parse.specs.Place.{first_place}
use Rattle.pgql_parse.proofs.Ending.{answer_refused, answer_late, answer_spelled}
use Rattle.pgql_parse.proofs.whole.parse.Goals as goal

pub returns-in-Err-Fault : goal.returns-in-Err-Fault
returns-in-Err-Fault c =
    let text = c.args.text.now in
    let ps = c.in_ok-pieces.pieces in
    let rest = c.query.new.rest in
    let e : query_to (length ps) ps ≡ Err rest = search rules in
    let place : c.place.result ≡ first_place (length text) rest = search rules in
    answer_refused text ps c.in_ok-pieces.ensures rest c.place.result e place

pub returns-then-is : goal.returns-then-is
returns-then-is c =
    let text = c.args.text.now in
    let ps = c.in_ok-pieces.pieces in
    let rest = c.query.new.rest in
    let e : query_to (length ps) ps ≡ Ok (c.in-Ok.query, rest) = search rules in
    let ends : is End (head rest) ≡ true = search rules in
    answer_spelled text ps c.in_ok-pieces.ensures c.in-Ok.query rest e ends

pub returns : goal.returns
returns c =
    let text = c.args.text.now in
    let ps = c.in_ok-pieces.pieces in
    let rest = c.query.new.rest in
    let e : query_to (length ps) ps ≡ Ok (c.in-Ok.query, rest) = search rules in
    let goes_on : is End (head rest) ≡ false = search rules in
    let place : c.place-in-Ok.result ≡ first_place (length text) rest = search rules in
    answer_late text ps c.in_ok-pieces.ensures c.in-Ok.query rest c.place-in-Ok.result e goes_on place
