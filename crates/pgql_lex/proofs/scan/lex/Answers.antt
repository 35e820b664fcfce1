use Rattle.std.proofs.Common.{rules, ◌≡◌, ◌≤◌, ◌<◌, ◌+◌, ◌∙◌, length, length-drop, drop, slice_index, false, ℕ, List, [], ◌∷◌, ◌++◌, Some, ap, arith}
use Rattle.pgql_lex.specs.Bytes.{is_blank}
use Rattle.pgql_lex.specs.Tokens.{token, tokens, with_front}
use Rattle.pgql_ast.specs.declared.token.TokenKind.{TokenKind}
use Rattle.pgql_ast.specs.declared.token.Token.{Token}
use Rattle.pgql_lex.proofs.Steps.{goes_token, token_from}
use Rattle.pgql_lex.proofs.Cuts.{all-spans, all-in-order}
use Rattle.pgql_lex.proofs.scan.lex.Goals as goal

pub loop-rest-preserved : goal.loop-rest-preserved
loop-rest-preserved c =
    let z = c.loop-rest.rest.now in
    let t : TokenKind × ℕ = (c.in-Some.kind, c.in-Some.len) in
    let some : 0 < length z = omega arith in
    let dark : is_blank (slice_index z 0) ≡ false = search rules in
    let at_front : token z ≡ Some t = search rules in
    let moves : 1 ≤ t.1 = omega (arith, c.in-Some.ensures.within) in
    let step = goes_token c.loop-rest.tokens c.loop-rest.at z t some dark at_front moves in
    let pushed : c.loop-rest.tokens ++ token_from c.loop-rest.at t ∷ [] ≡ c.push.new.self = search rules in
    let behind : drop t.1 z ≡ c.split_at.result.1.now = search rules in
    let next : ℕ = c.loop-rest.at + c.in-Some.len in (
      c.loop-rest.invariant.0 ∙ step ∙ ap (λ (l : List Token). with_front l (tokens 0 next (drop t.1 z))) pushed ∙ ap (λ r. with_front c.push.new.self (tokens 0 next r)) behind,
      omega (arith, c.loop-rest.invariant.1, length-drop t.1 z, ap length behind, c.in-Some.ensures.within),
      c.loop-rest.invariant.2,
    )

pub returns-clause-spans : goal.returns-clause-spans
returns-clause-spans c =
    all-spans c.args.text.now c.loop-rest.rest.now c.loop-rest.tokens c.loop-rest.at c.utf8.text c.in_default.len_below c.loop-rest.invariant.0

pub returns-clause-order : goal.returns-clause-order
returns-clause-order c = all-in-order c.args.text.now c.loop-rest.rest.now c.loop-rest.tokens c.loop-rest.at c.in_default.len_below c.loop-rest.invariant.0
