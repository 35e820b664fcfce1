use Rattle.std.proofs.Common.{◌≡◌, ◌∙◌, slice_index, ap, sym, arith}
use Rattle.algo_reach.proofs.forest.root_of.Goals as goal

pub up-preserved : goal.up-preserved
up-preserved c =
    let inv = c.up.invariant in
    let on = c.go_up-at.ensures in
    record {
      kept = λ g root forest. (let was = inv.kept g root forest in let now = on.forest g root was.0 in (now.0, now.1 ∙ was.1));
      falls = on.falls;
      long = on.long ∙ inv.long;
      least = omega (arith, on.up, inv.falls c.up.at, inv.least);
    }

pub returns-clause-forest : goal.returns-clause-forest
returns-clause-forest c = λ g root forest.
    let inv = c.up.invariant in
    let was = inv.kept g root forest in
    let own : slice_index c.up.parents c.up.at ≡ c.up.at = ap (λ xs. slice_index xs c.up.at) (sym c.as_slice.ensures) ∙ c.up-test.false in
    (was.0, sym (was.0.top c.up.at (omega (arith, inv.least, c.requires.vertex, inv.long, was.0.long)) own) ∙ was.1)
