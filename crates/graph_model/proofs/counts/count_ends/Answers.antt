use Rattle.std.proofs.Common.{◌≡◌, ◌+◌, ◌<◌, ◌≤◌, ◌&&◌, ◌==◌, ◌∙◌, arith, length}
use Rattle.graph_model.specs.Counts.{one_if, count_at, counts_of}
use Rattle.graph_model.proofs.CountLists.{one_few}
use Rattle.graph_model.proofs.counts.count_ends.Goals as goal

pub raise-requires-2-clause-few : goal.raise-requires-2-clause-few
raise-requires-2-clause-few c =
    let a = c.args in
    omega (arith, c.raise.ensures.each a.to a.ends.destination, c.requires.few a.to a.ends.destination, one_few (a.from == a.to && a.ends.source == a.ends.destination))

pub returns : goal.returns
returns c = record {
  lists = c.raise-2.ensures.lists ∙ c.raise.ensures.lists;
  each = λ t i. omega (arith, c.raise-2.ensures.each t i, c.raise.ensures.each t i);
}
