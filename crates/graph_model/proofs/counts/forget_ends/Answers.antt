use Rattle.std.proofs.Common.{◌≡◌, ◌+◌, ◌<◌, ◌≤◌, ◌&&◌, ◌==◌, ◌∙◌, arith}
use Rattle.graph_model.specs.Counts.{one_if, ends_there, count_at}
use Rattle.graph_model.proofs.CountLists.{source_counted, both_counted}
use Rattle.graph_model.proofs.counts.forget_ends.Goals as goal

pub lower-requires : goal.lower-requires
lower-requires c =
    let a = c.args in
    omega (arith, source_counted a.from a.to a.ends, c.requires a.from a.ends.source)

pub lower-requires-2 : goal.lower-requires-2
lower-requires-2 c =
    let a = c.args in
    omega (arith, both_counted a.from a.to a.ends, c.requires a.to a.ends.destination, c.lower.ensures.each a.to a.ends.destination)

pub returns : goal.returns
returns c = record {
  lists = c.lower.ensures.lists ∙ c.lower-2.ensures.lists;
  each = λ t i. omega (arith, c.lower.ensures.each t i, c.lower-2.ensures.each t i);
}
