use Rattle.std.proofs.Common.{◌∙◌, ◌<◌, ◌≡◌, [], sym, length, arith}
use Rattle.std.proofs.lemmas.List.Elements.{All-rest}
use Rattle.algo_digraph.proofs.Sides.{no_places, next_table, next_row}
use Rattle.algo_digraph.proofs.arcs.ArcsIterator.next.Goals as goal

pub tables-preserved : goal.tables-preserved
tables-preserved c =
    let a = c.tables.self-inside in
    let inv = c.tables.invariant in
    let lt : a.table < length a.sides.now = omega (arith, c.if-self.false) in
    let none : a.row.now ≡ [] = no_places a.row.now (sym c.is_empty.ensures ∙ c.tables-test.true) in
    record {
      same = next_table a.v a.sides.now a.table c.index-self-self.result a.first_edge a.there_first a.there.now a.row.now c.row-self-inside.result.now lt none c.row-self-inside.ensures ∙ inv.same;
      left = record { here = next_row a.sides.now a.table a.v c.index-self-self.result c.row-self-inside.result.now lt c.row-self-inside.ensures inv.left.later; later = inv.left.later };
    }

pub invariant_of-self-2 : goal.invariant_of-self-2
invariant_of-self-2 c =
    let inv = c.tables.invariant.left in
    record {
      here = record { few = inv.here.few; ends = inv.here.ends; places = All-rest (λ p. p < length c.tables.self-inside.there.now) _ _ _ c.in_ok-place.ensures.cases.0 inv.here.places };
      later = inv.later;
    }
