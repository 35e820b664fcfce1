use Rattle.std.proofs.Common.{◌∙◌, ◌+◌, sym, refl, arith}
use Rattle.std.proofs.lemmas.Bool.{false≢true}
use Rattle.algo_digraph.proofs.Cells.{mark_kept}
use Rattle.algo_reach.proofs.Marking.{pulled_same, pulled_got, pulled_not}
use Rattle.algo_reach.proofs.levels.next_distance.Goals as goal

pub returns-then-not-is_free : goal.returns-then-not-is_free
returns-then-not-is_free c = pulled_same _ _ _ _ (λ none. false≢true (sym c.if-not-is_free.true ∙ c.is_free.ensures.free.1 none)) c.cell.ensures

pub returns-then-has_source : goal.returns-then-has_source
returns-then-has_source c =
    pulled_got _ _ _ _ (c.is_free.ensures.free.0 c.if-not-is_free.false) (mark_kept (c.args.level + 1) (omega (arith, c.requires.level))) (c.has_source.ensures.0 c.if-has_source.true)

pub returns : goal.returns
returns c = pulled_not _ _ _ _ (c.is_free.ensures.free.0 c.if-not-is_free.false) refl (λ cause. false≢true (sym c.if-has_source.false ∙ c.has_source.ensures.1 cause))
