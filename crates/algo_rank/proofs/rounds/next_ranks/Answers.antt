use Rattle.std.proofs.Common.{◌≡◌, ◌+◌, ◌*◌, ◌/◌, ◌∙◌, slice_index, ap, arith}
use Rattle.std.specs.Prelude.{sum_by}
use Rattle.algo_digraph.specs.declared.arcs.Arc.{Arc}
use Rattle.algo_digraph.specs.Arcs.{in_arcs}
use Rattle.algo_rank.proofs.Shares.{next_at}
use Rattle.algo_rank.proofs.rounds.next_ranks.Goals as goal

pub returns-clause-each : goal.returns-clause-each
returns-clause-each g c = λ v lt.
    let digraph = c.args.digraph.now in
    let shares = c.as_slice-shares.result.now in
    let n = c.vertex_count-n.ensures.count in
    let count : c.from.result ≡ digraph.vertices = omega (arith, n) in
    let at : slice_index c.in_ok-next.next v ≡ 15 * 4294967296 / (100 * c.from.result) + sum_by (λ (a : Arc). slice_index shares a.vertex) (in_arcs digraph v) = c.in_ok-next.ensures.at v 0 (omega (arith, lt, n)) in
    at
    ∙ ap (λ k. 15 * 4294967296 / (100 * k) + sum_by (λ (a : Arc). slice_index shares a.vertex) (in_arcs digraph v)) count
    ∙ next_at digraph c.vertex_count-n.ensures.closed c.args.ranks.now c.args.degrees.now shares c.requires.each
    (λ u less some. ap (λ xs. slice_index xs u) c.as_slice-shares.ensures ∙ c.in_ok-shares.ensures.each u (omega (arith, less, n)) some) v
