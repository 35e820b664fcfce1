use Rattle.std.proofs.Common.{◌≡◌, ap, ◌∙◌, map, arith, rules}
use Rattle.std.proofs.lemmas.List.{take_all}
use Rattle.std.proofs.lemmas.List.Sorted.{answers_always}
use Rattle.graph_mutate.specs.Sorted.{falling}
use Rattle.graph_mutate.specs.Ranks.{rank_degree, rank_place}
use Rattle.graph_mutate.proofs.Ranking.{sorted_is_falling, falls_from_sort, filters_same, ties_are, not_below}
use Rattle.graph_mutate.proofs.degrees.places_by_degree.Goals as goal

pub returns : goal.returns
returns c =
    let xs = c.in_ok-vertices.vertices.items in
    let ys = c.sort_by_key.new.self.items in
    let up = c.in_ok-sort_by_key.ensures.sorted (λ r. record { 0 = r.degree }) (answers_always _ _ _ (λ f a r q h. search rules)) in
    let stable = c.sort_by_key.ensures.stable (λ r. record { 0 = r.degree }) (answers_always _ _ _ (λ f a r q h. search rules)) in
    let sorted : ys ≡ falling rank_degree xs = sorted_is_falling rank_degree xs ys
    (falls_from_sort rank_degree ys (λ k d h. not_below _ _ (up k d (omega arith) h)))
    (λ z. filters_same _ _ ys xs (λ x. ties_are z.degree x.degree) (stable z)) in
    c.loop-vertex.invariant
    ∙ ap (map rank_place) (take_all c.loop-vertex.vertex-index _ (omega (arith, c.loop-vertex-test.false)) ∙ c.deref-vertex-items.ensures.value ∙ sorted)
    ∙ ap (λ rs. map rank_place (falling rank_degree rs)) c.in_ok-vertices.ensures
