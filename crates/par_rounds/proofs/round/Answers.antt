use Rattle.std.proofs.Common.{◌≡◌, ℕ, ◌<◌, ◌≤◌, ◌-◌, ◌∙◌, length, ap, subst, arith, List, []}
use Rattle.std.specs.List.{AllZip, range_with_len}
use Rattle.rayon.specs.Numbers.{nat_range}
use Rattle.rayon.proofs.ToStd.{nat_range-All}
use Rattle.par_rounds.proofs.Rounds.{round_len, round_at}
use Rattle.par_rounds.proofs.round.Goals as goal

pub collect-requires-clause-ready : goal.collect-requires-clause-ready
collect-requires-clause-ready g c κs within =
    let ends = c.into_par_iter.ensures in
    let inside = nat_range-All (λ i. i < c.args.n) 0 c.args.n (λ i low high. high) in
    rw (c.with_min_len.ensures.base, c.map.ensures.base, c.map.ensures.f, ends.0, ends.1) (λ k d lt. (c.requires.callable _ (inside k d lt), λ y p. tt))

-- the list that the chain gave
module _ (g : _) (c : goal.After-drop-f-2 g) where
  given : AllZip (goal.F-post g c.args.f) (range_with_len 0 c.args.n) c.in_ok-found.found.items
  given =
      let ends = c.into_par_iter.ensures in
      let h = c.in_ok-found.ensures in
      let n = c.args.n in
      let whole : n - 0 ≡ n = omega arith in
      let chain = rw (c.with_min_len.ensures.base, c.map.ensures.base, c.map.ensures.f) at h.1 in
      let places = chain.1 ∙ (λ i. nat_range (ends.0 i) (ends.1 i)) ∙ ap (range_with_len 0) whole in
      rw (h.2, ← places) chain.2

pub returns : goal.returns
returns g c =
    let h = given g c in
    let items = c.in_ok-found.found.items in
    let is = c.from_vec.ensures in
    record {
      list = rw is h;
      len = rw is (round_len (goal.F-post g c.args.f) c.args.n items h);
      at = rw is (round_at (goal.F-post g c.args.f) c.args.n items h);
    }
