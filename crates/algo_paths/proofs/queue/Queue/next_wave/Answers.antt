use Rattle.std.proofs.Common.{ℕ, List, inl, subst}
use Rattle.std.specs.Prelude.{Contains}
use Rattle.algo_paths.specs.Queue.{entries, IsWave}
use Rattle.algo_paths.proofs.Entries.{is_wave}
use Rattle.algo_paths.proofs.queue.Queue.next_wave.Goals as goal

pub spread-requires-clause-within : goal.spread-requires-clause-within
spread-requires-clause-within c =
    let taken = c.in-Some.ensures.some in
    rw c.as_slice-2.ensures (λ x h. c.requires x (subst (λ (queue : List (ℕ × ℕ)). Contains queue x) c.self.view_is (taken.from x (inl h))))

pub returns-clause-some : goal.returns-clause-some
returns-clause-some c =
    let best = c.args.best.now in
    let wave = c.in_ok-wave.wave.items in
    let after = entries c.spread.new.buckets in
    let spread = rw c.as_slice-2.ensures at c.in_ok-wave.ensures.spread in
    let some = rw c.as_slice.ensures at c.least-nearest.ensures in
    subst (λ (queue : List (ℕ × ℕ)). IsWave best queue after wave) c.self.view_is
    (is_wave best c.least-nearest.result c.in-Some.bucket (entries c.self.inside.buckets) (entries c.take_filled.new.buckets) after wave c.in-Some.ensures.some spread some)
