use Rattle.std.proofs.Common.{◌∙◌, ℕ, List, get_or, take, sym, subst}
use Rattle.std.proofs.lemmas.List.{take_more}
use Rattle.std.proofs.lemmas.List.Elements.{Contains-get_or}
use Rattle.algo_paths.specs.Queue.{entries, IsSpread}
use Rattle.algo_paths.proofs.Entries.{spread_more}
use Rattle.algo_paths.proofs.queue.spread.Goals as goal

pub place_entry-requires-clause-within : goal.place_entry-requires-clause-within
place_entry-requires-clause-within c =
    c.requires.within (get_or c.args.bucket.now c.loop-entry.entry-index (0, 0)) (Contains-get_or c.args.bucket.now c.loop-entry.entry-index (0, 0) c.loop-entry-test.true)

pub loop-entry-preserved : goal.loop-entry-preserved
loop-entry-preserved c =
    let bucket = c.args.bucket.now in
    let i = c.loop-entry.entry-index in
    let best = c.args.best.now in
    let nearest = c.args.nearest in
    let start = c.args.buckets.now in
    let after = c.place_entry.new.buckets in
    let longer = c.place_entry.new.wave.items in
    let inv = c.loop-entry.invariant in
    let one = c.in_ok-place_entry.ensures in
    let x : ℕ × ℕ = get_or bucket i (0, 0) in
    let inside = c.requires.within x (Contains-get_or bucket i (0, 0) c.loop-entry-test.true) in
    record {
      len = one.len ∙ inv.len;
      spread =
          subst (λ (seen : List (ℕ × ℕ)). IsSpread best nearest seen (entries start) (entries after) longer) (sym (take_more bucket i (0, 0) c.loop-entry-test.true))
          (spread_more best nearest (take i bucket) (entries start) (entries c.loop-entry.buckets) (entries after) c.loop-entry.wave.items longer x inv.spread one.placed inside);
    }
