use Rattle.std.proofs.Common.{rules, ◌≡◌, ◌+◌, [], ◌∷◌, ◌++◌, length, take, get_or, ap, arith}
use Rattle.std.proofs.lemmas.List.{take_more, length-take-le}
use Rattle.std.proofs.lemmas.List.Sorted.{IsNonDecreasingBy-from_sort}
use Rattle.csr_rows.specs.Offsets.{pairs_of}
use Rattle.csr_rows.proofs.Offsets.{pairs_push}
use Rattle.csr_rows.proofs.rows.sorted_pairs.Goals as goal

pub loop-place-preserved : goal.loop-place-preserved
loop-place-preserved g c =
    let ends = c.args.ends.now in
    let place = c.loop-place.place in
    let within = c.loop-place-test.true in
    let more : pairs_of (take (place + 1) ends) ≡ pairs_of (take place ends ++ get_or ends place 0 ∷ []) = ap pairs_of (take_more ends place 0 within) in
    let long : length (take place ends) ≡ place = length-take-le place ends (omega arith) in
    let pushed = pairs_push 0 (take place ends) (get_or ends place 0) in
    search rules

pub returns-clause-rising : goal.returns-clause-rising
returns-clause-rising g c = rw c.from_vec.ensures (IsNonDecreasingBy-from_sort (λ pair. pair) c.sort_unstable.new.self.items c.sort_unstable.ensures.sorted)
