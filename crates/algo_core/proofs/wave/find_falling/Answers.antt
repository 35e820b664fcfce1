use Rattle.std.proofs.Common.{◌≡◌, ℕ, ◌+◌, ◌/◌, ◌%◌, ◌<◌, min, [], length, get_or, refl, subst, arith, rules}
use Rattle.std.specs.Prelude.{Ok, IsOk, IfOk}
use Rattle.std.specs.Fork.{slice_chunk}
use Rattle.std.proofs.lemmas.List.Elements.{All-get_or}
use Rattle.algo_core.specs.Peeling.{falling, found_in}
use Rattle.algo_core.proofs.Waves.{chunks_flat, falling_in, falling_splits, found_all, found_is}
use Rattle.algo_core.proofs.wave.find_falling.Goals as goal

-- what the thread of a part found
module _ (g : _) (c : goal.In_ok-found g) where
  found_at : (n : ℕ) → n < length c.in_ok-found.found.items → (d : _)
      → IfOk (get_or c.in_ok-found.found.items n d) (λ l. l ≡ falling c.args.digraph.now c.args.ends.now c.args.level (slice_chunk c.args.wave.now c.max-size.result n))
  found_at n lt d =
      let k = (c.in_ok-found.ensures.each n d lt).1 in
      subst (λ ys. IfOk (get_or c.in_ok-found.found.items n d) (λ l. l ≡ falling c.args.digraph.now c.args.ends.now c.args.level ys)) k.argument_is.value k.call

pub returns-clause-within : goal.returns-clause-within
returns-clause-within g c = λ n d lt.
    found_all (λ w. w < c.args.digraph.now.vertices) (get_or c.in_ok-found.found.items n d) (falling c.args.digraph.now c.args.ends.now c.args.level (slice_chunk c.args.wave.now c.max-size.result n))
    (found_at g c n lt d) (falling_in c.args.digraph.now c.vertex_count.ensures.closed c.args.ends.now c.args.level (slice_chunk c.args.wave.now c.max-size.result n))

pub returns-clause-falling : goal.returns-clause-falling
returns-clause-falling g c = λ all.
    let rs = c.in_ok-found.found.items in
    let size = c.max-size.result in
    let f = falling c.args.digraph.now c.args.ends.now c.args.level in
    let count : length rs ≡ length c.args.wave.now / size + min 1 (length c.args.wave.now % size) = search rules in
    chunks_flat f refl (falling_splits c.args.digraph.now c.args.ends.now c.args.level) found_in (Ok []) size c.args.wave.now rs
    (λ n lt. found_is (get_or rs n (Ok [])) (f (slice_chunk c.args.wave.now size n)) (All-get_or IsOk rs n (Ok []) lt all) (found_at g c n lt (Ok [])))
    (omega (arith, c.max-size.ensures)) count
