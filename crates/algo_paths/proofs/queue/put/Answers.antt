use Rattle.std.proofs.Common.{ℕ, List, sym, subst}
use Rattle.std.proofs.lemmas.Result.{on_ok_weaker}
use Rattle.algo_paths.specs.Queue.{entries, IsPut}
use Rattle.algo_paths.proofs.Entries.{is_put}
use Rattle.algo_paths.proofs.queue.put.Goals as goal

pub returns-clause-put : goal.returns-clause-put
returns-clause-put c =
    let old = c.args.buckets.now in
    on_ok_weaker c.append.result
    (λ e. subst (λ (bs : List (List (ℕ × ℕ))). IsPut c.args.entry (entries old) (entries bs)) (sym e) (is_put old c.args.place c.args.entry c.requires))
    c.append.ensures.ok
