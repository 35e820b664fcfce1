use Rattle.std.proofs.Common.{ℕ, List, [], Ok, Err}
use Rattle.std.specs.Prelude.{OnOk, Result}
use Rattle.algo_paths.specs.Search.{IsProgress}
use Rattle.algo_paths.proofs.search.relax_wave.Goals as goal

-- what holds for each holds for one
at_one : {X T E : Type 0} (P : X → Type 0) (x : X) (r : Result T E) → OnOk r ((y : X) → P y) → OnOk r (P x)
at_one P x (Ok v) h = h x
at_one P x (Err e) h = h

pub returns-then-is_wide : goal.returns-then-is_wide
returns-then-is_wide g c =
    at_one (λ (wave : List ℕ). IsProgress c.args.digraph.now c.args.weights.now wave [] c.args.best.now c.wide_wave.new.best c.args.queue.now c.wide_wave.new.queue)
    c.args.wave.now c.wide_wave.result c.wide_wave.ensures
