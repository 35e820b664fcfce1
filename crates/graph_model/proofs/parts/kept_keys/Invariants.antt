use Rattle.std.proofs.Common.{◌≡◌}
use Rattle.graph_model.specs.Parts.{keys_of, kept_places}
use Rattle.graph_model.proofs.parts.kept_keys.Given as goal

abbrev pub invariant-loop-place : goal.invariant-loop-place
invariant-loop-place l = l.copy ≡ keys_of l.keys (kept_places l.dead l.place)
