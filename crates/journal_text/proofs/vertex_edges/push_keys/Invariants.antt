use Rattle.std.proofs.Common.{◌≡◌, ◌++◌, take}
use Rattle.std.specs.List.{flat_map}
use Rattle.journal_text.specs.Ends.{keys_at}
use Rattle.journal_text.specs.Graphs.{spaced_number}
use Rattle.journal_text.proofs.vertex_edges.push_keys.Given as goal

abbrev pub invariant-loop-place : goal.invariant-loop-place
invariant-loop-place l = l.out ≡ l.fn.out ++ flat_map spaced_number (keys_at l.keys (take l.place-index l.places))
