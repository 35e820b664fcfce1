use Rattle.std.proofs.Common.{◌≡◌, ◌≤◌, ◌+◌}
use Rattle.hall_tests.proofs.threads.adds.Given as goal

abbrev pub invariant-loop-i : goal.invariant-loop-i
invariant-loop-i g l =
    (l.pass.hall ≡ l.initial.pass.hall) × (l.pass.number ≡ l.initial.pass.number) × (l.pass.root ≡ l.initial.pass.root) × (l.fn.count ≤ l.pass.left + l._i)
