use Rattle.std.proofs.Common.{◌≡◌, map}
use Rattle.script_run.proofs.member.parts_of.Given as goal

abbrev pub invariant-loop-member : goal.invariant-loop-member
invariant-loop-member l = l.parts ≡ map (λ m. m.records) l.yielded
