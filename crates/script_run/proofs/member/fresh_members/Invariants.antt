use Rattle.std.proofs.Common.{◌≡◌, replicate}
use Rattle.script_run.specs.Members.{fresh_member}
use Rattle.script_run.proofs.member.fresh_members.Given as goal

abbrev pub invariant-loop-place : goal.invariant-loop-place
invariant-loop-place l = l.members ≡ replicate l._place fresh_member
