use Rattle.std.proofs.Common.{length, ◌*◌, subst}
use Rattle.script_run.specs.declared.member.Member.{Member}
use Rattle.script_run.specs.Members.{member_work}
use Rattle.session_run.specs.Ran.{Ran, OnlyOwn}
use Rattle.script_run.proofs.Blocks.{put_back, block_ran}
use Rattle.script_run.proofs.run.run_block.Goals as goal

pub returns : goal.returns
returns g c =
    let b = c.args.block.now in
    let h = c.args.alone.now in
    let k = c.run_alone.new.alone in
    let ms = c.args.members.now in
    let ns = c.swap_member.new.members in
    let n : Member = record { held = c.run_alone.new.actor.held; own = c.run_alone.new.actor.own; records = c.run_alone.new.actor.records } in
    let put = put_back ms c.swap_member-held.new.members ns b.actor c.fresh_member.result n c.requires.known c.swap_member-held.ensures.members c.swap_member.ensures.members in
    let did : Ran b.actor b.commands (member_work h c.swap_member-held.result) (member_work k n) = rw c.as_slice-commands.ensures at c.in_ok-run_alone.ensures.ran in
    let own : OnlyOwn b.actor (257 * length b.commands) h k = rw c.as_slice-commands.ensures at c.run_alone.ensures.own in
    block_ran b h k ms ns n c.requires.rest.works put
    (subst (λ (m : Member). Ran b.actor b.commands (member_work h m) (member_work k n)) c.swap_member-held.ensures.taken did) own
