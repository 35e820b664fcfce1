use Rattle.std.proofs.Common.{◌∙◌}
use Rattle.script_run.specs.Leaves.{AllRan}
use Rattle.script_run.proofs.Running.{ran_in_order}
use Rattle.script_run.proofs.run.run_script.Goals as goal

pub returns : goal.returns
returns g c =
    let script = c.args.script.now in
    let h = c.in_ok-alone.alone in
    let ms = c.in_ok-members.members in
    let k = c.run_phases.new.alone in
    let ns = c.run_phases.new.members in
    let ran : AllRan script.phases h ms k ns = rw c.as_slice-phases.ensures at c.in_ok-run_phases.ensures in
    record {
      run = ran_in_order script c.args.sources h ms k ns c.in_ok-parts.parts c.in_ok-journal.journal c.in_ok-alone.ensures c.in_ok-members.ensures.idle
          (c.in_ok-members.ensures.many ∙ c.len.ensures) ran c.sound.ensures.legal c.in_ok-parts.ensures (rw c.book.ensures at c.in_ok-journal.ensures);
    }
