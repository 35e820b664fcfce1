use Rattle.journal_text.specs.Published.{published_line}
use Rattle.journal_text.proofs.LinesTold.{line_more}
use Rattle.journal_text.proofs.published.push_lines.Goals as goal

pub loop-info-preserved : goal.loop-info-preserved
loop-info-preserved c =
    line_more (published_line c.args.names.now) c.args.infos.now c.loop-info.info-index c.info-item.result c.push_count_reply.new.text c.loop-info.text c.push_info.new.text
    c.loop-info-test.true c.info-item.is c.loop-info.invariant c.in_ok-push_info.ensures.ok
