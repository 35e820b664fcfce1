use Rattle.source_open.proofs.Kept.{source_read, inline_read}
use Rattle.source_open.proofs.open.open_source.Goals as goal

pub returns-clause-ok : goal.returns-clause-ok
returns-clause-ok g c =
    source_read (g.L.Library.seen c.args.lib.now).files c.args.source.now c.in_ok-graph.graph c.in_ok-new.field-0 c.in_ok-graph.ensures.ok
    (cc (c.in_ok-new.ensures, c.in_ok-from_str.ensures, c.in_ok-of_graph.ensures.ok, c.new.ensures, c.as_str.ensures))

pub returns-clause-inline : goal.returns-clause-inline
returns-clause-inline g c =
    inline_read c.args.source.now.form c.args.source.now.name c.in_ok-graph.graph c.in_ok-new.field-0 c.in_ok-graph.ensures.inline
    (cc (c.in_ok-new.ensures, c.in_ok-from_str.ensures, c.in_ok-of_graph.ensures.ok, c.new.ensures, c.as_str.ensures))
