use Rattle.source_open.proofs.Kept.{files_read}
use Rattle.source_open.proofs.files.read_files.Goals as goal

pub returns-clause-ok : goal.returns-clause-ok
returns-clause-ok g c =
    files_read (g.L.Library.seen c.args.lib.now).files (g.L.Library.seen c.get_file.new.lib).files c.args.name.now c.in_ok-bytes.bytes c.in_ok-config.config c.in_ok-graph.graph
    c.in_ok-bytes.ensures.same c.in_ok-bytes.ensures.ok c.in_ok-config.ensures.ok c.in_ok-graph.ensures.ok
