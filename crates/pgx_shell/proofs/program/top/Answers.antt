use Rattle.std.proofs.Common.{map, string_bytes}
use Rattle.pgx_shell.specs.Outside.{outside_of}
use Rattle.pgx_shell.proofs.Statuses.{done_at, usage_at, script_at, source_at, read_at, write_at, accepted, refused_at}
use Rattle.pgx_shell.proofs.program.top.Goals as goal

pub returns-clause-done : goal.returns-clause-done
returns-clause-done g c =
    done_at (map string_bytes c.args.words.now) (outside_of (g.S.Source.seen c.args.src.now) (g.L.Library.seen c.args.lib.now) (g.K.Sink.seen c.args.out.now))
    (outside_of (g.S.Source.seen c.conclude.new.src) (g.L.Library.seen c.conclude.new.lib) (g.K.Sink.seen c.conclude.new.out)) c.conclude.result.code c.conclude.ensures.ends

pub returns-clause-usage : goal.returns-clause-usage
returns-clause-usage g c =
    usage_at (map string_bytes c.args.words.now) (outside_of (g.S.Source.seen c.args.src.now) (g.L.Library.seen c.args.lib.now) (g.K.Sink.seen c.args.out.now))
    (outside_of (g.S.Source.seen c.conclude.new.src) (g.L.Library.seen c.conclude.new.lib) (g.K.Sink.seen c.conclude.new.out)) c.conclude.result.code c.conclude.ensures.ends

pub returns-clause-script : goal.returns-clause-script
returns-clause-script g c =
    script_at (map string_bytes c.args.words.now) (outside_of (g.S.Source.seen c.args.src.now) (g.L.Library.seen c.args.lib.now) (g.K.Sink.seen c.args.out.now))
    (outside_of (g.S.Source.seen c.conclude.new.src) (g.L.Library.seen c.conclude.new.lib) (g.K.Sink.seen c.conclude.new.out)) c.conclude.result.code c.conclude.ensures.ends

pub returns-clause-source : goal.returns-clause-source
returns-clause-source g c =
    source_at (map string_bytes c.args.words.now) (outside_of (g.S.Source.seen c.args.src.now) (g.L.Library.seen c.args.lib.now) (g.K.Sink.seen c.args.out.now))
    (outside_of (g.S.Source.seen c.conclude.new.src) (g.L.Library.seen c.conclude.new.lib) (g.K.Sink.seen c.conclude.new.out)) c.conclude.result.code c.conclude.ensures.ends

pub returns-clause-read_fault : goal.returns-clause-read_fault
returns-clause-read_fault g c =
    read_at (map string_bytes c.args.words.now) (outside_of (g.S.Source.seen c.args.src.now) (g.L.Library.seen c.args.lib.now) (g.K.Sink.seen c.args.out.now))
    (outside_of (g.S.Source.seen c.conclude.new.src) (g.L.Library.seen c.conclude.new.lib) (g.K.Sink.seen c.conclude.new.out)) c.conclude.result.code c.conclude.ensures.ends

pub returns-clause-complete : goal.returns-clause-complete
returns-clause-complete g c =
    accepted (map string_bytes c.args.words.now) (outside_of (g.S.Source.seen c.args.src.now) (g.L.Library.seen c.args.lib.now) (g.K.Sink.seen c.args.out.now))
    (outside_of (g.S.Source.seen c.conclude.new.src) (g.L.Library.seen c.conclude.new.lib) (g.K.Sink.seen c.conclude.new.out)) c.conclude.result.code c.conclude.ensures.ends

pub returns-clause-refused : goal.returns-clause-refused
returns-clause-refused g c =
    refused_at (map string_bytes c.args.words.now) (outside_of (g.S.Source.seen c.args.src.now) (g.L.Library.seen c.args.lib.now) (g.K.Sink.seen c.args.out.now))
    (outside_of (g.S.Source.seen c.conclude.new.src) (g.L.Library.seen c.conclude.new.lib) (g.K.Sink.seen c.conclude.new.out)) c.conclude.result.code c.conclude.ensures.ends

pub returns-clause-write_fault : goal.returns-clause-write_fault
returns-clause-write_fault g c seven =
    let told = write_at (map string_bytes c.args.words.now) (outside_of (g.S.Source.seen c.args.src.now) (g.L.Library.seen c.args.lib.now) (g.K.Sink.seen c.args.out.now))
    (outside_of (g.S.Source.seen c.conclude.new.src) (g.L.Library.seen c.conclude.new.lib) (g.K.Sink.seen c.conclude.new.out)) c.conclude.result.code c.conclude.ensures.ends seven in
    told.0

pub returns-clause-front : goal.returns-clause-front
returns-clause-front g c seven =
    let told = write_at (map string_bytes c.args.words.now) (outside_of (g.S.Source.seen c.args.src.now) (g.L.Library.seen c.args.lib.now) (g.K.Sink.seen c.args.out.now))
    (outside_of (g.S.Source.seen c.conclude.new.src) (g.L.Library.seen c.conclude.new.lib) (g.K.Sink.seen c.conclude.new.out)) c.conclude.result.code c.conclude.ensures.ends seven in
    told.1
