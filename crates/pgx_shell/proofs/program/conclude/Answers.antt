use Rattle.std.proofs.Common.{refl, sym, subst, map, string_bytes}
use Rattle.pgx_shell.specs.Outside.{outside_of}
use Rattle.pgx_shell.specs.Words.{IsUsage}
use Rattle.pgx_shell.proofs.Endings.{usage_cause, stopped_ends, done_ends}
use Rattle.pgx_shell.proofs.Usages.{usage_law}
use Rattle.pgx_shell.proofs.Codes.{usage_not_done, stop_not_done}
use Rattle.pgx_shell.proofs.program.conclude.Goals as goal

pub returns-in-Err-clause-ends : goal.returns-in-Err-clause-ends
returns-in-Err-clause-ends g c =
    let words = map string_bytes c.args.words.now in
    let told = c.tell_usage.ensures in (
      told.0,
      usage_cause words (outside_of (g.S.Source.seen c.args.src.now) (g.L.Library.seen c.args.lib.now) (g.K.Sink.seen c.args.out.now))
          (outside_of (g.S.Source.seen c.args.src.now) (g.L.Library.seen c.args.lib.now) (g.K.Sink.seen c.tell_usage.new.out)) c.in-Err.place told.0 told.1 c.in-Err.ensures.none
          (subst (IsUsage words) (sym c.in-Err.ensures.place) (usage_law words c.in-Err.ensures.none)),
      told.2,
    )

pub returns-in-Ok-act-clause-ends : goal.returns-in-Ok-act-clause-ends
returns-in-Ok-act-clause-ends g c =
    done_ends (map string_bytes c.args.words.now) c.in-Ok.action c.in-Ok.ensures.ok (g.S.Source.seen c.args.src.now) (g.S.Source.seen c.act.new.src)
    (g.L.Library.seen c.args.lib.now) (g.L.Library.seen c.act.new.lib) (g.K.Sink.seen c.args.out.now) (g.K.Sink.seen c.act.new.out) (g.K.Sink.seen c.act.new.out) 0
    c.in-Ok-act.ensures.written.0 c.in-Ok-act.ensures.written.1 c.in-Ok-act.ensures.written.2 refl

pub returns-in-Err-act-clause-ends : goal.returns-in-Err-act-clause-ends
returns-in-Err-act-clause-ends g c =
    stopped_ends (map string_bytes c.args.words.now) c.in-Ok.action c.in-Ok.ensures.ok (g.S.Source.seen c.args.src.now) (g.S.Source.seen c.act.new.src)
    (g.L.Library.seen c.args.lib.now) (g.L.Library.seen c.act.new.lib) (g.K.Sink.seen c.args.out.now) (g.K.Sink.seen c.act.new.out) (g.K.Sink.seen c.tell_stop.new.out) _
    c.in-Err-act.stop c.act.ensures.sink_later c.tell_stop.ensures.later c.in-Err-act.ensures.cause c.in-Err-act.ensures.left c.tell_stop.ensures.told

pub returns-in-Err-clause-read : goal.returns-in-Err-clause-read
returns-in-Err-clause-read g c zero = let told = c.tell_usage.ensures in absurd (usage_not_done (g.K.Sink.seen c.args.out.now) (g.K.Sink.seen c.tell_usage.new.out) c.in-Err.place told.0 told.1 _ told.2 zero)

pub returns-in-Err-act-clause-read : goal.returns-in-Err-act-clause-read
returns-in-Err-act-clause-read g c zero = absurd (stop_not_done (g.K.Sink.seen c.act.new.out) (g.K.Sink.seen c.tell_stop.new.out) c.in-Err-act.stop _ c.tell_stop.ensures.told zero)
