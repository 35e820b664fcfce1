use Rattle.std.proofs.Common.{ap, None}
use Rattle.std.proofs.lemmas.Result.{err_from_is_err_and}
use Rattle.pgx_shell.proofs.Expectations.{opens_expected, stop_expected, no_changes}
use Rattle.pgx_shell.proofs.FewCommands.{few_commands}
use Rattle.pgx_shell.proofs.commands.check_text.Goals as goal

pub counts_text-requires : goal.counts_text-requires
counts_text-requires g c = few_commands c.in_ok-script.script c.in_ok-script.ensures.script

pub check_sources-requires : goal.check_sources-requires
check_sources-requires g c = record { no_changes = rw c.as_slice.ensures (no_changes c.in_ok-script.script c.in_ok-script.ensures.script) }

pub returns-clause-text : goal.returns-clause-text
returns-clause-text g c = record {
  script = c.in_ok-script.script;
  reads = c.in_ok-script.ensures.ok;
  opens = opens_expected (g.S.Source.seen c.args.src.now).rest (g.L.Library.seen c.args.lib.now).files c.in_ok-script.script c.in_ok-script.ensures.ok
      (rw c.as_slice.ensures at c.in_ok-check_sources.ensures.ok);
  is = ap (λ text. record { text = text; book = None }) c.in_ok-counts_text.ensures;
}

pub returns-in_err-check_sources-clause-cause : goal.returns-in_err-check_sources-clause-cause
returns-in_err-check_sources-clause-cause g c =
    let e = err_from_is_err_and c.from_residual-in_err-check_sources.result c.from_residual-in_err-check_sources.ensures.1 in
    rw (e.1, e.2)
    (stop_expected (g.S.Source.seen c.args.src.now).rest (g.L.Library.seen c.args.lib.now) (g.L.Library.seen c.check_sources.new.lib) c.in_ok-script.script _ c.in_err-check_sources.field-0.0 c.in_ok-script.ensures.ok
    (rw c.as_slice.ensures at c.in_err-check_sources.ensures.cause))
