use Rattle.std.proofs.Common.{ap, None}
use Rattle.std.proofs.lemmas.Result.{err_from_is_err_and}
use Rattle.pgx_shell.proofs.Expectations.{run_expected, stop_expected, no_changes}
use Rattle.pgx_shell.proofs.Names.{names_differ}
use Rattle.pgx_shell.proofs.commands.once_text.Goals as goal

pub run_script-requires-clause-names : goal.run_script-requires-clause-names
run_script-requires-clause-names g c κs within =
    names_differ c.in_ok-script.script.sources c.in_ok-sources.sources c.in_ok-script.ensures.script.distinct (rw c.as_slice.ensures at c.in_ok-sources.ensures.names)

pub run_script-requires-clause-script : goal.run_script-requires-clause-script
run_script-requires-clause-script g c κs within = c.in_ok-script.ensures.script.runs

pub open_sources-requires-clause-no_changes : goal.open_sources-requires-clause-no_changes
open_sources-requires-clause-no_changes g c κs within = rw c.as_slice.ensures (no_changes c.in_ok-script.script c.in_ok-script.ensures.script)

pub returns-clause-text : goal.returns-clause-text
returns-clause-text g c = record {
  run = record { script = c.in_ok-script.script; sources = c.in_ok-sources.sources };
  journal = c.in_ok-records.records;
  expected = run_expected (g.S.Source.seen c.args.src.now).rest (g.L.Library.seen c.args.lib.now).files c.in_ok-script.script c.in_ok-sources.sources c.in_ok-script.ensures.ok
      (rw c.as_slice.ensures at c.in_ok-sources.ensures.ok) (rw c.as_slice.ensures at c.in_ok-sources.ensures.names)
      (rw c.as_slice.ensures at c.in_ok-sources.ensures.inline);
  is_run = c.in_ok-records.ensures.run;
  is = ap (λ text. record { text = text; book = None }) (rw (c.as_slice-2.ensures, c.as_slice-3.ensures) at c.in_ok-journal.ensures);
}

pub returns-in_err-sources-clause-cause : goal.returns-in_err-sources-clause-cause
returns-in_err-sources-clause-cause g c =
    let e = err_from_is_err_and c.from_residual-in_err-sources.result c.from_residual-in_err-sources.ensures.1 in
    rw (e.1, e.2)
    (stop_expected (g.S.Source.seen c.args.src.now).rest (g.L.Library.seen c.args.lib.now) (g.L.Library.seen c.open_sources.new.lib) c.in_ok-script.script _ c.in_err-sources.field-0.0 c.in_ok-script.ensures.ok
    (rw c.as_slice.ensures at c.in_err-sources.ensures.cause))
