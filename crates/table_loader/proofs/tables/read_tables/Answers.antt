use Rattle.std.proofs.Common.{arith, ap, subst, length, ◌≡◌, Ok}
use Rattle.std.proofs.lemmas.List.{nil_from_length}
use Rattle.std.proofs.lemmas.Result.{err_from_is_err_and}
use Rattle.graph_schema.proofs.Sound.{few_tables}
use Rattle.graph_config.specs.Config.{ConfigData}
use Rattle.table_loader.specs.Fault.{LoadCause}
use Rattle.table_loader.specs.Tables.{put_file}
use Rattle.table_loader.proofs.Putting.{file_fits, file_stops, files_end}
use Rattle.table_loader.proofs.tables.read_tables.Goals as goal

pub overflow_add-file : goal.overflow_add-file
overflow_add-file c =
    let few = few_tables c.args.config.now.schema c.sound.ensures.schema in
    omega (arith, few, c.requires, c.sound.ensures.files.one_each, c.loop-bytes.invariant.counted, ap length c.in-Some.ensures.steps.0)

pub returns-in_err-put_file-clause-cause : goal.returns-in_err-put_file-clause-cause
returns-in_err-put_file-clause-cause c =
    let l = c.loop-bytes in
    let e = err_from_is_err_and c.from_residual-in_err-put_file.result c.from_residual-in_err-put_file.ensures.1 in
    let same = ap (λ (config : ConfigData). config.schema) c.config.view_is in
    rw (e.1, e.2)
    (file_stops c.args.config.now.schema l.file l.graph _ l.bytes-iterator.rest.items _ c.in-Some.bytes c.in_err-put_file.field-0.0 c.in-Some.ensures.steps.0 l.invariant.goes_on
    (subst (λ bytes. LoadCause (put_file c.args.config.now.schema l.file l.graph bytes) c.in_err-put_file.field-0.0) c.as_slice.ensures
    (subst (λ s. LoadCause (put_file s l.file l.graph c.as_slice.result.now) c.in_err-put_file.field-0.0) same c.in_err-put_file.ensures.cause)))

pub loop-bytes-preserved : goal.loop-bytes-preserved
loop-bytes-preserved c =
    let l = c.loop-bytes in
    let same = ap (λ (config : ConfigData). config.schema) c.config.view_is in
    record {
      goes_on = file_fits c.args.config.now.schema l.file l.graph c.put_file.new.graph _ l.bytes-iterator.rest.items _ c.in-Some.bytes c.in-Some.ensures.steps.0 l.invariant.goes_on
          (subst (λ bytes. put_file c.args.config.now.schema l.file l.graph bytes ≡ Ok c.put_file.new.graph) c.as_slice.ensures
          (subst (λ s. put_file s l.file l.graph c.as_slice.result.now ≡ Ok c.put_file.new.graph) same c.in_ok-put_file.ensures.ok));
      counted = omega (arith, l.invariant.counted, ap length c.in-Some.ensures.steps.0);
    }

pub returns-clause-ok : goal.returns-clause-ok
returns-clause-ok c =
    let l = c.loop-bytes in
    files_end c.args.config.now.schema l.file l.graph _ l.bytes-iterator.rest.items (nil_from_length l.bytes-iterator.rest.items (omega (arith, l.bytes-iterator.rest.ok.0, c.in-None.ensures.steps.0))) l.invariant.goes_on
