use Rattle.std.proofs.Common.{◌+◌, arith, ap, sym, ◌∙◌, length, map}
use Rattle.csv.specs.Records.{fields_of}
use Rattle.csv.specs.declared.parser.State.TheVariants as st
use Rattle.table_loader.specs.Put.{put_all}
use Rattle.csv_records.specs.Reading.{records_left}
use Rattle.table_loader.specs.Tables.{file_change}
use Rattle.table_loader.proofs.Putting.{goes_on, stops, ends}
use Rattle.csv_records.proofs.Reader.{was_taken, was_last}
use Rattle.csv_records.proofs.Taking.{few_records}
use Rattle.table_loader.proofs.tables.put_file.Goals as goal

pub records-init : goal.records-init
records-init c =
    let all = c.open_records-reader.ensures.all in
    record {
      reading = c.open_records-reader.ensures.reading;
      few = rw all (omega (arith, few_records st.StartRecord c.args.bytes.now));
      goes_on = ap (λ left. put_all c.args.file 1 c.args.graph.now (map (file_change c.args.schema.now c.args.file) left)) all;
    }

pub returns-then-not-branch-clause-ok : goal.returns-then-not-branch-clause-ok
returns-then-not-branch-clause-ok c =
    let last = was_last c.records.reader c.take_record.new.reader c.in_ok-take_record.field-0 (fields_of c.take_record.new.fields) c.if-not-branch.true c.in_ok-take_record.ensures in
    sym c.records.invariant.goes_on
    ∙ (ap (λ left. put_all c.args.file (c.records.row + 1) c.records.graph (map (file_change c.args.schema.now c.args.file) left)) last
    ∙ ends c.args.file (c.records.row + 1) c.records.graph)

pub returns-in-Err-clause-cause : goal.returns-in-Err-clause-cause
returns-in-Err-clause-cause c =
    let taken = was_taken c.records.reader c.take_record.new.reader c.in_ok-take_record.field-0 (fields_of c.take_record.new.fields) c.if-not-branch.false c.in_ok-take_record.ensures in
    let change = file_change c.args.schema.now c.args.file in
    rw c.fault_at.ensures
    (stops c.args.file (c.records.row + 1) c.records.graph (change (fields_of c.take_record.new.fields)) (map change (records_left c.take_record.new.reader)) c.in-Err.fault _
    (ap (λ left. put_all c.args.file (c.records.row + 1) c.records.graph (map change left)) (sym taken.1) ∙ c.records.invariant.goes_on)
    c.in-Err.ensures.cause)

pub records-preserved : goal.records-preserved
records-preserved c =
    let taken = was_taken c.records.reader c.take_record.new.reader c.in_ok-take_record.field-0 (fields_of c.take_record.new.fields) c.if-not-branch.false c.in_ok-take_record.ensures in
    let change = file_change c.args.schema.now c.args.file in
    record {
      reading = taken.0;
      few = omega (arith, c.records.invariant.few, ap length taken.1);
      goes_on = sym (goes_on c.args.file (c.records.row + 1) c.records.graph c.put_record.new.graph (change (fields_of c.take_record.new.fields)) (map change (records_left c.take_record.new.reader)) c.in_default.ensures.ok)
          ∙ (ap (λ left. put_all c.args.file (c.records.row + 1) c.records.graph (map change left)) (sym taken.1) ∙ c.records.invariant.goes_on);
    }
