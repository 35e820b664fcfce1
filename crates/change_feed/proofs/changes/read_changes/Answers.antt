use Rattle.std.proofs.Common.{◌+◌, arith, ap, sym, ◌∙◌, length}
use Rattle.csv.specs.Records.{fields_of}
use Rattle.csv.specs.declared.parser.State.TheVariants as st
use Rattle.change_feed.specs.Changes.{changes_from}
use Rattle.csv_records.specs.Reading.{records_left}
use Rattle.change_feed.proofs.Feeding.{behind, behind_nothing, goes_on, stops, ends}
use Rattle.csv_records.proofs.Reader.{was_taken, was_last}
use Rattle.csv_records.proofs.Taking.{few_records}
use Rattle.change_feed.proofs.changes.read_changes.Goals as goal

pub records-init : goal.records-init
records-init c =
    let all = c.open_records-reader.ensures.all in
    record {
      reading = c.open_records-reader.ensures.reading;
      few = rw all (omega (arith, few_records st.StartRecord c.args.bytes.now));
      goes_on = rw c.new-changes.ensures (behind_nothing (changes_from 1 c.args.schema.now (records_left c.open_records-reader.result)) ∙ ap (changes_from 1 c.args.schema.now) all);
    }

pub returns-then-not-branch-clause-ok : goal.returns-then-not-branch-clause-ok
returns-then-not-branch-clause-ok c =
    let last = was_last c.records.reader c.take_record.new.reader c.in_ok-take_record.field-0 (fields_of c.take_record.new.fields) c.if-not-branch.true c.in_ok-take_record.ensures in
    sym c.records.invariant.goes_on
    ∙ (ap (λ left. behind c.records.changes (changes_from (c.records.row + 1) c.args.schema.now left)) last
    ∙ ends (c.records.row + 1) c.args.schema.now c.records.changes)

pub returns-in-Err-clause-cause : goal.returns-in-Err-clause-cause
returns-in-Err-clause-cause c =
    let taken = was_taken c.records.reader c.take_record.new.reader c.in_ok-take_record.field-0 (fields_of c.take_record.new.fields) c.if-not-branch.false c.in_ok-take_record.ensures in
    rw c.fault_at.ensures
    (stops (c.records.row + 1) c.args.schema.now (fields_of c.take_record.new.fields) (records_left c.take_record.new.reader) c.records.changes c.in-Err.fault _
    c.in-Err.ensures.cause
    (ap (λ left. behind c.records.changes (changes_from (c.records.row + 1) c.args.schema.now left)) (sym taken.1) ∙ c.records.invariant.goes_on))

pub records-preserved : goal.records-preserved
records-preserved c =
    let taken = was_taken c.records.reader c.take_record.new.reader c.in_ok-take_record.field-0 (fields_of c.take_record.new.fields) c.if-not-branch.false c.in_ok-take_record.ensures in
    record {
      reading = taken.0;
      few = omega (arith, c.records.invariant.few, ap length taken.1);
      goes_on = goes_on (c.records.row + 1) c.args.schema.now (fields_of c.take_record.new.fields) (records_left c.take_record.new.reader) c.records.changes c.add_row.new.changes _
          c.in_default.ensures.ok
          (ap (λ left. behind c.records.changes (changes_from (c.records.row + 1) c.args.schema.now left)) (sym taken.1) ∙ c.records.invariant.goes_on);
    }
