use Rattle.std.proofs.Common.{◌∙◌, refl, sym}
use Rattle.csv.specs.Records.{fields_of}
use Rattle.csv_records.proofs.Texts.{texts_more, texts_less, texts_end}
use Rattle.csv_records.proofs.fields.are_texts.Goals as goal

pub returns-then-not-is_text : goal.returns-then-not-is_text
returns-then-not-is_text c =
    let inv = c.loop-field.invariant in
    let step = rw (c.in-Some.is, inv.row) at c.next.ensures.steps in
    texts_less (fields_of c.args.fields.now) c.loop-field.field-iterator.at c.in-Some.field.now _ step.1 (sym c.is_text.ensures ∙ c.if-not-is_text.true) inv.goes_on

pub loop-field-preserved : goal.loop-field-preserved
loop-field-preserved c =
    let inv = c.loop-field.invariant in
    let step = rw (c.in-Some.is, inv.row) at c.next.ensures.steps in
    record {
      row = rw step.0 refl;
      goes_on = rw step.2 (texts_more (fields_of c.args.fields.now) c.loop-field.field-iterator.at c.in-Some.field.now _ step.1 (sym c.is_text.ensures ∙ c.if-not-is_text.false) inv.goes_on);
    }

pub returns : goal.returns
returns c =
    let inv = c.loop-field.invariant in
    let step = rw (c.in-None.is, inv.row) at c.next.ensures.steps in
    texts_end (fields_of c.args.fields.now) c.loop-field.field-iterator.at _ step.1 inv.goes_on
