use Rattle.std.proofs.Common.{◌∙◌, sym, ap}
use Rattle.std.specs.Prelude.{option_map}
use Rattle.csv.specs.Records.{fields_of}
use Rattle.csv_records.proofs.Texts.{text-at, text_by}
use Rattle.csv_records.proofs.fields.text_at.Goals as goal

pub returns : goal.returns
returns c =
    let there = c.in_ok-field.ensures.value in
    let text = text-at (fields_of c.args.fields.now) c.args.place c.in_ok-field.field.now c.requires (sym there) in
    ap (λ o. option_map (λ s. s.now) o) c.ok.ensures.value ∙ (text_by _ c.in_ok-field.field.now c.from_utf8.result c.from_utf8.ensures.cases text ∙ there)
