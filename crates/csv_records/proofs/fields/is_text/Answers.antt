use Rattle.std.proofs.Common.{◌∙◌}
use Rattle.csv_records.proofs.Texts.{is_text_by}
use Rattle.csv_records.proofs.fields.is_text.Goals as goal

pub returns : goal.returns
returns c = c.is_ok.ensures.value ∙ is_text_by _ c.args.field.now c.from_utf8.result c.from_utf8.ensures.cases
