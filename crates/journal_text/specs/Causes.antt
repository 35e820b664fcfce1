-- The words for the causes of refusals.
use Rattle.std.specs.Prelude.{ℕ, List, codes}
use Rattle.change_feed.specs.declared.fault.RowCause.{RowCause}
use Rattle.change_feed.specs.declared.fault.RowCause.TheVariants as row
use Rattle.graph_model.specs.declared.change.Why.{Why}
use Rattle.graph_model.specs.declared.change.Why.TheVariants as why

-- why a row writes no change
abbrev pub cause_word : RowCause → List ℕ
cause_word row.Utf8 = codes "utf8"
cause_word row.Word = codes "word"
cause_word row.Table = codes "table"
cause_word row.Count = codes "count"
cause_word row.Prop = codes "prop"
cause_word row.Field = codes "field"

-- why a change does not fit: the variant's name
abbrev pub why_name : Why → List ℕ
why_name why.Table = codes "Table"
why_name why.Count = codes "Count"
why_name why.Prop = codes "Prop"
why_name why.Kind = codes "Kind"
why_name why.KeyTaken = codes "KeyTaken"
why_name why.KeyMissing = codes "KeyMissing"
why_name why.EndMissing = codes "EndMissing"
why_name why.HasEdges = codes "HasEdges"
why_name why.Limit = codes "Limit"
