use Rattle.std.proofs.Common.{rules}
use Rattle.std.proofs.lemmas.List.Elements.{filter_from_retain}
use Rattle.column_reclaim.specs.Registry.{is_counted}
use Rattle.column_reclaim.proofs.row.drop_unused.Goals as goal

pub returns-clause-rows : goal.returns-clause-rows
returns-clause-rows g c = filter_from_retain _ is_counted (λ p x b q h. search rules) _ _ _ c.retain.ensures.filtered
