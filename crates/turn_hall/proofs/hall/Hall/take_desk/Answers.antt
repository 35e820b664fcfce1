use Rattle.std.proofs.Common.{rules, Some, ap, sym, ◌∙◌, ◌∷◌}
use Rattle.atomic_table.specs.Table.{rest}
use Rattle.turn_hall.proofs.hall.Hall.take_desk.Goals as goal

pub exchange-requires : goal.exchange-requires
exchange-requires g c = let b = c.requires.desk.0 in let e = c.requires.desk.1 in (search rules, (Some b, e ∙ ap (λ l. (0, Some b) ∷ rest l) (sym e)))
