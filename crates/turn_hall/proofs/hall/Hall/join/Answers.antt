use Rattle.std.proofs.Common.{rules, ap, ◌∙◌}
use Rattle.turn_hall.proofs.Seats.{joins}
use Rattle.turn_hall.proofs.hall.Hall.join.Goals as goal

pub join_seat-requires : goal.join_seat-requires
join_seat-requires g c = let p = c.pass.invariant in
    (search rules, search rules, search rules, search rules, joins _ _ _ _ _ _ _ _ (ap (λ x. x.root) c.root.view_is ∙ c.requires.root) (ap (λ x. x.root) c.pass.view_is ∙ c.requires.pass) p.0.3 p.0.1 p.0.2)
