use Rattle.std.proofs.Common.{ap, ◌∙◌}
use Rattle.turn_hall.specs.Replay.{IsLegal}
use Rattle.turn_hall.proofs.Passing.{pass_split}
use Rattle.turn_hall.proofs.hall.Hall.split.Goals as goal

pub invariant_of-root : goal.invariant_of-root
invariant_of-root g c = pass_split (λ start seen. IsLegal g.D.Desk.step (g.D.Desk.state start) seen) c.root.inside.seat.me _ c.root.inside.who c.root.invariant c.args.who c.args.calls (ap (λ x. x.root) c.root.view_is ∙ c.requires.root) c.split_seat-seat.ensures.root.1
