use Rattle.turn_hall.proofs.Histories.{replay-append, legal-append, legal-front}
use Rattle.turn_hall.proofs.laws.histories_are_joined.Goals as goal

pub returns-clause-replay : goal.returns-clause-replay
returns-clause-replay g c = replay-append g.D.Desk.step

pub returns-clause-legal : goal.returns-clause-legal
returns-clause-legal g c = legal-append g.D.Desk.step

pub returns-clause-front : goal.returns-clause-front
returns-clause-front g c = legal-front g.D.Desk.step
