use Rattle.std.proofs.Common.{◌≡◌, subst}
use Rattle.turn_hall.specs.Handle.{DeskHistory}
use Rattle.turn_hall.specs.OneThread.{RepliesAreSteps}
use Rattle.turn_hall.proofs.OneThreadReplies.{replies_are_steps, opening_is_first}
use Rattle.turn_hall.proofs.one_thread.OneThread.sound.Goals as goal

pub returns-clause-opening : goal.returns-clause-opening
returns-clause-opening g c =
    let d = g.D.Desk in let b = c.self.inside.booked in
    subst (λ (h : DeskHistory _ _ _). d.opening (d.opening (d.state h.desk)) ≡ d.opening (d.state h.desk)) c.self.view_is
    (opening_is_first d.step d.opening g.met.D.Desk.keeps_opening (d.state b.desk) b.book c.sound.ensures.state)

pub returns-clause-replies : goal.returns-clause-replies
returns-clause-replies g c =
    let d = g.D.Desk in
    subst (λ (h : DeskHistory _ _ _). RepliesAreSteps d.step (d.opening (d.state h.desk)) h.book) c.self.view_is
    (replies_are_steps d.step _ _ c.sound.ensures.legal)
