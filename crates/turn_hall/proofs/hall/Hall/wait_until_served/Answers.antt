use Rattle.std.proofs.Common.{rules, ap, ◌∙◌, sym, subst}
use Rattle.turn_hall.specs.Steps.{Acquired}
use Rattle.turn_hall.specs.Handle.{FitsDesk, book_of}
use Rattle.turn_hall.proofs.Steps.{looks}
use Rattle.turn_hall.proofs.hall.Hall.wait_until_served.Goals as goal

pub load-requires : goal.load-requires
load-requires g c = let e = c.loop.invariant.3 in
    (search rules, search rules, looks _ _ _ _ _ _ _ _ c.args.ticket (ap (λ m. m.0.waiter) e ∙ c.requires.ticket) (ap (λ m. m.0.holder) e ∙ c.requires.holder) (ap (λ m. m.0.identity.live) e ∙ c.requires.live))

pub returns-then-load-ticket-clause-me : goal.returns-then-load-ticket-clause-me
returns-then-load-ticket-clause-me g c = let e = c.loop.invariant.3 in let mine = ap (λ m. m.0.waiter) e ∙ c.requires.ticket in
    subst (λ m. Acquired (FitsDesk g.D.Desk.state g.D.Desk.step g.D.Desk.opening) book_of m c.load.new.seat.me) e (c.load.ensures.2.0 (c.if-load-ticket.true ∙ sym (ap (λ l. l.ticket) mine)))
