use Rattle.std.proofs.Common.{rules, ap, ◌∙◌, [], ◌∷◌, Some, None}
use Rattle.turn_hall.specs.Steps.{with_ticket}
use Rattle.turn_hall.proofs.Calling.{has_desk}
use Rattle.turn_hall.proofs.hall.Hall.acquire.Goals as goal

pub take_desk-requires : goal.take_desk-requires
take_desk-requires g c = let w = c.wait_until_served.ensures.me in
    record {
      table = search rules;
      desk = (w.0, ap (λ m. m.1) w.1 ∙ ap (λ l. (0, Some w.0) ∷ l) (ap (λ m. m.1) c.draw_ticket-ticket.ensures.me ∙ c.requires.idle.0));
    }

pub returns : goal.returns
returns g c =
    let v = c.args.seat.now.me.0 in let t = c.draw_ticket-ticket.result in
    let h = has_desk _ _ v t c.draw_ticket-ticket.new.seat.me c.wait_until_served.new.seat.me c.take_desk.result
    (c.draw_ticket-ticket.ensures.me ∙ ap (λ l. (with_ticket v t, l)) c.requires.idle.0) c.wait_until_served.ensures.me c.take_desk.ensures.desk in
    record {
      table = search rules;
      me = (t, c.take_desk.ensures.me ∙ ap (λ m. (m, (0, None) ∷ [])) h.0);
      comes = h.1;
      begins = h.2;
      knows = h.3;
      room = h.4;
    }
