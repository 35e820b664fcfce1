use Rattle.std.proofs.Common.{ap, sym, ◌∙◌, ◌≡◌}
use Rattle.turn_hall.proofs.Seats.{closes}
use Rattle.turn_hall.proofs.Calling.{if_some}
use Rattle.turn_hall.proofs.Closing.{found_there, not_none, same_some}
use Rattle.turn_hall.proofs.hall.Hall.close.Goals as goal

pub unreachable-requires : goal.unreachable-requires
unreachable-requires g c =
    let i = c.root.inside in let is = c.root.view_is in
    let z = closes _ _ _ _ i.seat.id i.seat.me.0 _ _ (ap (λ x. x.root) is ∙ c.requires.root) (ap (λ x. x.out) is ∙ c.requires.joined) c.root.invariant.0.2 c.close_with-closed.ensures.values.2 in
    not_none c.take-slot.result z.0 (found_there _ c.take-slot.result z.0 c.take-slot.ensures.value z.1) c.in-None.is

pub returns : goal.returns
returns g c =
    let i = c.root.inside in let is = c.root.view_is in let d = g.D.Desk in
    let z = closes _ _ _ _ i.seat.id i.seat.me.0 _ _ (ap (λ x. x.root) is ∙ c.requires.root) (ap (λ x. x.out) is ∙ c.requires.joined) c.root.invariant.0.2 c.close_with-closed.ensures.values.2 in
    let same = same_some c.take-slot.result c.in-Some.booked z.0 (found_there _ c.take-slot.result z.0 c.take-slot.ensures.value z.1) c.in-Some.is in
    record {
      book = ap (λ b. b.book) same ∙ (z.3 ∙ ap (λ x. x.seen) is);
      opening = if_some (λ start. d.opening (d.state c.in-Some.booked.desk) ≡ d.state start) c.args.root.opening _ (sym (ap (λ x. x.opening) is) ∙ z.4) (ap (λ b. d.opening (d.state b.desk)) same ∙ z.2.1);
    }
