use Rattle.std.proofs.Common.{rules, ◌≤◌, subst, sym, ◌∙◌, ap}
use Rattle.turn_hall.specs.Seen.{has}
use Rattle.turn_hall.proofs.Seats.{splits}
use Rattle.turn_hall.proofs.hall.Hall.split_seat.Goals as goal

pub split_seat-requires : goal.split_seat-requires
split_seat-requires g c = let r = c.requires in let w = r.picked.0 in let m = c.args.seat.now.me.0 in
    (search rules, search rules, splits _ _ _ _ c.args.seat.now.id m g.J.SplitArguments.who g.J.SplitArguments.calls r.root (λ e. r.who.0 (sym w ∙ e)) (ap (λ k. has k m.identity.out) w ∙ r.who.1) (subst (λ n. n ≤ m.left) (sym r.picked.1) r.calls) r.made)
