use Rattle.std.proofs.Common.{rules, ◌≡◌, ◌++◌, ◌∷◌, [], sym, subst}
use Rattle.turn_hall.specs.Replay.{entry}
use Rattle.turn_hall.specs.Handle.{IsHistoryOf}
use Rattle.turn_hall.proofs.Grown.{history_grown}
use Rattle.turn_hall.proofs.booked.Booked.serve.Goals as goal

pub invariant_of-self-2 : goal.invariant_of-self-2
invariant_of-self-2 g c =
    let d = g.D.Desk in let who = c.args.who in let note = d.note_of c.args.call in let reply = c.in_ok-served.served.reply in
    let s = d.state c.self.inside.desk in let t = d.state c.serve.new.self in let es = c.self.inside.book.items in
    let stepped : d.step s who note ≡ (reply, t) = c.in_ok-served.ensures.step in
    let is : c.push_reserved.new.self.items ≡ es ++ entry who note reply ∷ [] = search rules in
    subst (IsHistoryOf d.step d.opening t) (sym is) (history_grown d.step d.opening g.met.D.Desk.keeps_opening s t who note reply es stepped c.self.invariant)
