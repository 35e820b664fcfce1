use Rattle.std.proofs.Common.{rules, ◌≡◌, ap, sym, refl, ◌∙◌, subst}
use Rattle.turn_hall.specs.Replay.{replay, IsLegal, entry}
use Rattle.turn_hall.specs.Queue.{waiting}
use Rattle.turn_hall.specs.Rule.{Knows}
use Rattle.turn_hall.specs.Seen.{own_part}
use Rattle.turn_hall.proofs.Calling.{ready_turn, extends_turn, own_turn, if_some, of_some}
use Rattle.turn_hall.proofs.Grown.{fits_grown}
use Rattle.turn_hall.proofs.hall.Hall.call_in_turn.Goals as goal

pub serve-requires : goal.serve-requires
serve-requires g c =
    let v = c.args.seat.now.me.0 in let b = c.acquire-booked.result in let h = c.acquire-booked.ensures in let d = g.D.Desk in let who = c.args.who in
    record {
      ready = ready_turn d.step d.opening d.may_ask d.ready g.met.D.Desk.gets_ready (d.state h.comes.0) (d.state b.desk) b.book v.seen v.identity who c.args.call h.comes.2 h.begins h.knows c.requires.who (h.room c.requires.left)
          (of_some (λ s. d.may_ask (d.state s) (own_part who v.seen) c.args.call) v.opening h.comes.0 h.comes.1 c.requires.may);
    }

pub commit-requires : goal.commit-requires
commit-requires g c =
    let b = c.acquire-booked.result in let h = c.acquire-booked.ensures in let d = g.D.Desk in let who = c.args.who in
    let at = ap (λ m. m.0) h.me.1 in
    record {
      table = search rules;
      desk = ap (λ m. m.1) h.me.1;
      waiter = subst (λ x. x.waiter ≡ waiting x.waiter.ticket) (sym at) refl;
      live = ap (λ x. x.identity.live) at ∙ c.requires.idle.3;
      grown = (b.book, entry who (d.note_of c.args.call) c.in-Ok.reply, ap (λ x. x.holder) at, c.in-Ok.ensures.book, sym (ap (λ x. x.identity.number) at ∙ c.requires.who));
      comes = (
        h.comes.0,
        ap (λ x. x.opening) at ∙ h.comes.1,
        fits_grown d.state d.step d.opening g.met.D.Desk.keeps_opening h.comes.0 b c.serve.new.self who (d.note_of c.args.call) c.in-Ok.reply c.in-Ok.ensures.step c.in-Ok.ensures.book h.comes.2,
      );
      left = search rules;
    }

pub returns-in-Ok-clause-legal : goal.returns-in-Ok-clause-legal
returns-in-Ok-clause-legal g c =
    let b = c.acquire-booked.result in let h = c.acquire-booked.ensures in let d = g.D.Desk in let v = c.args.seat.now.me.0 in
    let fits = fits_grown d.state d.step d.opening g.met.D.Desk.keeps_opening h.comes.0 b c.serve.new.self c.args.who (d.note_of c.args.call) c.in-Ok.reply c.in-Ok.ensures.step c.in-Ok.ensures.book h.comes.2 in
    if_some (λ s. IsLegal d.step (d.state s) c.commit.new.seat.me.0.seen) v.opening h.comes.0 h.comes.1 (subst (IsLegal d.step (d.state h.comes.0)) (sym (ap (λ m. m.0.seen) c.commit.ensures.me)) fits.2)

pub returns-in-Ok-clause-gift : goal.returns-in-Ok-clause-gift
returns-in-Ok-clause-gift g c =
    let b = c.acquire-booked.result in let h = c.acquire-booked.ensures in let d = g.D.Desk in let v = c.args.seat.now.me.0 in
    let who = c.args.who in let note = d.note_of c.args.call in
    let fits = fits_grown d.state d.step d.opening g.met.D.Desk.keeps_opening h.comes.0 b c.serve.new.self who note c.in-Ok.reply c.in-Ok.ensures.step c.in-Ok.ensures.book h.comes.2 in
    if_some (λ s. d.gives (replay d.step (d.state s) c.commit.new.seat.me.0.seen) who note c.in-Ok.reply c.in-Ok.gift) v.opening h.comes.0 h.comes.1
    (subst (λ s. d.gives s who note c.in-Ok.reply c.in-Ok.gift) (sym (ap (λ m. replay d.step (d.state h.comes.0) m.0.seen) c.commit.ensures.me ∙ fits.3)) c.in-Ok.ensures.gift)

pub returns-in-Ok-clause-own : goal.returns-in-Ok-clause-own
returns-in-Ok-clause-own g c =
    let h = c.acquire-booked.ensures in let v = c.args.seat.now.me.0 in let who = c.args.who in let e = entry who (g.D.Desk.note_of c.args.call) c.in-Ok.reply in
    own_turn (Knows v.identity) v.seen c.commit.new.seat.me.0.seen e who (subst (Knows v.identity) c.requires.who h.knows) refl
    (extends_turn v.identity v.seen c.commit.new.seat.me.0.seen c.acquire-booked.result.book e h.begins (ap (λ m. m.0.seen) c.commit.ensures.me ∙ c.in-Ok.ensures.book))
