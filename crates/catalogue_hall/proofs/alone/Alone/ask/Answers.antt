use Rattle.std.proofs.Common.{◌≡◌, ◌∙◌, List, ◌++◌, ◌∷◌, [], length, ◌<◌, sym, ap, subst, map}
use Rattle.turn_hall.specs.Replay.{replay, entry}
use Rattle.turn_hall.proofs.Grown.{grown_state}
use Rattle.catalogue_state.specs.declared.reply.Reply.{Reply}
use Rattle.catalogue_state.specs.declared.call.Gift.{Gift}
use Rattle.catalogue_state.specs.State.{State, holds}
use Rattle.catalogue_state.specs.Step.{step}
use Rattle.catalogue_state.specs.Bound.{opening, IsReady}
use Rattle.catalogue_state.specs.Gift.{gift_of}
use Rattle.catalogue.specs.Kept.{IsKept as IsSound}
use Rattle.catalogue_state.proofs.Bounds.{calls_get_ready}
use Rattle.catalogue_hall.specs.History.{History, held_by, named_of}
use Rattle.catalogue_hall.specs.Building.{IsMadeOf}
use Rattle.catalogue_hall.proofs.Making.{made_for}
use Rattle.catalogue_hall.specs.declared.effect.Effect.{Effect}
use Rattle.catalogue_hall.specs.declared.held.Named.{Named}
use Rattle.catalogue_hall.specs.Told.{effect_of, held_by_reply, held_after}
use Rattle.catalogue_hall.proofs.Holding.{told_is_held}
use Rattle.catalogue_hall.proofs.alone.Alone.ask.Goals as goal

-- what is held, by what is equal to it
told_by : (after before held : List Named) (effect made : Effect) (reply : Reply) (given : Gift)
    → after ≡ held_by_reply before effect reply given → before ≡ held → effect ≡ made → after ≡ held_by_reply held made reply given
told_by after before held effect made reply given told same is =
    told ∙ ap (λ (l : List Named). held_by_reply l effect reply given) same ∙ ap (λ (e : Effect). held_by_reply held e reply given) is

pub call-requires-clause-ready : goal.call-requires-clause-ready
call-requires-clause-ready g c κs within =
    let few = subst (λ (h : History). length h.book < 33554432) (sym c.self.view_is) c.requires.calls in
    let m = c.self.inside.calls.desk in
    let held = subst (λ (h : History). c.args.held.now ≡ held_by h c.args.who) (sym c.self.view_is) c.requires.held in
    let now : holds (replay step (opening m) c.self.inside.calls.book) c.args.who ≡ holds m c.args.who = ap (λ n. holds n c.args.who) c.sound.ensures.state in
    let same : c.args.held.now ≡ map named_of (holds m c.args.who) = held ∙ ap (map named_of) now in
    record {
      numbers = subst IsReady c.sound.ensures.state (calls_get_ready (opening m) c.self.inside.calls.book c.sound.ensures.opening c.self.invariant.small few);
      made = made_for (holds m c.args.who) c.args.ask c.in_ok-made.made (subst (λ l. IsMadeOf l c.args.ask c.in_ok-made.made) (c.in_ok-reserve.ensures.items ∙ (c.held.view_is ∙ same)) c.in_ok-made.ensures);
    }

pub returns-clause-held : goal.returns-clause-held
returns-clause-held g c =
    let before = c.self.inside.calls.desk in
    let after = c.call.new.self.desk in
    let start = opening before in
    let book = c.self.inside.calls.book in
    let who = c.args.who in
    let ask = c.args.ask in
    let reply = c.in_ok-reply.reply in
    let given = c.in_ok-reply.gift in
    let h = c.in_ok-reply.ensures in
    let longer = book ++ entry who ask reply ∷ [] in
    let told : c.apply_reply.new.graphs.items ≡ held_after c.args.held.now ask reply given
    = told_by _ _ c.args.held.now _ (effect_of ask) reply given c.apply_reply.ensures (c.in_ok-reserve.ensures.items ∙ c.held.view_is) c.in_ok-effect.ensures in
    let led : replay step start book ≡ before = c.sound.ensures.state in
    let stepped : step before who ask ≡ (reply, after) = h.step in
    let leads : replay step start longer ≡ after = grown_state step start before after who ask reply book stepped led in
    let gives : given ≡ gift_of (replay step start longer) who ask reply
    = h.gift ∙ ap (λ (s : State). gift_of s who ask reply) (sym leads) in
    let replied : reply ≡ (step (replay step start book) who ask).0
    = ap (λ (z : Reply × State). z.0) (sym stepped) ∙ ap (λ (s : State). (step s who ask).0) (sym led) in
    let held = subst (λ (h : History). c.args.held.now ≡ held_by h who) (sym c.self.view_is) c.requires.held in
    let sound : IsSound (replay step start book) = subst IsSound (c.desk.ensures ∙ sym led) c.sound-2.ensures in
    rw (h.opening, h.book) (told ∙ told_is_held start book who ask reply given c.args.held.now sound replied gives held)
