use Rattle.std.proofs.Common.{◌<◌, ◌≡◌, None, length, sym, subst}
use Rattle.catalogue_state.specs.State.{State, session_of}
use Rattle.catalogue.proofs.Limits.{one_more_kept}
use Rattle.catalogue.proofs.Apart.{same_roots}
use Rattle.catalogue.proofs.catalogue.Catalogue.open_session.Goals as goal

pub invariant_of-self-in-Ok : goal.invariant_of-self-in-Ok
invariant_of-self-in-Ok c =
    let in_ = c.self.inside in
    let m : State = record { sources = in_.sources; lines = in_.lines; sessions = in_.sessions; next_sid = in_.next_sid; next_column = in_.next_column } in
    let few : length m.sessions < 64 = subst (λ (s : State). length s.sessions < 64) (sym c.self.view_is) c.in-Ok.ensures.room in
    let new : session_of m c.args.who ≡ None = subst (λ (s : State). session_of s c.args.who ≡ None) (sym c.self.view_is) c.in-Ok.ensures.new in
    record {
      kept = rw c.in_ok-open-in-Ok.ensures.ok (one_more_kept m c.args.who c.self.invariant.kept few new);
      registry = rw (c.in_ok-open-in-Ok.ensures.ok, same_roots in_.lines in_.sessions c.args.who) c.self.invariant.registry;
    }
