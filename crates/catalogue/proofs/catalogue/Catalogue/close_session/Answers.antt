use Rattle.std.proofs.Common.{◌≡◌, ◌∙◌, sym, Some}
use Rattle.std.specs.Prelude.{find}
use Rattle.catalogue_state.specs.State.{State, of_who, drop_first, roots_of}
use Rattle.catalogue.proofs.Limits.{closed_kept}
use Rattle.catalogue.proofs.Apart.{session_apart, none_dropped}
use Rattle.catalogue.proofs.catalogue.Catalogue.close_session.Goals as goal

pub release_graphs-requires : goal.release_graphs-requires
release_graphs-requires c =
    let in_ = c.self.inside in
    let y = c.in-Some.session in
    let is : find (of_who c.args.who) in_.sessions ≡ Some y = sym c.close.ensures.session ∙ c.in-Some.is in
    rw c.as_slice.ensures (roots_of in_.lines (drop_first (of_who c.args.who) in_.sessions), session_apart in_.registry.rows in_.lines c.args.who y in_.sessions is c.self.invariant.registry)

pub invariant_of-self : goal.invariant_of-self
invariant_of-self c =
    let in_ = c.self.inside in
    let m : State = record { sources = in_.sources; lines = in_.lines; sessions = in_.sessions; next_sid = in_.next_sid; next_column = in_.next_column } in
    let y = c.in-Some.session in
    let is : find (of_who c.args.who) in_.sessions ≡ Some y = sym c.close.ensures.session ∙ c.in-Some.is in
    let apart = session_apart in_.registry.rows in_.lines c.args.who y in_.sessions is c.self.invariant.registry in
    record {
      kept = rw c.close.ensures.rest (closed_kept m c.args.who c.self.invariant.kept);
      registry = rw c.close.ensures.rest (c.release_graphs.ensures (roots_of in_.lines (drop_first (of_who c.args.who) in_.sessions)) (rw c.as_slice.ensures apart));
    }

pub invariant_of-self-in_default : goal.invariant_of-self-in_default
invariant_of-self-in_default c =
    let in_ = c.self.inside in
    let m : State = record { sources = in_.sources; lines = in_.lines; sessions = in_.sessions; next_sid = in_.next_sid; next_column = in_.next_column } in
    record {
      kept = rw c.close.ensures.rest (closed_kept m c.args.who c.self.invariant.kept);
      registry = rw (c.close.ensures.rest, none_dropped (of_who c.args.who) in_.sessions (sym c.close.ensures.session ∙ c.in_default.is)) c.self.invariant.registry;
    }
