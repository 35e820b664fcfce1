use Rattle.std.proofs.Common.{◌∙◌, sym}
use Rattle.catalogue_state.specs.State.{State, of_who, change_first, roots_of}
use Rattle.catalogue_state.specs.Step.{let_go}
use Rattle.catalogue.proofs.Limits.{released_kept}
use Rattle.catalogue.proofs.Apart.{graph_apart, none_let_go}
use Rattle.catalogue.proofs.catalogue.Catalogue.release.Goals as goal

pub release_snap-requires : goal.release_snap-requires
release_snap-requires c =
    let in_ = c.self.inside in
    rw c.get.ensures (
      roots_of in_.lines (change_first (of_who c.args.who) (let_go c.args.name.now) in_.sessions),
      graph_apart in_.registry.rows in_.lines in_.sessions c.args.who c.args.name.now c.in-Some.graph c.self.invariant.registry (sym c.let_go.ensures.graph ∙ c.in-Some.is),
    )

pub invariant_of-self : goal.invariant_of-self
invariant_of-self c =
    let in_ = c.self.inside in
    let m : State = record { sources = in_.sources; lines = in_.lines; sessions = in_.sessions; next_sid = in_.next_sid; next_column = in_.next_column } in
    let apart = graph_apart in_.registry.rows in_.lines in_.sessions c.args.who c.args.name.now c.in-Some.graph c.self.invariant.registry (sym c.let_go.ensures.graph ∙ c.in-Some.is) in
    record {
      kept = rw c.let_go.ensures.rest (released_kept m c.args.who c.self.invariant.kept c.args.name.now);
      registry = rw c.let_go.ensures.rest (c.release_snap.ensures (roots_of in_.lines (change_first (of_who c.args.who) (let_go c.args.name.now) in_.sessions)) (rw c.get.ensures apart));
    }

pub invariant_of-self-in_default : goal.invariant_of-self-in_default
invariant_of-self-in_default c =
    let in_ = c.self.inside in
    let m : State = record { sources = in_.sources; lines = in_.lines; sessions = in_.sessions; next_sid = in_.next_sid; next_column = in_.next_column } in
    record {
      kept = rw c.let_go.ensures.rest (released_kept m c.args.who c.self.invariant.kept c.args.name.now);
      registry = rw (c.let_go.ensures.rest, none_let_go in_.sessions c.args.who c.args.name.now (sym c.let_go.ensures.graph ∙ c.in_default.is)) c.self.invariant.registry;
    }
