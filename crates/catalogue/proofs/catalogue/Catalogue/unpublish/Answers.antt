use Rattle.std.proofs.Common.{◌≡◌, ◌∙◌, sym, Some}
use Rattle.std.specs.Prelude.{find}
use Rattle.catalogue_state.specs.State.{State, from_line, drop_first, roots_of}
use Rattle.catalogue.proofs.Limits.{unpublished_kept}
use Rattle.catalogue.proofs.Apart.{none_dropped}
use Rattle.catalogue.proofs.Pinned.{line_apart}
use Rattle.catalogue.proofs.catalogue.Catalogue.unpublish.Goals as goal

pub release_snaps-requires : goal.release_snaps-requires
release_snaps-requires c =
    let in_ = c.self.inside in
    let l = c.in-Some.gone in
    let name = c.args.line.now in
    let is : find (from_line name) in_.lines ≡ Some l = sym c.take_back.ensures.line ∙ c.in-Some.is in
    rw c.as_slice.ensures (roots_of (drop_first (from_line name) in_.lines) in_.sessions, line_apart in_.registry.rows in_.sessions name l in_.lines is c.self.invariant.registry)

pub invariant_of-self : goal.invariant_of-self
invariant_of-self c =
    let in_ = c.self.inside in
    let m : State = record { sources = in_.sources; lines = in_.lines; sessions = in_.sessions; next_sid = in_.next_sid; next_column = in_.next_column } in
    let l = c.in-Some.gone in
    let name = c.args.line.now in
    let is : find (from_line name) in_.lines ≡ Some l = sym c.take_back.ensures.line ∙ c.in-Some.is in
    let apart = line_apart in_.registry.rows in_.sessions name l in_.lines is c.self.invariant.registry in
    record {
      kept = rw c.take_back.ensures.rest (unpublished_kept m 0 c.self.invariant.kept name);
      registry = rw c.take_back.ensures.rest (c.release_snaps.ensures (roots_of (drop_first (from_line name) in_.lines) in_.sessions) (rw c.as_slice.ensures apart));
    }

pub invariant_of-self-in_default : goal.invariant_of-self-in_default
invariant_of-self-in_default c =
    let in_ = c.self.inside in
    let m : State = record { sources = in_.sources; lines = in_.lines; sessions = in_.sessions; next_sid = in_.next_sid; next_column = in_.next_column } in
    let name = c.args.line.now in
    record {
      kept = rw c.take_back.ensures.rest (unpublished_kept m 0 c.self.invariant.kept name);
      registry = rw (c.take_back.ensures.rest, none_dropped (from_line name) in_.lines (sym c.take_back.ensures.line ∙ c.in_default.is)) c.self.invariant.registry;
    }
