use Rattle.std.proofs.Common.{All, map, ap, sym, ◌∙◌, subst}
use Rattle.graph_snap.specs.Seen.{Stands, graph_of}
use Rattle.graph_snap.specs.Sharing.{IsKnown, parts_of, kept_of}
use Rattle.graph_snap.specs.Indexes.{AreIndexes}
use Rattle.graph_snap.proofs.SharedParts.{built_on}
use Rattle.graph_snap.proofs.snapshot.Snapshot.derive.Goals as goal

pub kept_indexes-requires : goal.kept_indexes-requires
kept_indexes-requires c = subst (All (IsKnown c.args.base.now)) (sym c.as_slice-2.ensures) c.requires.known

pub derived_parts-requires : goal.derived_parts-requires
derived_parts-requires c = subst (All (IsKnown c.args.base.now)) (sym c.as_slice-3.ensures) c.requires.known

pub over-requires-clause-stands : goal.over-requires-clause-stands
over-requires-clause-stands c =
    let are = c.in_ok-parts.ensures ∙ ap (parts_of c.args.base.now) c.as_slice-3.ensures in
    subst (λ ps. Stands (graph_of c.args.schema ps) ps) (sym are) c.requires.stands

pub over-requires-clause-known : goal.over-requires-clause-known
over-requires-clause-known c =
    let are = c.in_ok-parts.ensures ∙ ap (parts_of c.args.base.now) c.as_slice-3.ensures in
    let known = subst (λ ds. AreIndexes (parts_of c.args.base.now ds) c.in_ok-known.known) c.as_slice-2.ensures c.in_ok-known.ensures in
    subst (λ ks. AreIndexes c.in_ok-parts.parts ks) (sym c.as_slice-4.ensures) (subst (λ ps. AreIndexes ps c.in_ok-known.known) (sym are) known)

pub returns-clause-shot : goal.returns-clause-shot
returns-clause-shot c =
    let are = c.in_ok-parts.ensures ∙ ap (parts_of c.args.base.now) c.as_slice-3.ensures in
    c.in_ok-shot.ensures ∙ ap (graph_of c.args.schema) are

pub returns-clause-kept : goal.returns-clause-kept
returns-clause-kept c = c.in_ok-kept.ensures ∙ ap (map kept_of) c.as_slice.ensures

pub returns-clause-shares : goal.returns-clause-shares
returns-clause-shares c =
    let are = c.in_ok-parts.ensures ∙ ap (parts_of c.args.base.now) c.as_slice-3.ensures in
    built_on c.args.base.now c.args.schema c.args.derived _ c.requires.known c.requires.stands
    (c.in_ok-shot.ensures ∙ ap (graph_of c.args.schema) are) (c.in_ok-kept.ensures ∙ ap (map kept_of) c.as_slice.ensures)
