use Rattle.std.proofs.Common.{ap, ◌∙◌}
use Rattle.std.proofs.lemmas.Result.{on_ok_weaker}
use Rattle.graph_slots.specs.Meaning.{edge_rows}
use Rattle.graph_columns.specs.TableParts.{places_told}
use Rattle.graph_columns.proofs.Pushed.{four_pushed, four_are}
use Rattle.graph_snap.specs.declared.derived.Derived.TheVariants.{New}
use Rattle.graph_mutate.proofs.edge_slots.push_end_slots.Goals as goal

pub returns-clause-slots : goal.returns-clause-slots
returns-clause-slots g c =
    let out = c.in_ok-out.ensures.part ∙ ap (λ ns. edge_rows (places_told ns)) c.as_slice.ensures in
    let into = c.in_ok-into.ensures.part ∙ ap (λ ns. edge_rows (places_told ns)) c.as_slice-2.ensures in
    on_ok_weaker c.push-4.result
    (λ grown. four_are c.args.derived.now c.push-4.new.self _ _ _ _ _ _ _ _
    (four_pushed c.args.derived.now c.push.new.self c.push-2.new.self c.push-3.new.self c.push-4.new.self _ _ _ _ c.in_ok-push.ensures.ok c.in_ok-push-2.ensures.ok c.in_ok-push-3.ensures.ok grown)
    (ap New c.in_ok-source.ensures.part) (ap New c.in_ok-destination.ensures.part) (ap New out) (ap New into))
    c.push-4.ensures.ok
