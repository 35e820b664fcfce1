use Rattle.std.proofs.Common.{ap, ◌∙◌}
use Rattle.std.proofs.lemmas.Result.{on_ok_weaker}
use Rattle.graph_slots.specs.Meaning.{edge_rows}
use Rattle.graph_columns.specs.TableParts.{places_told}
use Rattle.graph_columns.proofs.Pushed.{four_pushed, four_are}
use Rattle.graph_columns.proofs.table_parts.push_ends.Goals as goal

pub returns-clause-parts : goal.returns-clause-parts
returns-clause-parts g c =
    on_ok_weaker c.push-4.result
    (λ grown. four_are c.args.parts.now c.push-4.new.self c.in_ok-source.source c.in_ok-destination.destination c.in_ok-out.out c.in_ok-into.into _ _ _ _
    (four_pushed c.args.parts.now c.push.new.self c.push-2.new.self c.push-3.new.self c.push-4.new.self c.in_ok-source.source c.in_ok-destination.destination c.in_ok-out.out c.in_ok-into.into
    c.in_ok-push.ensures.ok c.in_ok-push-2.ensures.ok c.in_ok-push-3.ensures.ok grown)
    c.in_ok-source.ensures.part c.in_ok-destination.ensures.part
    (c.in_ok-out.ensures.part ∙ ap (λ ns. edge_rows (places_told ns)) c.as_slice.ensures)
    (c.in_ok-into.ensures.part ∙ ap (λ ns. edge_rows (places_told ns)) c.as_slice-2.ensures))
    c.push-4.ensures.ok
