use Rattle.std.proofs.Common.{◌≡◌, sym, subst, OnOk, w64, rules, FitsSigned}
use Rattle.std.proofs.lemmas.Int.{to_z-of_z}
use Rattle.changeset.specs.Facts.{noted}
use Rattle.changeset.specs.Overlay.{told}
use Rattle.changeset.proofs.overlay.Overlay.note.Goals as goal

pub returns-in-InsertVertex : goal.returns-in-InsertVertex
returns-in-InsertVertex c =
    let g = c.args.base.now in
    let key : FitsSigned w64 c.in-InsertVertex.key = search rules in
    let done = rw (to_z-of_z w64 c.in-InsertVertex.key key) at c.insert_vertex.ensures in
    subst (λ x. OnOk c.insert_vertex.result (told g c.insert_vertex.new.self ≡ noted g.schema (told g c.args.self.now) x)) (sym c.in-InsertVertex.is) done

pub returns-in-DeleteVertex : goal.returns-in-DeleteVertex
returns-in-DeleteVertex c =
    let g = c.args.base.now in
    let key : FitsSigned w64 c.in-DeleteVertex.key = search rules in
    let done = rw (to_z-of_z w64 c.in-DeleteVertex.key key) at c.delete_vertex.ensures in
    subst (λ x. OnOk c.delete_vertex.result (told g c.delete_vertex.new.self ≡ noted g.schema (told g c.args.self.now) x)) (sym c.in-DeleteVertex.is) done

pub returns-in-InsertEdge : goal.returns-in-InsertEdge
returns-in-InsertEdge c =
    let g = c.args.base.now in
    let key : FitsSigned w64 c.in-InsertEdge.key = search rules in
    let source : FitsSigned w64 c.in-InsertEdge.source = search rules in
    let destination : FitsSigned w64 c.in-InsertEdge.destination = search rules in
    let done = rw (to_z-of_z w64 c.in-InsertEdge.key key, to_z-of_z w64 c.in-InsertEdge.source source, to_z-of_z w64 c.in-InsertEdge.destination destination) at c.insert_edge.ensures in
    subst (λ x. OnOk c.insert_edge.result (told g c.insert_edge.new.self ≡ noted g.schema (told g c.args.self.now) x)) (sym c.in-InsertEdge.is) done
