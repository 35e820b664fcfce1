use Rattle.std.proofs.Common.{refl, ◌≡◌, Some, false, sym, ap, ◌∙◌, slice_get, w64, FitsSigned, rules}
use Rattle.std.proofs.lemmas.Int.{to_z-of_z}
use Rattle.graph_model.specs.Keys.{rows_at}
use Rattle.graph_model.specs.Graph.{has_edge_in, edge_key}
use Rattle.graph_model.proofs.Distinct.{once_in}
use Rattle.graph_snap.specs.Reading.{source_keys_at, destination_keys_at}
use Rattle.changeset.proofs.Found.{edge_found, edge_missing}
use Rattle.changeset.proofs.base.edge_in_base.Goals as goal

pub returns-in-Some : goal.returns-in-Some
returns-in-Some c =
    let g = c.args.base.now in
    let s = c.vertex_key.result in
    let d = c.vertex_key-in-Some.result in
    let fits_s : FitsSigned w64 s = search rules in
    let fits_d : FitsSigned w64 d = search rules in
    let table = c.in-Some.ensures.table in
    let found = rw (to_z-of_z w64 c.args.key c.ranges.key) at c.in-Some.ensures.found in
    let source : Some s ≡ slice_get (source_keys_at g c.args.table) c.in-Some.at.place = sym c.vertex_key.ensures ∙ c.ends.ensures.source.key ∙ ap (λ t. slice_get (source_keys_at g t) c.in-Some.at.place) table in
    let destination : Some d ≡ slice_get (destination_keys_at g c.args.table) c.in-Some.at.place = sym c.vertex_key-in-Some.ensures ∙ c.ends.ensures.destination.key ∙ ap (λ t. slice_get (destination_keys_at g t) c.in-Some.at.place) table in
    rw (to_z-of_z w64 s fits_s, to_z-of_z w64 d fits_d)
    (edge_found (rows_at g.edges c.args.table) c.in-Some.at.place c.args.key s d (once_in g.schema.keys edge_key g.edges c.sound.ensures.edge_keys c.args.key c.args.table) found source destination)

pub returns-in-None : goal.returns-in-None
returns-in-None c =
    let g = c.args.base.now in
    let missing = rw (to_z-of_z w64 c.args.key c.ranges.key) at c.in-None.ensures.missing in
    let none : has_edge_in c.args.key (rows_at g.edges c.args.table) ≡ false = missing.0 refl in
    edge_missing (rows_at g.edges c.args.table) c.args.key none
