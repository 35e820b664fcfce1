use Rattle.std.proofs.Common.{◌+◌, ◌≤◌, ap, arith, w64, rules}
use Rattle.std.proofs.lemmas.Int.{to_z-of_z}
use Rattle.graph_model.specs.Graph.{source_at, destination_at}
use Rattle.changeset.specs.declared.state.EdgeState.TheVariants.{There}
use Rattle.changeset.specs.Overlay.{told}
use Rattle.changeset.proofs.Fits.{edge_fits, few_more}
use Rattle.changeset.proofs.Written.{renumbered, edge_comes}
use Rattle.changeset.proofs.overlay.Overlay.insert_edge.Goals as goal

pub raise-requires-2-clause-few : goal.raise-requires-2-clause-few
raise-requires-2-clause-few c =
    let g = c.args.base.now in
    let first = rw (to_z-of_z w64 c.args.source c.ranges.source) at c.in_ok-raise.ensures in
    rw (to_z-of_z w64 c.args.destination c.ranges.destination)
    (few_more (told g c.args.self.now) (told g c.raise.new.self) c.source_table.result c.destination_table.result c.args.source c.args.destination c.requires.few first)

pub overflow_add-self : goal.overflow_add-self
overflow_add-self c =
    let g = c.args.base.now in
    let fits = edge_fits g.schema (told g c.args.self.now) c.args.table c.args.key c.args.source c.args.destination c.args.values.now c.requires.fits in
    let small : c.put_edge.new.self.edge_total + 1 ≤ 4194304 = omega (arith, ap (λ f. f.edges) (c.in_ok-put_edge.ensures g), ap (λ f. f.edges) c.in_ok-raise-2.ensures, ap (λ f. f.edges) c.in_ok-raise.ensures, fits.room.rows) in
    search rules

pub overflow_add-self-2 : goal.overflow_add-self-2
overflow_add-self-2 c =
    let g = c.args.base.now in
    let fits = edge_fits g.schema (told g c.args.self.now) c.args.table c.args.key c.args.source c.args.destination c.args.values.now c.requires.fits in
    let small : c.put_edge.new.self.cell_total + c.len.result ≤ 16777216 = omega (arith, ap (λ f. f.cells) (c.in_ok-put_edge.ensures g), ap (λ f. f.cells) c.in_ok-raise-2.ensures, ap (λ f. f.cells) c.in_ok-raise.ensures, fits.room.cells, c.len.ensures) in
    search rules

pub returns : goal.returns
returns c =
    let g = c.args.base.now in
    let t = c.args.table in
    let first = rw (to_z-of_z w64 c.args.source c.ranges.source) at c.in_ok-raise.ensures in
    let second = rw (to_z-of_z w64 c.args.destination c.ranges.destination) at c.in_ok-raise-2.ensures in
    let third = rw (to_z-of_z w64 c.args.key c.ranges.key, to_z-of_z w64 c.args.source c.ranges.source, to_z-of_z w64 c.args.destination c.ranges.destination) at (c.in_ok-put_edge.ensures g) in
    let all = edge_comes (told g c.args.self.now) (told g c.raise.new.self) (told g c.raise-2.new.self) (told g c.put_edge.new.self) c.source_table.result c.destination_table.result t (source_at g.schema t) (destination_at g.schema t)
    c.args.source c.args.destination c.args.key (There c.args.source c.args.destination) first second third c.source_table.ensures.value c.destination_table.ensures.value in
    renumbered _ _ _ _ _ _ _ _ all (ap (λ f. f.vertices) all) (omega (arith, ap (λ f. f.edges) all)) (omega (arith, ap (λ f. f.cells) all, c.len.ensures))
