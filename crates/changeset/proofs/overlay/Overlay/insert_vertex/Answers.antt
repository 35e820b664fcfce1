use Rattle.std.proofs.Common.{◌+◌, ◌≤◌, ap, true, arith, w64, rules}
use Rattle.std.proofs.lemmas.Int.{to_z-of_z}
use Rattle.changeset.specs.Overlay.{told}
use Rattle.changeset.proofs.Fits.{vertex_fits}
use Rattle.changeset.proofs.Written.{renumbered, put_vertex}
use Rattle.changeset.proofs.overlay.Overlay.insert_vertex.Goals as goal

pub overflow_add-self : goal.overflow_add-self
overflow_add-self c =
    let g = c.args.base.now in
    let fits = vertex_fits g.schema (told g c.args.self.now) c.args.table c.args.key c.args.values.now c.requires.fits in
    let small : c.put_vertex.new.self.vertex_total + 1 ≤ 1048576 = omega (arith, ap (λ f. f.vertices) (c.in_ok-put_vertex.ensures g), fits.room.rows) in
    search rules

pub overflow_add-self-2 : goal.overflow_add-self-2
overflow_add-self-2 c =
    let g = c.args.base.now in
    let fits = vertex_fits g.schema (told g c.args.self.now) c.args.table c.args.key c.args.values.now c.requires.fits in
    let small : c.put_vertex.new.self.cell_total + c.len.result ≤ 16777216 = omega (arith, ap (λ f. f.cells) (c.in_ok-put_vertex.ensures g), fits.room.cells, c.len.ensures) in
    search rules

pub returns : goal.returns
returns c =
    let g = c.args.base.now in
    let read = rw (to_z-of_z w64 c.args.key c.ranges.key) at c.ends-ends.ensures in
    let wrote = rw (to_z-of_z w64 c.args.key c.ranges.key) at (c.in_ok-put_vertex.ensures g) in
    let put = put_vertex (told g c.args.self.now) (told g c.put_vertex.new.self) c.args.table c.args.key true c.ends-ends.result wrote read in
    renumbered _ _ _ _ _ _ _ _ put (omega (arith, ap (λ f. f.vertices) put)) (ap (λ f. f.edges) put) (omega (arith, ap (λ f. f.cells) put, c.len.ensures))
