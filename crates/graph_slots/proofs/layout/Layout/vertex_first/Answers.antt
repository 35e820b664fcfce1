use Rattle.std.proofs.Common.{◌<◌, length, arith, ap, ◌∙◌, get_or}
use Rattle.std.proofs.lemmas.List.FromFn.{length-map-range_with_len, get_or-map-range_with_len}
use Rattle.graph_slots.specs.Numbers.{vertex_start}
use Rattle.graph_slots.proofs.layout.Layout.vertex_first.Goals as goal

pub bounds-as_slice-table : goal.bounds-as_slice-table
bounds-as_slice-table c =
    let s = c.self.inside.schema in
    let within : c.args.table < length s.vertices = rw c.self.view_is c.requires in
    omega (arith, ap length c.as_slice.ensures, ap length c.self.invariant.vertices_are, length-map-range_with_len (vertex_start s.vertices) 0 (length s.vertices))

pub returns : goal.returns
returns c =
    let s = c.self.inside.schema in
    let within : c.args.table < length s.vertices = rw c.self.view_is c.requires in
    ap (λ xs. get_or xs c.args.table 0) (c.as_slice.ensures ∙ c.self.invariant.vertices_are)
    ∙ get_or-map-range_with_len (vertex_start s.vertices) 0 (length s.vertices) c.args.table c.args.table 0 within (omega arith)
    ∙ ap (λ z. vertex_start z.vertices c.args.table) c.self.view_is
