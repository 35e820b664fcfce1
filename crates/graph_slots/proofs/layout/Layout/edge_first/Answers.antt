use Rattle.std.proofs.Common.{◌<◌, ◌+◌, length, arith, ap, ◌∙◌, get_or}
use Rattle.std.proofs.lemmas.List.FromFn.{length-map-range_with_len, get_or-map-range_with_len}
use Rattle.graph_slots.specs.Numbers.{edge_start, edges_start}
use Rattle.graph_slots.proofs.layout.Layout.edge_first.Goals as goal

pub bounds-as_slice-table : goal.bounds-as_slice-table
bounds-as_slice-table c =
    let s = c.self.inside.schema in
    let within : c.args.table < length s.edges = rw c.self.view_is c.requires in
    omega (arith, ap length c.as_slice.ensures, ap length c.self.invariant.edges_are, length-map-range_with_len (λ t. edges_start s + edge_start s.edges t) 0 (length s.edges))

pub returns : goal.returns
returns c =
    let s = c.self.inside.schema in
    let within : c.args.table < length s.edges = rw c.self.view_is c.requires in
    ap (λ xs. get_or xs c.args.table 0) (c.as_slice.ensures ∙ c.self.invariant.edges_are)
    ∙ get_or-map-range_with_len (λ t. edges_start s + edge_start s.edges t) 0 (length s.edges) c.args.table c.args.table 0 within (omega arith)
    ∙ ap (λ z. edges_start z + edge_start z.edges c.args.table) c.self.view_is
