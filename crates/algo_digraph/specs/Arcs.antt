-- The arcs of a vertex: the edges that leave, or enter, it, each with the vertex at its other end.
use Rattle.std.specs.Prelude.{ℕ, List, map}
use Rattle.algo_digraph.specs.declared.arcs.Arc.{Arc}
use Rattle.algo_digraph.specs.Digraph.{Digraph, leaving, entering, source_of, target_of}

abbrev pub arc : ℕ → ℕ → Arc
arc e v = record { edge = e; vertex = v }

-- an arc for each edge that leaves a vertex, with the vertex where it ends, in the order of the edges' numbers
abbrev pub out_arcs : Digraph → ℕ → List Arc
out_arcs g v = map (λ e. arc e (target_of g e)) (leaving g v)

-- an arc for each edge that enters a vertex, with the vertex where it starts
abbrev pub in_arcs : Digraph → ℕ → List Arc
in_arcs g v = map (λ e. arc e (source_of g e)) (entering g v)
