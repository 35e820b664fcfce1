-- What an overlay tells: of the keys that changes touched what they made of them, and of all others what the base tells.
use Rattle.std.specs.Prelude.{ℕ, ℤ, Bool, ◌≤◌, ◌&&◌, ◌==◌, unwrap_or}
use Rattle.std.specs.Ordering.{int_eq}
use Rattle.std.specs.HashMap.{HashMap, get}
use Rattle.graph_model.specs.Graph.{GraphData}
use Rattle.changeset.specs.declared.overlay.Overlay.{Overlay}
use Rattle.changeset.specs.Facts.{Facts, vertex_fact, edge_fact}

-- the same key of the same table
abbrev pub same_at : ℕ × ℤ → ℕ × ℤ → Bool
same_at a b = a.0 == b.0 && int_eq a.1 b.1

-- what is written of a key of a table; where nothing is, what the base tells
abbrev pub written_or : {X S : Type 0} → HashMap (ℕ × ℤ) X S → (ℕ → ℤ → X) → ℕ → ℤ → X
written_or written base t k = unwrap_or (get same_at written (t, k)) (base t k)

-- what an overlay over a graph tells
abbrev pub told : GraphData → Overlay → Facts
told g o = record {
  vertex = written_or o.vertices (vertex_fact g);
  edge = written_or o.edges (edge_fact g);
  vertices = o.vertex_total;
  edges = o.edge_total;
  cells = o.cell_total;
}

-- the numbers are within the limits of a graph
pub record AreFew (f : Facts) : Type 0 where
  pub ends : (t : ℕ) (k : ℤ) → (f.vertex t k).ends ≤ 8388608
  pub vertices : f.vertices ≤ 1048576
  pub edges : f.edges ≤ 4194304
  pub cells : f.cells ≤ 16777216
