-- Rows put in a graph one after the other.
use Rattle.std.specs.Prelude.{◌≡◌, ℕ, ◌+◌, map, fold, List, [], ◌∷◌, ◌++◌, None}
use Rattle.graph_model.specs.declared.row.VertexRow.{VertexRow}
use Rattle.graph_model.specs.declared.row.EdgeRow.{EdgeRow}
use Rattle.graph_model.specs.declared.change.Change.{Change}
use Rattle.graph_model.specs.declared.change.Change.TheVariants.{InsertVertex, InsertEdge}
use Rattle.graph_model.specs.Graph.{GraphData}
use Rattle.graph_model.specs.Change.{misfit, changed}

-- the change that puts a row at the end of table t
abbrev pub vertex_put : ℕ → VertexRow → Change
vertex_put t r = InsertVertex t r.key r.values

abbrev pub edge_put : ℕ → EdgeRow → Change
edge_put t r = InsertEdge t r.key r.source r.destination r.values

-- the changes that put the rows of tables, of which the first is table t
abbrev pub puts : {R : Type 0} → (ℕ → R → Change) → ℕ → List (List R) → List Change
puts put t [] = []
puts put t (rows ∷ tables) = map (put t) rows ++ puts put (t + 1) tables

-- each change fits the graph that those before it make
abbrev pub FitEach : GraphData → List Change → Type 0
FitEach g [] = Unit {0}
FitEach g (c ∷ changes) = (misfit g c ≡ None) × FitEach (changed g c) changes

-- a graph after changes that fit
abbrev pub made : GraphData → List Change → GraphData
made g changes = fold changed g changes
