-- where the slots of a table begin
use Rattle.std.proofs.Common.{◌≡◌, ℕ, zero, suc, ◌+◌, ◌<◌, List, [], ◌∷◌, length, get_or, refl, ap, ◌∙◌, arith}
use Rattle.graph_schema.specs.declared.schema.VertexTable.{VertexTable}
use Rattle.graph_schema.specs.declared.schema.EdgeTable.{EdgeTable}
use Rattle.graph_slots.specs.Numbers.{vertex_start, edge_start}

vertex_suc : (tables : List VertexTable) (t : ℕ) (d : VertexTable) → t < length tables → vertex_start tables (suc t) ≡ vertex_start tables t + (1 + length (get_or tables t d).props)
vertex_suc [] t d h = absurd (omega arith)
vertex_suc (x ∷ []) zero d h = omega arith
vertex_suc (x ∷ y ∷ xs) zero d h = omega arith
vertex_suc (x ∷ xs) (suc t) d h = omega (arith, vertex_suc xs t d (omega arith))

pub vertex_more : (tables : List VertexTable) (t : ℕ) (d : VertexTable) → t < length tables → vertex_start tables (t + 1) ≡ vertex_start tables t + (1 + length (get_or tables t d).props)
vertex_more tables t d h = ap (vertex_start tables) (let e : t + 1 ≡ suc t = omega arith in e) ∙ vertex_suc tables t d h

edge_suc : (tables : List EdgeTable) (t : ℕ) (d : EdgeTable) → t < length tables → edge_start tables (suc t) ≡ edge_start tables t + (5 + length (get_or tables t d).props)
edge_suc [] t d h = absurd (omega arith)
edge_suc (x ∷ []) zero d h = omega arith
edge_suc (x ∷ y ∷ xs) zero d h = omega arith
edge_suc (x ∷ xs) (suc t) d h = omega (arith, edge_suc xs t d (omega arith))

pub edge_more : (tables : List EdgeTable) (t : ℕ) (d : EdgeTable) → t < length tables → edge_start tables (t + 1) ≡ edge_start tables t + (5 + length (get_or tables t d).props)
edge_more tables t d h = ap (edge_start tables) (let e : t + 1 ≡ suc t = omega arith in e) ∙ edge_suc tables t d h

pub vertex_zero : (tables : List VertexTable) → vertex_start tables 0 ≡ 0
vertex_zero [] = refl
vertex_zero (x ∷ xs) = refl

pub edge_zero : (tables : List EdgeTable) → edge_start tables 0 ≡ 0
edge_zero [] = refl
edge_zero (x ∷ xs) = refl
