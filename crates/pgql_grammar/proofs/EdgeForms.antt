-- The six forms of an edge, with each common beginning taken once.
use Rattle.std.proofs.Common.{inl, inr, refl}
use Rattle.pgql_ast.specs.declared.pattern.Element.{Element}
use Rattle.pgql_ast.specs.declared.pattern.PathStep.{PathStep}
use Rattle.pgql_ast.specs.declared.pattern.Way.{Way}
use Rattle.pgql_ast.specs.declared.pattern.Way.TheVariants.{Right, Left, Either}
use Rattle.pgql_grammar.specs.declared.piece.Piece.{Piece}
use Rattle.pgql_grammar.specs.declared.piece.Sym.TheVariants as s
use Rattle.pgql_grammar.specs.Sorts.{is, is_edge}
use Rattle.pgql_grammar.specs.Language.{Lang, one, pure, ◌>>=◌, ◌>>◌, ◌or◌, pick}
use Rattle.pgql_grammar.specs.Clauses.{nameless, inner, edge, vertex, step}
use Rattle.pgql_grammar.proofs.Fitting.{Equal}
use Rattle.pgql_grammar.proofs.LanguageLaws.{◌so◌, eq-bind, eq-or, eq-first, left, assoc, or_first, or_then, one_of}

abbrev pub Arrow : Type 0
Arrow = Way × Element

abbrev dash : Lang Piece
dash = one (is s.Minus)

abbrev tip : Lang Piece
tip = one (is s.Greater)

-- ---- each beginning once

abbrev pub middle : Piece → Lang Element
middle x = (do e ← inner x; one (is s.Minus); pure e) or pure (nameless x)

abbrev pub arrow : Lang Way
arrow = (one (is s.Greater) >> pure Right) or pure Either

abbrev pub forward : Piece → Lang Arrow
forward x = do
  e ← middle x
  way ← arrow
  pure (way, e)

abbrev pub backward : Piece → Lang Arrow
backward x = do
  one (is s.Minus)
  e ← middle x
  pure (Left, e)

-- ---- the same as the six forms

abbrev ended : Element → Lang Arrow
ended e = arrow >>= (λ way. pure (way, e))

arrow_ends : (e : Element) → Equal (ended e) ((tip >> pure (Right, e)) or pure (Either, e))
arrow_ends e = or_first (tip >> pure Right) (pure Either) (λ way. pure (way, e))
    so eq-or (assoc tip (λ _. pure Right) (λ way. pure (way, e)) so eq-bind (λ _. left Right (λ way. pure (way, e)))) (left Either (λ way. pure (way, e)))

-- what may stand behind the first dash, with its element
abbrev framed : Piece → (Element → Lang Arrow) → Lang Arrow
framed x K = inner x >>= (λ e. dash >>= (λ _. K e))

middle_then : (x : Piece) (K : Element → Lang Arrow) → Equal (middle x >>= K) (framed x K or K (nameless x))
middle_then x K = or_first (inner x >>= (λ e. dash >> pure e)) (pure (nameless x)) K
    so eq-or (assoc (inner x) (λ e. dash >> pure e) K so eq-bind (λ e. assoc dash (λ _. pure e) K so eq-bind (λ _. left e K))) (left (nameless x) K)

framed_or : (x : Piece) (K N : Element → Lang Arrow) → Equal (framed x (λ e. K e or N e)) (framed x K or framed x N)
framed_or x K N = eq-bind (λ e. or_then dash (λ _. K e) (λ _. N e)) so or_then (inner x) (λ e. dash >>= (λ _. K e)) (λ e. dash >>= (λ _. N e))

behind_dash : (x : Piece) → Equal (middle x >>= ended) ((framed x (λ e. tip >> pure (Right, e)) or framed x (λ e. pure (Either, e))) or ((tip >> pure (Right, nameless x)) or pure (Either, nameless x)))
behind_dash x = middle_then x ended
    so eq-or (eq-bind (λ e. eq-bind (λ _. arrow_ends e)) so framed_or x (λ e. tip >> pure (Right, e)) (λ e. pure (Either, e))) (arrow_ends (nameless x))

abbrev four : Lang Arrow
four = ((dash >>= (λ x. framed x (λ e. tip >> pure (Right, e)))) or (dash >>= (λ x. framed x (λ e. pure (Either, e)))))
    or ((dash >>= (λ x. tip >> pure (Right, nameless x))) or (dash >>= (λ x. pure (Either, nameless x))))

forward_is : Equal (dash >>= forward) four
forward_is = eq-bind behind_dash
    so or_then dash (λ x. framed x (λ e. tip >> pure (Right, e)) or framed x (λ e. pure (Either, e))) (λ x. (tip >> pure (Right, nameless x)) or pure (Either, nameless x))
    so eq-or (or_then dash (λ x. framed x (λ e. tip >> pure (Right, e))) (λ x. framed x (λ e. pure (Either, e)))) (or_then dash (λ x. tip >> pure (Right, nameless x)) (λ x. pure (Either, nameless x)))

abbrev less : Lang Piece
less = one (is s.Less)

abbrev two : Lang Arrow
two = (less >>= (λ x. dash >>= (λ _. framed x (λ e. pure (Left, e))))) or (less >>= (λ x. dash >>= (λ _. pure (Left, nameless x))))

backward_is : Equal (less >>= backward) two
backward_is = eq-bind (λ x. eq-bind (λ _. middle_then x (λ e. pure (Left, e))) so or_then dash (λ _. framed x (λ e. pure (Left, e))) (λ _. pure (Left, nameless x)))
    so or_then less (λ x. dash >>= (λ _. framed x (λ e. pure (Left, e)))) (λ x. dash >>= (λ _. pure (Left, nameless x)))

-- the six forms in their order
shuffle : {A : Type 0} (a b c d e f : Lang A) → Equal (((a or c) or (d or f)) or (b or e)) (a or b or c or d or e or f)
shuffle a b c d e f = record {
  to = record {
    at = λ ts x h. elim h [
      | inl i ↦ (elim i [ inl j ↦ (elim j [ inl w ↦ inl w | inr w ↦ inr (inr (inl w)) ]) | inr j ↦ (elim j [ inl w ↦ inr (inr (inr (inl w))) | inr w ↦ inr (inr (inr (inr (inr w)))) ]) ])
      | inr i ↦ (elim i [ inl w ↦ inr (inl w) | inr w ↦ inr (inr (inr (inr (inl w)))) ])
    ];
  };
  back = record {
    at = λ ts x h. elim h [
      | inl w ↦ inl (inl (inl w))
      | inr i ↦ (elim i [ inl w ↦ inr (inl w) | inr j ↦ (elim j [ inl w ↦ inl (inl (inr w)) | inr k ↦ (elim k [ inl w ↦ inl (inr (inl w)) | inr l ↦ (elim l [ inl w ↦ inr (inr w) | inr w ↦ inl (inr (inr w)) ]) ]) ]) ])
    ];
  };
}

edge_forms : Equal ((dash >>= forward) or (less >>= backward)) edge
unfolding edge
edge_forms = eq-or forward_is backward_is so shuffle _ _ _ _ _ _

abbrev pub behind : Piece → Lang Arrow
behind x = pick (is s.Minus x.sym) (forward x) (backward x)

edge_once : Equal (one is_edge >>= behind) edge
unfolding is
edge_once = record { to = split.back; back = split.to } so edge_forms
  where
    split : Equal ((dash >>= forward) or (less >>= backward)) (one is_edge >>= behind)
    split = one_of (is s.Minus) (is s.Less) is_edge forward backward refl refl refl refl

abbrev pub after_sign : Piece → Lang PathStep
after_sign x = do
  e ← behind x
  v ← vertex
  pure (record { way = e.0; edge = e.1; vertex = v })

abbrev then_vertex : Arrow → Lang PathStep
then_vertex e = vertex >>= (λ v. pure (record { way = e.0; edge = e.1; vertex = v }))

regroup : Equal ((one is_edge >>= behind) >>= then_vertex) (one is_edge >>= after_sign)
regroup = assoc (one is_edge) behind then_vertex

-- a step of a path, begun by its sign
pub step_once : Equal (one is_edge >>= after_sign) step
unfolding step
step_once = record { to = regroup.back; back = regroup.to } so eq-first edge_once
