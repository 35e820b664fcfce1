-- The reader of queries against their grammar.
use Rattle.std.proofs.Common.{◌≡◌, inl, inr, ℕ, ◌+◌, ◌<◌, arith, true, false, List, [], ◌∷◌, ◌++◌, length, drop, ◌-◌, length-append, Ok, Err, sym, subst}
use Rattle.std.proofs.lemmas.List.{take-append-drop}
use Rattle.pgql_ast.specs.declared.query.Query.{Query}
use Rattle.pgql_grammar.specs.declared.piece.Piece.{Piece}
use Rattle.pgql_grammar.specs.declared.piece.Sym.TheVariants.{End, Select}
use Rattle.pgql_grammar.specs.Sorts.{is}
use Rattle.pgql_grammar.specs.Reading.{head}
use Rattle.pgql_grammar.specs.Language.{Lang}
use Rattle.pgql_grammar.specs.Clauses as g
use Rattle.pgql_grammar.specs.Clauses.{any_query}
use Rattle.pgql_grammar.specs.QueryReader as r
use Rattle.pgql_grammar.specs.Faults.{FirstFault}
use Rattle.pgql_grammar.proofs.Good.{Plain}
use Rattle.pgql_grammar.proofs.ClauseFits.{fits-query_to}
use Rattle.pgql_grammar.proofs.Ends.{Family, fault, late, whole, never_empty, one_value}

pub family : Family r.query_to g.query_to (is Select) (is End)
family = record { fits = fits-query_to; stops = λ x e. e }

pub only_query : (words : List Piece) (a b : Query) → any_query words a → any_query words b → a ≡ b
only_query words a b h i = one_value r.query_to g.query_to (is Select) (is End) family words a b h.0 i.0 h.1 i.1

-- ---- faults

pub not_both : {A : Type 0} {L : Lang A} (words : List Piece) (a : A) (k : ℕ) → FirstFault L words k → L words a → ⊥
not_both {L = L} words a k f h = elim f.there [
  | inl t ↦ t.1 (drop (k + 1) words, a, subst (λ (l : List Piece). L l a) (sym (take-append-drop (k + 1) words)) h)
  | inr t ↦ t.1 a h
]

-- ---- the answers of a whole text

abbrev pub full : List Piece → Piece → List Piece
full words end = words ++ end ∷ []

module _ (words : List Piece) (end : Piece) (ends : is End end.sym ≡ true) (plain : Plain words) where
  enough : length words < length (full words end)
  enough = omega (arith, length-append words (end ∷ []))

  pub fault_full : (rest : List Piece) → r.query_to (length (full words end)) (full words end) ≡ Err rest → FirstFault any_query words (length (full words end) - length rest)
  fault_full rest e = fault r.query_to g.query_to (is Select) (is End) family words end ends plain (length (full words end)) enough rest e

  pub late_full : (a : Query) (rest : List Piece) → r.query_to (length (full words end)) (full words end) ≡ Ok (a, rest) → is End (head rest) ≡ false → FirstFault any_query words (length (full words end) - length rest)
  unfolding is
  late_full a [] e h = absurd cc
  late_full a (x ∷ rest) e h = late r.query_to g.query_to (is Select) (is End) family words end ends plain (length (full words end)) enough a x rest h e

  pub whole_full : (a : Query) (rest : List Piece) → r.query_to (length (full words end)) (full words end) ≡ Ok (a, rest) → is End (head rest) ≡ true → any_query words a
  whole_full a [] e h = absurd (never_empty r.query_to g.query_to (is Select) (is End) family words end ends plain (length (full words end)) enough a e)
  whole_full a (x ∷ rest) e h = whole r.query_to g.query_to (is Select) (is End) family words end ends plain (length (full words end)) enough a x rest h e
