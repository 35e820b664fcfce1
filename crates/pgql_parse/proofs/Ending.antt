-- The answers for a whole text.
use Rattle.std.proofs.Common.{◌≡◌, inr, ℕ, zero, suc, ◌-◌, arith, true, false, List, [], ◌∷◌, ◌++◌, length, length-append, Ok, Err, refl, sym, ap, subst, ◌∙◌}
use Rattle.pgql_ast.specs.declared.token.Token.{Token}
use Rattle.pgql_ast.specs.declared.query.Query.{Query}
use Rattle.pgql_grammar.specs.declared.piece.Piece.{Piece}
use Rattle.pgql_grammar.specs.declared.piece.Sym.TheVariants.{End}
use Rattle.pgql_grammar.specs.Sorts.{is}
use Rattle.pgql_grammar.specs.Reading.{head}
use Rattle.pgql_grammar.specs.QueryReader.{query_to}
use Rattle.pgql_grammar.specs.Faults.{FirstFault}
use Rattle.pgql_grammar.specs.Clauses.{any_query, query_to as queries_to}
use Rattle.pgql_grammar.specs.Pieces.{pieces}
use Rattle.pgql_grammar.specs.Meaning.{IsWithin, Spells, Refused, place_at}
use Rattle.pgql_grammar.proofs.Good.{Took, Begun}
use Rattle.pgql_grammar.proofs.ClauseFits.{fits-query_to}
use Rattle.pgql_grammar.proofs.Theorem.{full, fault_full, late_full, whole_full}
use Rattle.pgql_grammar.proofs.TextLaws.{pieces_plain}
use Rattle.pgql_pieces.specs.Answer.{end_of}
use Rattle.pgql_parse.specs.Place.{first_place}

-- the place behind the pieces that were read
place_behind : (end : ℕ) (u rest : List Piece) → place_at end (u ++ rest) (length u) ≡ first_place end rest
place_behind end [] [] = refl
place_behind end [] (x ∷ rest) = refl
place_behind end (x ∷ u) rest = place_behind end u rest

-- the end is no piece of its own
place_without_end : (end : ℕ) (words : List Piece) (k : ℕ) → place_at end (words ++ end_of end ∷ []) k ≡ place_at end words k
place_without_end end [] zero = refl
place_without_end end [] (suc k) = refl
place_without_end end (x ∷ words) zero = refl
place_without_end end (x ∷ words) (suc k) = place_without_end end words k

ends : (text : List ℕ) → is End (end_of (length text)).sym ≡ true
unfolding is
ends text = refl

module _ (text : List ℕ) (found : List Token) (within : IsWithin text found) where
  abbrev words : List Piece
  words = pieces text found

  abbrev end : Piece
  end = end_of (length text)

  abbrev all : List Piece
  all = full words end

  place_left : (u rest : List Piece) → all ≡ u ++ rest → first_place (length text) rest ≡ place_at (length text) words (length all - length rest)
  place_left u rest e =
      let k : length all - length rest ≡ length u = omega (arith, ap length e, length-append u rest) in
      sym (place_behind (length text) u rest) ∙ ap (λ l. place_at (length text) l (length u)) (sym e) ∙ place_without_end (length text) words (length u) ∙ ap (place_at (length text) words) (sym k)

  refused_at : (rest u : List Piece) (place : ℕ) → FirstFault any_query words (length all - length rest) → all ≡ u ++ rest → place ≡ first_place (length text) rest → Refused text 41 place
  refused_at rest u place f e h = inr (inr (inr (found, within, length all - length rest, f, refl, h ∙ place_left u rest e)))

  refused : (rest : List Piece) (place : ℕ) → query_to (length all) all ≡ Err rest → place ≡ first_place (length text) rest → Refused text 41 place
  refused rest place e h =
      let b : Begun (queries_to (length all)) all rest = (fits-query_to 0 (length all) (length all) (omega arith) (omega arith)).good.begun all rest e in
      refused_at rest b.0 place (fault_full words end (ends text) (pieces_plain text found) rest e) b.3 h

  late : (query : Query) (rest : List Piece) (place : ℕ) → query_to (length all) all ≡ Ok (query, rest) → is End (head rest) ≡ false → place ≡ first_place (length text) rest → Refused text 41 place
  late query rest place e i h =
      let t : Took (queries_to (length all)) all query rest = (fits-query_to 0 (length all) (length all) (omega arith) (omega arith)).good.sound all rest query e in
      refused_at rest t.0 place (late_full words end (ends text) (pieces_plain text found) query rest e i) t.1 h

  spelled : (query : Query) (rest : List Piece) → query_to (length all) all ≡ Ok (query, rest) → is End (head rest) ≡ true → Spells text query
  spelled query rest e i = (found, within, whole_full words end (ends text) (pieces_plain text found) query rest e i)

-- the same for the pieces that were made
module _ (text : List ℕ) (ps : List Piece) (made : (found : List Token) × IsWithin text found × (ps ≡ pieces text found ++ end_of (length text) ∷ [])) where
  pub answer_refused : (rest : List Piece) (place : ℕ) → query_to (length ps) ps ≡ Err rest → place ≡ first_place (length text) rest → Refused text 41 place
  answer_refused rest place e = refused text made.0 made.1 rest place (subst (λ (l : List Piece). query_to (length l) l ≡ Err rest) made.2 e)

  pub answer_late : (query : Query) (rest : List Piece) (place : ℕ) → query_to (length ps) ps ≡ Ok (query, rest) → is End (head rest) ≡ false → place ≡ first_place (length text) rest → Refused text 41 place
  answer_late query rest place e = late text made.0 made.1 query rest place (subst (λ (l : List Piece). query_to (length l) l ≡ Ok (query, rest)) made.2 e)

  pub answer_spelled : (query : Query) (rest : List Piece) → query_to (length ps) ps ≡ Ok (query, rest) → is End (head rest) ≡ true → Spells text query
  answer_spelled query rest e = spelled text made.0 made.1 query rest (subst (λ (l : List Piece). query_to (length l) l ≡ Ok (query, rest)) made.2 e)
