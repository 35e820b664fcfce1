-- lines of rows, and numbers in lines, that are printed one after another
use Rattle.std.proofs.Common.{◌≡◌, ℕ, ℤ, pos, ◌+◌, ◌<◌, List, [], ◌∷◌, ◌++◌, Some, All, length, take, get_or, slice_get, map, refl, ap, sym, ◌∙◌, subst, arith, append_assoc}
use Rattle.std.specs.List.{flat_map}
use Rattle.std.proofs.lemmas.List.{flat_map_more, length-map, map-append, take_more}
use Rattle.std.proofs.lemmas.List.Concat.{flat_map-append}
use Rattle.std.proofs.lemmas.Option.{slice_get_within, slice_get-get_or, get_or_from_slice_get, same_Some}
use Rattle.graph_model.specs.declared.row.VertexRow.{VertexRow}
use Rattle.graph_model.specs.Graph.{vertex_key}
use Rattle.graph_snap.proofs.Readers.{got}
use Rattle.graph_snap.proofs.Taken.{taken_more}
use Rattle.journal_text.specs.Ends.{keys_at}
use Rattle.journal_text.specs.Graphs.{spaced_number}

-- what holds of each row holds of the row of a place
pub at_row : {R : Type 0} (P : R → Type 0) (rows : List R) (i : ℕ) (r : R) → All P rows → slice_get rows i ≡ Some r → P r
at_row P rows i r all there = subst P (get_or_from_slice_get rows i r r there) (all i r (slice_get_within rows i r there))

-- the lines of one more row
pub rows_more : {R : Type 0} (line : R → List ℕ) (rows : List R) (i : ℕ) (r : R) (old before after : List ℕ) → slice_get rows i ≡ Some r → before ≡ old ++ flat_map line (take i rows) → after ≡ before ++ line r → after ≡ old ++ flat_map line (take (i + 1) rows)
rows_more line rows i r old before after there so_far step =
    step ∙ ap (λ x. x ++ line r) so_far ∙ flat_map_more line old (take i rows) r
    ∙ ap (λ rs. old ++ flat_map line rs) (taken_more rows i r (take i rows) (take i rows ++ r ∷ []) there refl refl)

blank_vertex : VertexRow
blank_vertex = record { key = pos 0; values = [] }

-- the lines of one more vertex, which its key tells
pub key_lines_more : (line : VertexRow → List ℕ) (tell : ℤ → List ℕ) (rows : List VertexRow) (i : ℕ) (k : ℤ) (old before after : List ℕ) → ((r : VertexRow) → line r ≡ tell r.key) → slice_get (map vertex_key rows) i ≡ Some k → before ≡ old ++ flat_map line (take i rows) → after ≡ before ++ tell k → after ≡ old ++ flat_map line (take (i + 1) rows)
key_lines_more line tell rows i k old before after by_key there so_far step =
    let within : i < length rows = omega (arith, slice_get_within (map vertex_key rows) i k there, length-map rows vertex_key) in
    let r = get_or rows i blank_vertex in
    let key : r.key ≡ k = same_Some _ _ (sym (got vertex_key rows i blank_vertex within) ∙ there) in
    rows_more line rows i r old before after (slice_get-get_or rows i blank_vertex within) so_far
    (step ∙ ap (λ z. before ++ tell z) (sym key) ∙ ap (λ x. before ++ x) (sym (by_key r)))

-- some numbers more in a line
pub numbers_more : (old before after : List ℕ) (so_far more all : List ℤ) → before ≡ old ++ flat_map spaced_number so_far → after ≡ before ++ flat_map spaced_number more → all ≡ so_far ++ more → after ≡ old ++ flat_map spaced_number all
numbers_more old before after so_far more all is step both =
    step ∙ ap (λ x. x ++ flat_map spaced_number more) is ∙ append_assoc old (flat_map spaced_number so_far) _
    ∙ ap (λ x. old ++ x) (sym (flat_map-append spaced_number so_far more))
    ∙ ap (λ ks. old ++ flat_map spaced_number ks) (sym both)

-- the key at one more place
pub key_more : (keys : List ℤ) (places : List ℕ) (i : ℕ) (old before after : List ℕ) → i < length places → before ≡ old ++ flat_map spaced_number (keys_at keys (take i places)) → after ≡ before ++ spaced_number (get_or keys (get_or places i 0) (pos 0)) → after ≡ old ++ flat_map spaced_number (keys_at keys (take (i + 1) places))
key_more keys places i old before after within so_far step =
    let k = get_or keys (get_or places i 0) (pos 0) in
    step ∙ ap (λ x. x ++ spaced_number k) so_far ∙ flat_map_more spaced_number old (keys_at keys (take i places)) k
    ∙ ap (λ ks. old ++ flat_map spaced_number ks)
    (sym (ap (keys_at keys) (take_more places i 0 within) ∙ map-append (λ place. get_or keys place (pos 0)) (take i places) (get_or places i 0 ∷ [])))
