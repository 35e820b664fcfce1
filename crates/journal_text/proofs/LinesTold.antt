-- lines of published graphs, that are printed one after another
use Rattle.std.proofs.Common.{◌≡◌, ℕ, ◌+◌, ◌<◌, List, ◌++◌, Some, codes, length, take, drop, get_or, ap, sym, ◌∙◌, append_assoc}
use Rattle.std.specs.List.{flat_map}
use Rattle.std.specs.Io.{StartsWith}
use Rattle.std.proofs.Math.Seq.{take-append_seam}
use Rattle.std.proofs.lemmas.List.{take-append-drop}
use Rattle.std.proofs.lemmas.Option.{slice_get-get_or}
use Rattle.std.proofs.lemmas.List.Concat.{flat_map-append}
use Rattle.journal_text.specs.Lines.{spaced, reply_line}
use Rattle.journal_text.proofs.RowLines.{rows_more}

-- a reply line whose words are printed in two parts: what stands after its spaces, its first word, and each part
pub two_parts : (old name : List ℕ) (told more : List (List ℕ)) (begun named half whole : List ℕ) → begun ≡ old ++ codes "  " → named ≡ begun ++ name → half ≡ named ++ spaced told → whole ≡ half ++ spaced more → whole ++ codes "\n" ≡ old ++ reply_line name (told ++ more)
two_parts old name told more begun named half whole begins names halves wholes =
    let is : whole ≡ (((old ++ codes "  ") ++ name) ++ spaced told) ++ spaced more =
    wholes ∙ ap (λ x. x ++ spaced more) (halves ∙ ap (λ x. x ++ spaced told) (names ∙ ap (λ x. x ++ name) begins)) in
    ap (λ x. x ++ codes "\n") is
    ∙ simp append_assoc
    (ap (λ x. old ++ (codes "  " ++ (name ++ x))) (sym (append_assoc (spaced told) (spaced more) (codes "\n")) ∙ ap (λ x. x ++ codes "\n") (sym (flat_map-append (λ word. codes " " ++ word) told more))))

-- the line of one more item of a list
pub line_more : {R : Type 0} (line : R → List ℕ) (items : List R) (i : ℕ) (item : R) (old before after : List ℕ) → i < length items → item ≡ get_or items i item → before ≡ old ++ flat_map line (take i items) → after ≡ before ++ line item → after ≡ old ++ flat_map line (take (i + 1) items)
line_more line items i item old before after within is so_far step =
    rows_more line items i item old before after (slice_get-get_or items i item within ∙ ap Some (sym is)) so_far step

-- what begins with a text and more begins with the text
pub begins_shorter : (old more new : List ℕ) → StartsWith new (old ++ more) → StartsWith new old
begins_shorter old more new begins =
    ap (λ x. take (length old) x) (sym (take-append-drop (length (old ++ more)) new) ∙ ap (λ x. x ++ drop (length (old ++ more)) new) begins ∙ append_assoc old more _)
    ∙ take-append_seam old _
