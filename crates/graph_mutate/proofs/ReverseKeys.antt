-- keys of reverses
use Rattle.std.proofs.Common.{◌≡◌, ℕ, ◌+◌, ◌<◌, ◌≤◌, ℤ, pos, ◌+ℤ◌, Bool, true, false, ◌&&◌, List, [], ◌∷◌, ◌++◌, length, take, sum_by, refl, ap, sym, ◌∙◌, arith, append_assoc}
use Rattle.std.specs.Prelude.{nat_lt, int_lt, ◌≤ℤ◌}
use Rattle.std.proofs.lemmas.Bool.Decides.{nat_tests}
use Rattle.std.proofs.lemmas.Int.{ints}
use Rattle.std.proofs.lemmas.List.FromFn.{map-range_with_len_more}
use Rattle.graph_model.specs.declared.row.EdgeRow.{EdgeRow}
use Rattle.graph_model.specs.Keys.{rows_at}
use Rattle.graph_model.specs.Graph.{GraphData}
use Rattle.graph_columns.proofs.Tables.{sum_more}
use Rattle.graph_mutate.specs.Undirected.{straight, greatest_key, reverse_total, keys_are_spent}
use Rattle.graph_mutate.specs.Undirected.{keys_after, last_key}
use Rattle.graph_mutate.proofs.Sizes.{take_le}

-- one key more
pub keys_more : (old keys after : List ℤ) (k x : ℤ) (i : ℕ) → keys ≡ old ++ keys_after k i → after ≡ keys ++ x ∷ [] → x ≡ k +ℤ pos (i + 1) → after ≡ old ++ keys_after k (i + 1)
keys_more old keys after k x i so_far grown is =
    let f : ℕ → ℤ = λ j. k +ℤ pos (j + 1) in
    grown ∙ ap (λ z. keys ++ z ∷ []) is ∙ ap (λ zs. zs ++ f i ∷ []) so_far ∙ append_assoc old (keys_after k i) (f i ∷ [])
    ∙ ap (λ zs. old ++ zs) (sym (map-range_with_len_more f 0 i i (omega arith)))

room_by : (k : ℤ) (total m : ℕ) (b : Bool) → nat_lt 0 total ≡ b → (b && int_lt (pos 9223372036854775807) (k +ℤ pos total)) ≡ false → m ≤ total → k ≤ℤ pos 9223372036854775807 → (k +ℤ pos m) ≤ℤ pos 9223372036854775807
room_by k total m true e spent le high =
    let within : (k +ℤ pos total) ≤ℤ pos 9223372036854775807 = grind (arith, ints) in
    omega (arith, ints)
room_by k total m false e spent le high =
    let nothing : total ≡ 0 = grind (arith, nat_tests) in
    omega (arith, ints)

-- the keys of a table's reverses have room
pub keys_have_room : (g : GraphData) (t : ℕ) → t < length g.edges → keys_are_spent g ≡ false → greatest_key g ≤ℤ pos 9223372036854775807 → (last_key g t +ℤ pos (length (straight (rows_at g.edges t)))) ≤ℤ pos 9223372036854775807
keys_have_room g t within spent high =
    let f = λ (rows : List EdgeRow). length (straight rows) in
    let n = sum_by f (take t g.edges) in
    let m = length (straight (rows_at g.edges t)) in
    let more : sum_by f (take (t + 1) g.edges) ≡ n + m = sum_more f g.edges t [] within in
    let few : n + m ≤ reverse_total g = omega (arith, more, take_le f (t + 1) g.edges) in
    let all : (greatest_key g +ℤ pos (n + m)) ≤ℤ pos 9223372036854775807 = room_by (greatest_key g) (reverse_total g) (n + m) (nat_lt 0 (reverse_total g)) refl spent few high in
    omega (arith, ints, all)

-- the last key before the next table
pub next_key : (g : GraphData) (t : ℕ) → t < length g.edges → last_key g (t + 1) ≡ last_key g t +ℤ pos (length (straight (rows_at g.edges t)))
next_key g t within =
    let f = λ (rows : List EdgeRow). length (straight rows) in
    let n = sum_by f (take t g.edges) in
    let m = length (straight (rows_at g.edges t)) in
    let more : sum_by f (take (t + 1) g.edges) ≡ n + m = sum_more f g.edges t [] within in
    ap (λ j. greatest_key g +ℤ pos j) more ∙ (let e : greatest_key g +ℤ pos (n + m) ≡ (greatest_key g +ℤ pos n) +ℤ pos m = omega (arith, ints) in e)
