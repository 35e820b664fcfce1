-- the arcs of a vertex, from the sides of the tables
use Rattle.std.proofs.Common.{◌≡◌, ℕ, suc, ◌==◌, ◌+◌, ◌-◌, ◌<◌, ◌≤◌, ℤ, pos, negsuc, Bool, true, false, nat_lt, List, [], ◌∷◌, ◌++◌, All, length, length-append, map, take, drop, get_or, slice_index_or, if◌then◌else◌, refl, ap, sym, ◌∙◌, subst, arith}
use Rattle.std.specs.Prelude.{flat_map}
use Rattle.std.specs.Int.RustNames.{unsigned_abs}
use Rattle.std.proofs.lemmas.Bool.Decides.{nat_tests}
use Rattle.std.proofs.lemmas.List.{length-map, map-append, get_or-map, get_or-drop, get_or_append_left, drop-drop}
use Rattle.std.proofs.lemmas.List.Folds.{length-flat_map-take}
use Rattle.std.proofs.lemmas.List.Elements.{All-nil, All-cons, All-map, All-append, All-weaker, All-same, All-get_or}
use Rattle.std.proofs.Math.Seq.{drop-append_seam, drop-cons}
use Rattle.csr_rows.specs.Rows.{places_from, places_of, row_at}
use Rattle.csr_rows.proofs.Meaning.{row_lists}
use Rattle.algo_digraph.specs.declared.arcs.Arc.{Arc}
use Rattle.algo_digraph.specs.declared.side.Side.{Side}
use Rattle.algo_digraph.specs.Arcs.{arc}
use Rattle.algo_digraph.specs.Sides.{arc_at, side_row, side_arcs, side_ends, all_ends, arcs_left, IsEnd, IsSide, AreSides, IsRow, HasRows}
use Rattle.algo_digraph.proofs.Lists.{map_pairs, map_same_on}
use Rattle.algo_digraph.proofs.Places.{places_append, places_from_first, places_on, places_none, places_within}

arc_is : (a b c d : ℕ) → a ≡ c → b ≡ d → arc a b ≡ arc c d
arc_is a b c d e f = ap (λ n. arc n b) e ∙ ap (arc c) f

-- ---- one side

module _ (n first : ℕ) (s o : Side) (is : IsSide n first s o) where
  -- the row of a vertex of the table on this side
  row_is : (w : ℕ) → row_at s.rows.now w ≡ places_of (map unsigned_abs o.there.now) w
  row_is w = ap (λ rows. row_at rows w) is.rows ∙ row_lists (map unsigned_abs o.there.now) w

  row_within : (w : ℕ) → All (λ p. p < length s.there.now) (places_of (map unsigned_abs o.there.now) w)
  row_within w =
      let long : length (map unsigned_abs o.there.now) ≡ length s.there.now = length-map o.there.now unsigned_abs ∙ sym is.long in
      All-weaker (λ p. p < length (map unsigned_abs o.there.now)) (λ p. p < length s.there.now) (λ p lt. subst (λ k. p < k) long lt) _ (places_within (map unsigned_abs o.there.now) w)

  pub has_rows : n ≤ 1048576 → first + length s.there.now ≤ 4194304 → HasRows s
  has_rows small few i = record {
    few = omega (arith, is.number, few);
    ends = All-weaker (IsEnd n s.there_first) (IsEnd 1048576 s.there_first) (λ z h. (h.0, h.1, omega (arith, h.2, small))) s.there.now is.ends;
    places = All-same (λ p. p < length s.there.now) (row_at s.rows.now i) (places_of (map unsigned_abs o.there.now) i) (row_is i) (row_within i);
  }

  -- the arcs of a vertex, where all ends from the first edge of the table on are those of the table and of later ones
  module _ (full rest : List ℕ) (at : drop first full ≡ side_ends s ++ rest) where
    end_at : (p : ℕ) → p < length s.there.now → s.there_first + unsigned_abs (slice_index_or s.there.now p (pos 0)) ≡ slice_index_or full (first + p) 0
    end_at p lt =
        let within : p < length (side_ends s) = omega (arith, lt, length-map s.there.now (λ z. s.there_first + unsigned_abs z)) in
        sym (get_or-map (λ z. s.there_first + unsigned_abs z) s.there.now p (pos 0) 0 lt)
        ∙ sym (get_or_append_left (side_ends s) rest 0 p within)
        ∙ ap (λ xs. slice_index_or xs p 0) (sym at)
        ∙ get_or-drop first full p 0

    arc_same : (p : ℕ) → p < length s.there.now → arc_at s.first_edge s.there_first s.there.now p ≡ arc (first + p) (slice_index_or full (first + p) 0)
    arc_same p lt = arc_is _ _ _ _ (ap (λ k. k + p) is.number) (end_at p lt)

    arcs_there : (v : ℕ) → s.here_first ≤ v → map (arc_at s.first_edge s.there_first s.there.now) (row_at s.rows.now (v - s.here_first)) ≡ map (λ e. arc e (slice_index_or full e 0)) (places_from first (side_ends o) v)
    arcs_there v le =
        let below : o.there_first ≤ v = omega (arith, le, is.here) in
        let places = places_of (map unsigned_abs o.there.now) (v - o.there_first) in
        ap (λ k. map (arc_at s.first_edge s.there_first s.there.now) (row_at s.rows.now (v - k))) is.here
        ∙ ap (map (arc_at s.first_edge s.there_first s.there.now)) (row_is (v - o.there_first))
        ∙ map_same_on (λ p. p < length s.there.now) (arc_at s.first_edge s.there_first s.there.now) (λ p. arc (first + p) (slice_index_or full (first + p) 0)) places (row_within (v - o.there_first)) arc_same
        ∙ sym (map_pairs (λ e. arc e (slice_index_or full e 0)) (λ k. first + k) places)
        ∙ ap (map (λ e. arc e (slice_index_or full e 0))) (sym (places_from_first first (map unsigned_abs o.there.now) (v - o.there_first)))
        ∙ ap (map (λ e. arc e (slice_index_or full e 0))) (sym (places_on first o.there_first o.there.now v below))

    arcs_by : (v : ℕ) (b : Bool) → nat_lt v s.here_first ≡ b
        → map (arc_at s.first_edge s.there_first s.there.now) (if b then [] else row_at s.rows.now (v - s.here_first)) ≡ map (λ e. arc e (slice_index_or full e 0)) (places_from first (side_ends o) v)
    arcs_by v true t =
        let lt : v < s.here_first = grind (arith, nat_tests) in
        ap (map (λ e. arc e (slice_index_or full e 0))) (sym (places_none first o.there_first o.there.now v (omega (arith, lt, is.here))))
    arcs_by v false t = let le : s.here_first ≤ v = grind (arith, nat_tests) in arcs_there v le

    pub side_arcs_are : (v : ℕ) → side_arcs v s ≡ map (λ e. arc e (slice_index_or full e 0)) (places_from first (side_ends o) v)
    side_arcs_are v = arcs_by v (nat_lt v s.here_first) refl

-- ---- all tables

ends_length : (s : Side) → length (side_ends s) ≡ length s.there.now
ends_length s = length-map s.there.now (λ z. s.there_first + unsigned_abs z)

pub arcs_are : (n first : ℕ) (sides others : List Side) (v : ℕ) (full : List ℕ) → AreSides n first sides others → drop first full ≡ all_ends sides
    → flat_map (side_arcs v) sides ≡ map (λ e. arc e (slice_index_or full e 0)) (places_from first (all_ends others) v)
arcs_are n first [] [] v full are at = refl
arcs_are n first [] (o ∷ others) v full are at = absurd are
arcs_are n first (s ∷ sides) [] v full are at = absurd are
arcs_are n first (s ∷ sides) (o ∷ others) v full are at =
    let f : ℕ → Arc = λ e. arc e (slice_index_or full e 0) in
    let k = length s.there.now in
    let here : length (side_ends s) ≡ k = ends_length s in
    let there : k ≡ length (side_ends o) = are.0.long ∙ sym (ends_length o) in
    let next : drop (first + k) full ≡ all_ends sides =
    sym (drop-drop k first full) ∙ ap (drop k) at ∙ ap (λ m. drop m (side_ends s ++ all_ends sides)) (sym here) ∙ drop-append_seam (side_ends s) (all_ends sides) in
    ap (λ xs. xs ++ flat_map (side_arcs v) sides) (side_arcs_are n first s o are.0 full (all_ends sides) at v)
    ∙ ap (λ xs. map f (places_from first (side_ends o) v) ++ xs) (arcs_are n (first + k) sides others v full are.1 next)
    ∙ ap (λ m. map f (places_from first (side_ends o) v) ++ map f (places_from (first + m) (all_ends others) v)) there
    ∙ sym (map-append f (places_from first (side_ends o) v) (places_from (first + length (side_ends o)) (all_ends others) v))
    ∙ ap (map f) (sym (places_append first (side_ends o) (all_ends others) v))

pub all_have_rows : (n first : ℕ) (sides others : List Side) → AreSides n first sides others → n ≤ 1048576 → first + length (all_ends sides) ≤ 4194304 → All HasRows sides
all_have_rows n first [] [] are small few = All-nil HasRows
all_have_rows n first [] (o ∷ others) are small few = absurd are
all_have_rows n first (s ∷ sides) [] are small few = absurd are
all_have_rows n first (s ∷ sides) (o ∷ others) are small few =
    let split : length (all_ends (s ∷ sides)) ≡ length s.there.now + length (all_ends sides) = length-append (side_ends s) (all_ends sides) ∙ ap (λ m. m + length (all_ends sides)) (ends_length s) in
    All-cons HasRows s sides (has_rows n first s o are.0 small (omega (arith, few, split)))
    (all_have_rows n (first + length s.there.now) sides others are.1 small (omega (arith, few, split)))

-- each end is a vertex
end_in : (n first : ℕ) (z : ℤ) → IsEnd n first z → first + unsigned_abs z < n
end_in n first (pos k) h = let same : k ≡ h.0 = cc in omega (arith, h.2, same)
end_in n first (negsuc k) h = cc

pub ends_in : (n first : ℕ) (sides others : List Side) → AreSides n first sides others → All (λ v. v < n) (all_ends sides)
ends_in n first [] [] are = All-nil (λ v. v < n)
ends_in n first [] (o ∷ others) are = absurd are
ends_in n first (s ∷ sides) [] are = absurd are
ends_in n first (s ∷ sides) (o ∷ others) are =
    All-append (λ v. v < n) (side_ends s) (all_ends sides)
    (All-map (λ v. v < n) (λ z. s.there_first + unsigned_abs z) s.there.now (All-weaker (IsEnd n s.there_first) (λ z. s.there_first + unsigned_abs z < n) (end_in n s.there_first) s.there.now are.0.ends))
    (ends_in n (first + length s.there.now) sides others are.1)

-- as many ends on either side
pub ends_long : (n first : ℕ) (sides others : List Side) → AreSides n first sides others → length (all_ends sides) ≡ length (all_ends others)
ends_long n first [] [] are = refl
ends_long n first [] (o ∷ others) are = absurd are
ends_long n first (s ∷ sides) [] are = absurd are
ends_long n first (s ∷ sides) (o ∷ others) are =
    omega (
      arith,
      length-append (side_ends s) (all_ends sides),
      length-append (side_ends o) (all_ends others),
      ends_length s,
      ends_length o,
      are.0.long,
      ends_long n (first + length s.there.now) sides others are.1,
    )

-- one table more
pub sides_push : (n first : ℕ) (sides others : List Side) (s o : Side) → AreSides n first sides others → IsSide n (first + length (all_ends sides)) s o → AreSides n first (sides ++ s ∷ []) (others ++ o ∷ [])
sides_push n first [] [] s o are one = (subst (λ k. IsSide n k s o) (let e : first + 0 ≡ first = omega arith in e) one, tt)
sides_push n first [] (y ∷ others) s o are one = absurd are
sides_push n first (x ∷ sides) [] s o are one = absurd are
sides_push n first (x ∷ sides) (y ∷ others) s o are one =
    let on : first + length (all_ends (x ∷ sides)) ≡ (first + length x.there.now) + length (all_ends sides) = omega (arith, length-append (side_ends x) (all_ends sides), ends_length x) in
    (are.0, sides_push n (first + length x.there.now) sides others s o are.1 (subst (λ k. IsSide n k s o) on one))

-- ---- the next table

pub no_places : (row : List ℕ) → (length row == 0) ≡ true → row ≡ []
no_places [] e = refl
no_places (p ∷ row) e = let no : ⊥ = grind (arith, nat_tests) in absurd no

-- the row of a table at work is at its end, and that of the next one is taken
pub next_table : (v : ℕ) (sides : List Side) (table : ℕ) (d : Side) (first_edge there_first : ℕ) (there : List ℤ) (row next : List ℕ) → table < length sides → row ≡ [] → next ≡ side_row (get_or sides table d) v
    → arcs_left (get_or sides table d).first_edge (get_or sides table d).there_first (get_or sides table d).there.now next v sides (table + 1) ≡ arcs_left first_edge there_first there row v sides table
next_table v sides table d first_edge there_first there row next lt none is =
    let s = get_or sides table d in
    let later : drop table sides ≡ s ∷ drop (table + 1) sides = drop-cons sides table d lt ∙ ap (λ k. s ∷ drop k sides) (let e : suc table ≡ table + 1 = omega arith in e) in
    ap (λ r. map (arc_at s.first_edge s.there_first s.there.now) r ++ flat_map (side_arcs v) (drop (table + 1) sides)) is
    ∙ sym (ap (flat_map (side_arcs v)) later)
    ∙ sym (ap (λ r. map (arc_at first_edge there_first there) r ++ flat_map (side_arcs v) (drop table sides)) none)

-- what its row keeps
row_kept : (s : Side) (v : ℕ) (b : Bool) → nat_lt v s.here_first ≡ b → HasRows s → IsRow s.first_edge s.there_first s.there.now (if b then [] else row_at s.rows.now (v - s.here_first))
row_kept s v true e rows = record { few = (rows 0).few; ends = (rows 0).ends; places = All-nil (λ p. p < length s.there.now) }
row_kept s v false e rows = rows (v - s.here_first)

pub next_row : (sides : List Side) (table v : ℕ) (d : Side) (next : List ℕ) → table < length sides → next ≡ side_row (get_or sides table d) v → All HasRows sides
    → IsRow (get_or sides table d).first_edge (get_or sides table d).there_first (get_or sides table d).there.now next
next_row sides table v d next lt is all =
    let s = get_or sides table d in
    subst (IsRow s.first_edge s.there_first s.there.now) (sym is) (row_kept s v (nat_lt v s.here_first) refl (All-get_or HasRows sides table d lt all))

-- ---- how many arcs the sides have

-- the row of the next side is counted within those of all
pub row_counted : (v : ℕ) (sides : List Side) (i : ℕ) (s : Side) (row : List ℕ) → i < length sides → s ≡ get_or sides i s → row ≡ side_row s v
    → length (flat_map (side_arcs v) (take i sides)) + length row ≤ length (flat_map (side_arcs v) sides)
row_counted v sides i s row lt at is =
    omega (
      arith,
      length-flat_map-take (side_arcs v) sides i s lt,
      ap (λ x. length (side_arcs v x)) at,
      length-map (side_row s v) (arc_at s.first_edge s.there_first s.there.now),
      ap length is,
    )
