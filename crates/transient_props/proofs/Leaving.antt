-- An entry is found by its name, and leaves.
use Rattle.std.proofs.Common.{◌≡◌, ℕ, zero, suc, ◌+◌, ◌<◌, ◌≤◌, Bool, true, false, cond, not, List, [], ◌∷◌, length, Option, Some, None, slice_get, map, refl, ap, sym, subst, ◌∙◌, arith}
use Rattle.std.specs.Prelude.{◌≢◌}
use Rattle.std.specs.List.{remove, position_or_len}
use Rattle.std.specs.Ordering.{nat_cmp}
use Rattle.std.specs.Cmp.Lexicographic.{slice_cmp}
use Rattle.std.specs.declared.cmp.Ordering.TheVariants.{Less}
use Rattle.std.proofs.lemmas.List.{length-map}
use Rattle.std.proofs.lemmas.List.Sums.{prefix_len-le-length}
use Rattle.std.proofs.lemmas.Option.{slice_get_past}
use Rattle.std.proofs.lemmas.List.Quantifiers.{all_pairs_remove}
use Rattle.column_types.specs.Column.{ColumnData}
use Rattle.graph_schema.specs.declared.schema.Prop.{Prop}
use Rattle.graph_schema.specs.Fault.{same_name}
use Rattle.transient_props.specs.Transients.{Transient, column_of, prop_of, entries_of, NamesRise, IsKept, ChangesOnly}
use Rattle.transient_props.proofs.Names.{same, not_same, below_none, below_later, later_rise}
use Rattle.transient_props.proofs.Kept.{kept, entries_are, map_remove, as_long}
use Rattle.transient_props.proofs.Putting.{looks_on}

-- the place of the first entry of a name
abbrev pub place_of : List ℕ → List Transient → ℕ
place_of n ts = position_or_len (λ p. same_name p.name n) (map prop_of ts)

found_step : (b : Bool) (t : Transient) (ts : List Transient) (i : ℕ) (found : Option ColumnData) → slice_get (map (λ t. t.column) ts) i ≡ found → slice_get (map (λ t. t.column) (t ∷ ts)) (cond (not b) (1 + i) 0) ≡ cond b (Some t.column) found
found_step true t ts i found h = refl
found_step false t ts i found h =
    let next : 1 + i ≡ suc i = omega arith in
    subst (λ j. slice_get (map (λ t. t.column) (t ∷ ts)) j ≡ found) (sym next) h

-- what stands in the column list at that place
pub found_there : (ts : List Transient) (n : List ℕ) → slice_get (map (λ t. t.column) ts) (place_of n ts) ≡ column_of ts n
found_there [] n = refl
found_there (t ∷ ts) n = found_step (same_name t.name n) t ts (place_of n ts) (column_of ts n) (found_there ts n)

-- ---- without an entry

abbrev pub without : List ℕ → List Transient → List Transient
without n [] = []
without n (t ∷ ts) = cond (same_name t.name n) ts (t ∷ without n ts)

remove_step : (b : Bool) (n : List ℕ) (t : Transient) (ts : List Transient) (i : ℕ) → (i < length ts → remove ts i ≡ without n ts) → cond (not b) (1 + i) 0 < length (t ∷ ts) → remove (t ∷ ts) (cond (not b) (1 + i) 0) ≡ cond b ts (t ∷ without n ts)
remove_step true n t ts i h within = refl
remove_step false n t ts i h within =
    let next : 1 + i ≡ suc i = omega arith in
    subst (λ j. remove (t ∷ ts) j ≡ t ∷ without n ts) (sym next) (ap (λ more. t ∷ more) (h (omega arith)))

pub remove_leaves : (ts : List Transient) (n : List ℕ) → place_of n ts < length ts → remove ts (place_of n ts) ≡ without n ts
remove_leaves [] n within = refl
remove_leaves (t ∷ ts) n within = remove_step (same_name t.name n) n t ts (place_of n ts) (remove_leaves ts n) within

at_step : (b : Bool) (n : List ℕ) (t : Transient) (ts : List Transient) → same_name t.name n ≡ b → NamesRise (t ∷ ts) → column_of (without n ts) n ≡ None → column_of (cond b ts (t ∷ without n ts)) n ≡ None
at_step true n t ts is rise h = subst (λ m. column_of ts m ≡ None) (same t.name n is) (below_none t.name ts (below_later t ts rise))
at_step false n t ts is rise h = looks_on t (without n ts) n is ∙ h

without_at : (ts : List Transient) (n : List ℕ) → NamesRise ts → column_of (without n ts) n ≡ None
without_at [] n rise = refl
without_at (t ∷ ts) n rise = at_step (same_name t.name n) n t ts refl rise (without_at ts n (later_rise t ts rise))

other_step : (b : Bool) (n m : List ℕ) (t : Transient) (ts : List Transient) → same_name t.name n ≡ b → m ≢ n → column_of (without n ts) m ≡ column_of ts m → column_of (cond b ts (t ∷ without n ts)) m ≡ column_of (t ∷ ts) m
other_step true n m t ts is other h = sym (looks_on t ts m (not_same t.name m (λ e. other (sym e ∙ same t.name n is))))
other_step false n m t ts is other h = ap (λ found. cond (same_name t.name m) (Some t.column) found) h

without_other : (ts : List Transient) (n m : List ℕ) → m ≢ n → column_of (without n ts) m ≡ column_of ts m
without_other [] n m other = refl
without_other (t ∷ ts) n m other = other_step (same_name t.name n) n m t ts refl other (without_other ts n m other)

pub without_changes : (ts : List Transient) (n : List ℕ) → NamesRise ts → ChangesOnly ts (without n ts) n None
without_changes ts n rise = record { at = without_at ts n rise; others = λ m other. without_other ts n m other }

-- ---- the lists of the map

-- the place of the first property of a name
abbrev pub found_in : List ℕ → List Prop → ℕ
found_in n ps = position_or_len (λ p. same_name p.name n) ps

pub found_within : (ps : List Prop) (n : List ℕ) → found_in n ps ≤ length ps
found_within ps n = prefix_len-le-length (λ p. not (same_name p.name n)) ps

found_at_place : (ps : List Prop) (cs : List ColumnData) (n : List ℕ) → IsKept ps cs → found_in n ps ≡ place_of n (entries_of ps cs)
found_at_place ps cs n k = ap (found_in n) k.props

-- the column that stands at the place of a name
pub answered : (ps : List Prop) (cs : List ColumnData) (n : List ℕ) → IsKept ps cs → slice_get cs (found_in n ps) ≡ column_of (entries_of ps cs) n
answered ps cs n k =
    ap (λ c. slice_get c (found_in n ps)) k.columns ∙ ap (slice_get (map (λ (t : Transient). t.column) (entries_of ps cs))) (found_at_place ps cs n k)
    ∙ found_there (entries_of ps cs) n

not_past : (cs : List ColumnData) (i : ℕ) → i < length cs → slice_get cs i ≡ None → ⊥
not_past [] i within h = absurd (omega arith)
not_past (c ∷ cs) zero within h = cc
not_past (c ∷ cs) (suc i) within h = not_past cs i (omega arith) h

-- no property has the name, or one has it
pub missing : (ps : List Prop) (cs : List ColumnData) (n : List ℕ) → IsKept ps cs → length ps ≤ found_in n ps → column_of (entries_of ps cs) n ≡ None
missing ps cs n k past =
    let end : length cs ≤ found_in n ps = omega (arith, past, as_long ps cs k) in
    sym (answered ps cs n k) ∙ slice_get_past cs (found_in n ps) end

pub there : (ps : List Prop) (cs : List ColumnData) (n : List ℕ) → IsKept ps cs → found_in n ps < length ps → column_of (entries_of ps cs) n ≡ None → ⊥
there ps cs n k within none =
    let inside : found_in n ps < length cs = omega (arith, within, as_long ps cs k) in
    not_past cs (found_in n ps) inside (answered ps cs n k ∙ none)

-- the lists after a removal at one place
left_props : (ps : List Prop) (cs : List ColumnData) (i : ℕ) → IsKept ps cs → remove ps i ≡ map prop_of (remove (entries_of ps cs) i)
left_props ps cs i k = ap (λ p. remove p i) k.props ∙ map_remove prop_of (entries_of ps cs) i

left_columns : (ps : List Prop) (cs : List ColumnData) (i : ℕ) → IsKept ps cs → remove cs i ≡ map (λ t. t.column) (remove (entries_of ps cs) i)
left_columns ps cs i k = ap (λ c. remove c i) k.columns ∙ map_remove (λ (t : Transient). t.column) (entries_of ps cs) i

as_many : (ps : List Prop) (cs : List ColumnData) → IsKept ps cs → length ps ≡ length (entries_of ps cs)
as_many ps cs k = ap length k.props ∙ length-map (entries_of ps cs) prop_of

pub left_kept : (ps : List Prop) (cs : List ColumnData) (i : ℕ) (qs : List Prop) (ds : List ColumnData) → IsKept ps cs → i < length ps → qs ≡ remove ps i → ds ≡ remove cs i → IsKept qs ds
left_kept ps cs i qs ds k within hp hc =
    let inside : i < length (entries_of ps cs) = omega (arith, within, as_many ps cs k) in
    kept (remove (entries_of ps cs) i) qs ds (hp ∙ left_props ps cs i k) (hc ∙ left_columns ps cs i k)
    (all_pairs_remove (λ (s : Transient) (t : Transient). slice_cmp nat_cmp s.name t.name ≡ Less) (entries_of ps cs) i inside k.rising)

-- the entry of a name leaves
pub left_changes : (ps : List Prop) (cs : List ColumnData) (n : List ℕ) (qs : List Prop) (ds : List ColumnData) → IsKept ps cs → found_in n ps < length ps → qs ≡ remove ps (found_in n ps) → ds ≡ remove cs (found_in n ps) → ChangesOnly (entries_of ps cs) (entries_of qs ds) n None
left_changes ps cs n qs ds k within hp hc =
    let place : found_in n ps ≡ place_of n (entries_of ps cs) = found_at_place ps cs n k in
    let inside : place_of n (entries_of ps cs) < length (entries_of ps cs) = omega (arith, within, place, as_many ps cs k) in
    let left : entries_of qs ds ≡ without n (entries_of ps cs) =
    entries_are (remove (entries_of ps cs) (found_in n ps)) qs ds (hp ∙ left_props ps cs (found_in n ps) k) (hc ∙ left_columns ps cs (found_in n ps) k)
    ∙ ap (remove (entries_of ps cs)) place ∙ remove_leaves (entries_of ps cs) n inside in
    subst (λ us. ChangesOnly (entries_of ps cs) us n None) (sym left) (without_changes (entries_of ps cs) n k.rising)
