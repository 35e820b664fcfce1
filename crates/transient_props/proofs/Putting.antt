-- An entry is put where its name belongs.
use Rattle.std.proofs.Common.{◌≡◌, ℕ, suc, ◌+◌, Bool, true, false, cond, ◌≤◌, length, List, [], ◌∷◌, Some, None, map, refl, ap, sym, subst, ◌∙◌, arith}
use Rattle.std.specs.List.{insert, prefix_len}
use Rattle.std.specs.Ordering.{nat_cmp, is_lt}
use Rattle.std.specs.Cmp.Lexicographic.{slice_cmp}
use Rattle.std.specs.declared.cmp.Ordering.{Ordering}
use Rattle.std.specs.declared.cmp.Ordering.TheVariants.{Less, Equal, Greater}
use Rattle.std.proofs.lemmas.List.Sums.{prefix_len-le-length}
use Rattle.std.proofs.lemmas.List.Elements.{All-cons, All-nil}
use Rattle.std.proofs.lemmas.List.Kept.{AllPairs-cons}
use Rattle.column_types.specs.Column.{ColumnData}
use Rattle.graph_schema.specs.declared.schema.Prop.{Prop}
use Rattle.graph_schema.specs.Fault.{same_name}
use Rattle.transient_props.specs.Transients.{Transient, column_of, prop_of, entries_of, NamesRise, IsKept, ChangesOnly}
use Rattle.transient_props.proofs.Kept.{kept, entries_are, map_insert}
use Rattle.transient_props.proofs.Names.{itself, differs, not_same, Below, turned, below_trans, tied_same, BelowAll, below_later, later_rise, below_first, below_rest}

-- how many entries stand before the place of a name
abbrev pub place_for : List ℕ → List Transient → ℕ
place_for n ts = prefix_len (λ p. is_lt (slice_cmp nat_cmp p.name n)) (map prop_of ts)

-- the entry before the first whose name is not below its own
abbrev pub put : List Transient → Transient → List Transient
put [] t = t ∷ []
put (s ∷ ts) t = cond (is_lt (slice_cmp nat_cmp s.name t.name)) (s ∷ put ts t) (t ∷ s ∷ ts)

insert_step : (b : Bool) (s t : Transient) (ts : List Transient) (i : ℕ) → insert ts i t ≡ put ts t → insert (s ∷ ts) (cond b (1 + i) 0) t ≡ cond b (s ∷ put ts t) (t ∷ s ∷ ts)
insert_step true s t ts i h =
    let next : 1 + i ≡ suc i = omega arith in
    subst (λ j. insert (s ∷ ts) j t ≡ s ∷ put ts t) (sym next) (ap (λ more. s ∷ more) h)
insert_step false s t ts i h = refl

pub insert_puts : (ts : List Transient) (t : Transient) → insert ts (place_for t.name ts) t ≡ put ts t
insert_puts [] t = refl
insert_puts (s ∷ ts) t = insert_step (is_lt (slice_cmp nat_cmp s.name t.name)) s t ts (place_for t.name ts) (insert_puts ts t)

-- ---- look-ups

first_none : (b : Bool) (c : ColumnData) (ts : List Transient) (n : List ℕ) → cond b (Some c) (column_of ts n) ≡ None → (b ≡ false) × (column_of ts n ≡ None)
first_none true c ts n h = cc
first_none false c ts n h = (refl, h)

-- the first entry of a list has another name, and the later ones have no column of the name
pub none_first : (t : Transient) (ts : List Transient) (n : List ℕ) → column_of (t ∷ ts) n ≡ None → same_name t.name n ≡ false
none_first t ts n h = (first_none (same_name t.name n) t.column ts n h).0

pub none_rest : (t : Transient) (ts : List Transient) (n : List ℕ) → column_of (t ∷ ts) n ≡ None → column_of ts n ≡ None
none_rest t ts n h = (first_none (same_name t.name n) t.column ts n h).1

-- what a look-up answers at a first entry of the name, and of another
pub looks_first : (t : Transient) (ts : List Transient) (n : List ℕ) → same_name t.name n ≡ true → column_of (t ∷ ts) n ≡ Some t.column
looks_first t ts n h = ap (λ b. cond b (Some t.column) (column_of ts n)) h

pub looks_on : (t : Transient) (ts : List Transient) (n : List ℕ) → same_name t.name n ≡ false → column_of (t ∷ ts) n ≡ column_of ts n
looks_on t ts n h = ap (λ b. cond b (Some t.column) (column_of ts n)) h

at_step : (b : Bool) (s t : Transient) (ts : List Transient) → same_name s.name t.name ≡ false → column_of (put ts t) t.name ≡ Some t.column → column_of (cond b (s ∷ put ts t) (t ∷ s ∷ ts)) t.name ≡ Some t.column
at_step true s t ts other h = looks_on s (put ts t) t.name other ∙ h
at_step false s t ts other h = looks_first t (s ∷ ts) t.name (itself t.name)

put_at : (ts : List Transient) (t : Transient) → column_of ts t.name ≡ None → column_of (put ts t) t.name ≡ Some t.column
put_at [] t none = looks_first t [] t.name (itself t.name)
put_at (s ∷ ts) t none =
    at_step (is_lt (slice_cmp nat_cmp s.name t.name)) s t ts (none_first s ts t.name none) (put_at ts t (none_rest s ts t.name none))

other_step : (b : Bool) (s t : Transient) (ts : List Transient) (n : List ℕ) → same_name t.name n ≡ false → column_of (put ts t) n ≡ column_of ts n → column_of (cond b (s ∷ put ts t) (t ∷ s ∷ ts)) n ≡ column_of (s ∷ ts) n
other_step true s t ts n other h = ap (λ found. cond (same_name s.name n) (Some s.column) found) h
other_step false s t ts n other h = looks_on t (s ∷ ts) n other

put_other : (ts : List Transient) (t : Transient) (n : List ℕ) → same_name t.name n ≡ false → column_of (put ts t) n ≡ column_of ts n
put_other [] t n other = looks_on t [] n other
put_other (s ∷ ts) t n other = other_step (is_lt (slice_cmp nat_cmp s.name t.name)) s t ts n other (put_other ts t n other)

pub put_changes : (ts : List Transient) (t : Transient) → column_of ts t.name ≡ None → ChangesOnly ts (put ts t) t.name (Some t.column)
put_changes ts t none = record { at = put_at ts t none; others = λ n other. put_other ts t n (not_same t.name n (λ e. other (sym e))) }

-- ---- order

below_step : (b : Bool) (n : List ℕ) (s t : Transient) (ts : List Transient) → Below n t.name → BelowAll n (s ∷ ts) → BelowAll n (put ts t) → BelowAll n (cond b (s ∷ put ts t) (t ∷ s ∷ ts))
below_step true n s t ts here below h = All-cons (λ u. Below n u.name) s (put ts t) (below_first n s ts below) h
below_step false n s t ts here below h = All-cons (λ u. Below n u.name) t (s ∷ ts) here below

below_put : (n : List ℕ) (ts : List Transient) (t : Transient) → Below n t.name → BelowAll n ts → BelowAll n (put ts t)
below_put n [] t here below = All-cons (λ u. Below n u.name) t [] here (All-nil (λ u. Below n u.name))
below_put n (s ∷ ts) t here below =
    below_step (is_lt (slice_cmp nat_cmp s.name t.name)) n s t ts here below (below_put n ts t here (below_rest n s ts below))

abbrev Before : Transient → Transient → Type 0
Before s t = Below s.name t.name

pub further : (n : List ℕ) (s : Transient) (ts : List Transient) → Below n s.name → BelowAll s.name ts → BelowAll n ts
further n s ts lower below i d within = below_trans n s.name _ lower (below i d within)

rise_step : (r : Ordering) (s t : Transient) (ts : List Transient) → slice_cmp nat_cmp s.name t.name ≡ r → same_name s.name t.name ≡ false → NamesRise (s ∷ ts) → NamesRise (put ts t) → NamesRise (cond (is_lt r) (s ∷ put ts t) (t ∷ s ∷ ts))
rise_step Less s t ts is other rise h = AllPairs-cons Before s (put ts t) (below_put s.name ts t is (below_later s ts rise)) h
rise_step Equal s t ts is other rise h = absurd (differs s.name t.name other (tied_same s.name t.name is))
rise_step Greater s t ts is other rise h =
    let lower : Below t.name s.name = turned s.name t.name Greater is in
    AllPairs-cons Before t (s ∷ ts) (All-cons (λ u. Below t.name u.name) s ts lower (further t.name s ts lower (below_later s ts rise))) rise

pub put_rises : (ts : List Transient) (t : Transient) → NamesRise ts → column_of ts t.name ≡ None → NamesRise (put ts t)
put_rises [] t rise none = AllPairs-cons Before t [] (All-nil (λ u. Below t.name u.name)) rise
put_rises (s ∷ ts) t rise none =
    rise_step (slice_cmp nat_cmp s.name t.name) s t ts refl (none_first s ts t.name none) rise (put_rises ts t (later_rise s ts rise) (none_rest s ts t.name none))

-- ---- the lists of the map

-- how many properties stand before the place of a name
abbrev pub place_in : List ℕ → List Prop → ℕ
place_in n ps = prefix_len (λ p. is_lt (slice_cmp nat_cmp p.name n)) ps

pub place_within : (ps : List Prop) (n : List ℕ) → place_in n ps ≤ length ps
place_within ps n = prefix_len-le-length (λ p. is_lt (slice_cmp nat_cmp p.name n)) ps

put_at_place : (ps : List Prop) (cs : List ColumnData) (t : Transient) → IsKept ps cs → insert (entries_of ps cs) (place_in t.name ps) t ≡ put (entries_of ps cs) t
put_at_place ps cs t k =
    ap (λ p. insert (entries_of ps cs) (place_in t.name p) t) k.props ∙ insert_puts (entries_of ps cs) t

new_props : (ps : List Prop) (cs : List ColumnData) (t : Transient) → IsKept ps cs → insert ps (place_in t.name ps) (prop_of t) ≡ map prop_of (put (entries_of ps cs) t)
new_props ps cs t k =
    ap (λ p. insert p (place_in t.name ps) (prop_of t)) k.props ∙ map_insert prop_of (entries_of ps cs) (place_in t.name ps) t
    ∙ ap (map prop_of) (put_at_place ps cs t k)

new_columns : (ps : List Prop) (cs : List ColumnData) (t : Transient) → IsKept ps cs → insert cs (place_in t.name ps) t.column ≡ map (λ s. s.column) (put (entries_of ps cs) t)
new_columns ps cs t k =
    ap (λ c. insert c (place_in t.name ps) t.column) k.columns ∙ map_insert (λ (s : Transient). s.column) (entries_of ps cs) (place_in t.name ps) t
    ∙ ap (map (λ (s : Transient). s.column)) (put_at_place ps cs t k)

pub added_kept : (ps : List Prop) (cs : List ColumnData) (t : Transient) (qs : List Prop) (ds : List ColumnData) → IsKept ps cs → column_of (entries_of ps cs) t.name ≡ None → qs ≡ insert ps (place_in t.name ps) (prop_of t) → ds ≡ insert cs (place_in t.name ps) t.column → IsKept qs ds
added_kept ps cs t qs ds k none hp hc =
    kept (put (entries_of ps cs) t) qs ds (hp ∙ new_props ps cs t k) (hc ∙ new_columns ps cs t k) (put_rises (entries_of ps cs) t k.rising none)

pub added_changes : (ps : List Prop) (cs : List ColumnData) (t : Transient) (qs : List Prop) (ds : List ColumnData) → IsKept ps cs → column_of (entries_of ps cs) t.name ≡ None → qs ≡ insert ps (place_in t.name ps) (prop_of t) → ds ≡ insert cs (place_in t.name ps) t.column → ChangesOnly (entries_of ps cs) (entries_of qs ds) t.name (Some t.column)
added_changes ps cs t qs ds k none hp hc =
    let added : entries_of qs ds ≡ put (entries_of ps cs) t = entries_are (put (entries_of ps cs) t) qs ds (hp ∙ new_props ps cs t k) (hc ∙ new_columns ps cs t k) in
    subst (λ us. ChangesOnly (entries_of ps cs) us t.name (Some t.column)) (sym added) (put_changes (entries_of ps cs) t none)
