-- How seats follow the keys, columns and flags in which they lie.
use Rattle.std.proofs.Common.{◌≡◌, ◌≢◌, ℕ, ℤ, pos, zero, suc, ◌+◌, ◌-◌, ◌*◌, ◌<◌, ◌≤◌, Bool, true, false, not, List, [], ◌∷◌, ◌++◌, Some, None, length, get_or, set, slice_get, replicate, refl, ap, sym, ◌∙◌, subst, arith, map, take, All, cond, ◌==◌}
use Rattle.std.specs.List.{AllZip, list_any, range_with_len, sum_by}
use Rattle.std.specs.Ordering.{int_eq}
use Rattle.std.specs.Prelude.{IsTrue}
use Rattle.std.proofs.lemmas.Bool.Decides.{nat_tests}
use Rattle.std.proofs.lemmas.List.{same_lists, length-set, length_push, length-map, map-set, set-get_or, get_or-map, get_or_append_left, get_or_push, get_or_past, get_or-set_same, get_or-set_other, get_or-append_right, length-append, length-replicate, get_or-replicate, get_or_default, take_more_set, get_or_at, append_assoc}
use Rattle.std.proofs.lemmas.List.FromFn.{length-map-range_with_len, get_or-map-range_with_len, map-range_with_len_more}
use Rattle.std.proofs.lemmas.List.Elements.{All-nil, All-cons, All-filter, All-map, All-set}
use Rattle.std.proofs.lemmas.List.Sums.{sum_by-cons}
use Rattle.column_types.specs.declared.kind.Kind.{Kind}
use Rattle.column_types.specs.declared.value.Value.{Value}
use Rattle.column_types.specs.declared.value.Value.TheVariants.{Null}
use Rattle.column_types.specs.Value.{fits_kind}
use Rattle.column_types.specs.Column.{ColumnData}
use Rattle.key_places.specs.declared.index.KeyPlaces.{KeyPlaces}
use Rattle.key_places.specs.Places.{Puts, place_of}
use Rattle.graph_schema.specs.declared.schema.Prop.{Prop}
use Rattle.graph_model.specs.Seats.{Seat, TableData, AreColumns, AreTold, IsTable, is_live, sits, sits_at, seat_key, live_seats, no_column, KeepsBelow, HasRow, PutsAt, Fit, column_at, row_of, kinds_of, flag_at, flagged, with_flag, seat_from, seats_from, seated, vacated, reset, left, with_value, no_seat}
use Rattle.graph_model.proofs.Rows.{got}
use Rattle.graph_model.proofs.Told.{told_push, told_vacate, told_reset, sits_within}

-- ---- lists by places

-- two lists by places that agree
pub range_same : {X : Type 0} (n : ℕ) (f g : ℕ → X) → ((i : ℕ) → i < n → f i ≡ g i) → map f (range_with_len 0 n) ≡ map g (range_with_len 0 n)
range_same n f g same =
    same_lists (map f (range_with_len 0 n)) (map g (range_with_len 0 n)) (length-map-range_with_len f 0 n ∙ sym (length-map-range_with_len g 0 n))
    (λ k d within.
    let below : k < n = omega (arith, within, length-map-range_with_len f 0 n) in
    get_or-map-range_with_len f 0 n k k d below (omega arith) ∙ same k below ∙ sym (get_or-map-range_with_len g 0 n k k d below (omega arith)))

set_by : {X : Type 0} (n i k : ℕ) (f g : ℕ → X) (d : X) (b : Bool) → (k == i) ≡ b → k < n → i < n → ((j : ℕ) → j < n → j ≢ i → g j ≡ f j) → g k ≡ get_or (set (map f (range_with_len 0 n)) i (g i)) k d
set_by n i k f g d true e below within same =
    let here : k ≡ i = grind (arith, nat_tests) in
    ap g here
    ∙ sym (get_or-set_same (map f (range_with_len 0 n)) i (g i) d (omega (arith, within, length-map-range_with_len f 0 n)))
    ∙ ap (λ m. get_or (set (map f (range_with_len 0 n)) i (g i)) m d) (sym here)
set_by n i k f g d false e below within same =
    let apart : k ≢ i = grind (arith, nat_tests) in
    same k below apart
    ∙ sym (get_or-map-range_with_len f 0 n k k d below (omega arith))
    ∙ sym (get_or-set_other (map f (range_with_len 0 n)) i k (g i) d apart)

-- two that agree at all places but one
pub range_set : {X : Type 0} (n i : ℕ) (f g : ℕ → X) → i < n → ((j : ℕ) → j < n → j ≢ i → g j ≡ f j) → map g (range_with_len 0 n) ≡ set (map f (range_with_len 0 n)) i (g i)
range_set n i f g within same =
    same_lists (map g (range_with_len 0 n)) (set (map f (range_with_len 0 n)) i (g i)) (length-map-range_with_len g 0 n ∙ sym (length-set (map f (range_with_len 0 n)) i (g i) ∙ length-map-range_with_len f 0 n))
    (λ k d h.
    let below : k < n = omega (arith, h, length-map-range_with_len g 0 n) in
    get_or-map-range_with_len g 0 n k k d below (omega arith) ∙ set_by n i k f g d (k == i) refl below within same)

-- ---- columns while a row is put

keeps_itself : (n : ℕ) (c : ColumnData) → n ≤ length c.values → KeepsBelow n c c
keeps_itself n c long = record { kind = refl; long = long; below = λ i h. refl }

keeps_on : (n : ℕ) (c d e : ColumnData) → KeepsBelow n c d → KeepsBelow n d e → KeepsBelow n c e
keeps_on n c d e f g = record { kind = g.kind ∙ f.kind; long = g.long; below = λ i h. g.below i h ∙ f.below i h }

pub all_keep : (n : ℕ) (cs : List ColumnData) → All (λ c. n ≤ length c.values) cs → AllZip (KeepsBelow n) cs cs
all_keep n [] long = tt
all_keep n (c ∷ cs) long = (keeps_itself n c (long 0 c (omega arith)), all_keep n cs (λ i d h. long (suc i) d (omega arith)))

-- the kind and length of a column that was kept
pub kept_at : (n : ℕ) (cs ds : List ColumnData) (p : ℕ) → AllZip (KeepsBelow n) cs ds → p < length cs → KeepsBelow n (column_at cs p) (column_at ds p)
kept_at n [] ds p h within = absurd (omega arith)
kept_at n (c ∷ cs) [] p h within = absurd h
kept_at n (c ∷ cs) (d ∷ ds) zero h within = h.0
kept_at n (c ∷ cs) (d ∷ ds) (suc p) h within = kept_at n cs ds p h.1 (omega arith)

pub fit_at : (cs : List ColumnData) (vs : List Value) (p : ℕ) (d : Value) → Fit (kinds_of cs) vs → p < length vs → IsTrue (fits_kind (column_at cs p).kind (get_or vs p d))
fit_at [] [] p d h within = absurd (omega arith)
fit_at [] (v ∷ vs) p d h within = absurd h
fit_at (c ∷ cs) [] p d h within = absurd h
fit_at (c ∷ cs) (v ∷ vs) zero d h within = h.0
fit_at (c ∷ cs) (v ∷ vs) (suc p) d h within = fit_at cs vs p d h.1 (omega arith)

pub fit_length : (cs : List ColumnData) (vs : List Value) → Fit (kinds_of cs) vs → length vs ≡ length cs
fit_length [] [] h = refl
fit_length [] (v ∷ vs) h = absurd h
fit_length (c ∷ cs) [] h = absurd h
fit_length (c ∷ cs) (v ∷ vs) h = ap (λ n. suc n) (fit_length cs vs h.1)

keep_set : (n : ℕ) (cs ds : List ColumnData) (p : ℕ) (e : ColumnData) → AllZip (KeepsBelow n) cs ds → KeepsBelow n (column_at ds p) e → AllZip (KeepsBelow n) cs (set ds p e)
keep_set n [] [] p e h f = h
keep_set n [] (d ∷ ds) p e h f = absurd h
keep_set n (c ∷ cs) [] p e h f = absurd h
keep_set n (c ∷ cs) (d ∷ ds) zero e h f = (keeps_on n c d e h.0 f, h.1)
keep_set n (c ∷ cs) (d ∷ ds) (suc p) e h f = (h.0, keep_set n cs ds p e h.1 f)

pub kept_more : (n : ℕ) (cs ds es : List ColumnData) (p : ℕ) → AllZip (KeepsBelow n) cs ds → PutsAt p n ds es → AllZip (KeepsBelow n) cs es
kept_more n cs ds es p h puts = subst (AllZip (KeepsBelow n) cs) (sym puts.others) (keep_set n cs ds p (column_at es p) h puts.kept)

has_push : (n : ℕ) (cs : List ColumnData) (vs : List Value) (c : ColumnData) (v : Value) → HasRow n cs vs → slice_get c.values n ≡ Some v → HasRow n (cs ++ c ∷ []) (vs ++ v ∷ [])
has_push n [] [] c v h e = (e, tt)
has_push n [] (w ∷ vs) c v h e = absurd h
has_push n (d ∷ cs) [] c v h e = absurd h
has_push n (d ∷ cs) (w ∷ vs) c v h e = (h.0, has_push n cs vs c v h.1 e)

-- a value more of the row
pub row_more : (n : ℕ) (ds es : List ColumnData) (vs : List Value) (p : ℕ) (v : Value) → p < length ds → HasRow n (take p ds) vs → PutsAt p n ds es → slice_get (column_at es p).values n ≡ Some v → HasRow n (take (p + 1) es) (vs ++ v ∷ [])
row_more n ds es vs p v within h puts e =
    subst (λ l. HasRow n l (vs ++ v ∷ [])) (sym (ap (take (p + 1)) puts.others ∙ take_more_set ds p (column_at es p) within))
    (has_push n (take p ds) vs (column_at es p) v h e)

-- ---- columns after a row was put, or was not

pub row_kept : (n : ℕ) (cs ds : List ColumnData) (i : ℕ) → i < n → AllZip (KeepsBelow n) cs ds → row_of ds i ≡ row_of cs i
row_kept n [] [] i below h = refl
row_kept n [] (d ∷ ds) i below h = absurd h
row_kept n (c ∷ cs) [] i below h = absurd h
row_kept n (c ∷ cs) (d ∷ ds) i below h = ap (λ v. v ∷ row_of ds i) (h.0.below i below) ∙ ap (λ vs. get_or c.values i Null ∷ vs) (row_kept n cs ds i below h.1)

pub kinds_kept : (n : ℕ) (cs ds : List ColumnData) → AllZip (KeepsBelow n) cs ds → kinds_of ds ≡ kinds_of cs
kinds_kept n [] [] h = refl
kinds_kept n [] (d ∷ ds) h = absurd h
kinds_kept n (c ∷ cs) [] h = absurd h
kinds_kept n (c ∷ cs) (d ∷ ds) h = ap (λ k. k ∷ kinds_of ds) h.0.kind ∙ ap (λ ks. c.kind ∷ ks) (kinds_kept n cs ds h.1)

pub long_kept : (n : ℕ) (cs ds : List ColumnData) → AllZip (KeepsBelow n) cs ds → All (λ c. n ≤ length c.values) ds
long_kept n [] [] h = All-nil (λ c. n ≤ length c.values)
long_kept n [] (d ∷ ds) h = absurd h
long_kept n (c ∷ cs) [] h = absurd h
long_kept n (c ∷ cs) (d ∷ ds) h = All-cons (λ e. n ≤ length e.values) d ds h.0.long (long_kept n cs ds h.1)

pub row_put : (n : ℕ) (cs : List ColumnData) (vs : List Value) → HasRow n cs vs → row_of cs n ≡ vs
row_put n [] [] h = refl
row_put n [] (v ∷ vs) h = absurd h
row_put n (c ∷ cs) [] h = absurd h
row_put n (c ∷ cs) (v ∷ vs) h = ap (λ w. w ∷ row_of cs n) (got c.values n v Null h.0).1 ∙ ap (λ ws. v ∷ ws) (row_put n cs vs h.1)

pub long_put : (n : ℕ) (cs : List ColumnData) (vs : List Value) → HasRow n cs vs → All (λ c. n + 1 ≤ length c.values) cs
long_put n [] [] h = All-nil (λ c. n + 1 ≤ length c.values)
long_put n [] (v ∷ vs) h = absurd h
long_put n (c ∷ cs) [] h = absurd h
long_put n (c ∷ cs) (v ∷ vs) h = All-cons (λ e. n + 1 ≤ length e.values) c cs (omega (arith, (got c.values n v Null h.0).0)) (long_put n cs vs h.1)

-- ---- seats

pub seats_kept : (keys : List ℤ) (cs ds : List ColumnData) (dead : List Bool) → AllZip (KeepsBelow (length keys)) cs ds → seats_from keys ds dead ≡ seats_from keys cs dead
seats_kept keys cs ds dead kept =
    range_same (length keys) (seat_from keys ds dead) (seat_from keys cs dead)
    (λ i below. ap (λ vs. record { key = get_or keys i (pos 0); values = vs; live = not (flag_at dead i) }) (row_kept (length keys) cs ds i below kept))

seat_more : (keys : List ℤ) (cs ds : List ColumnData) (dead : List Bool) (k : ℤ) (i : ℕ) → i < length keys → AllZip (KeepsBelow (length keys)) cs ds → seat_from (keys ++ k ∷ []) ds dead i ≡ seat_from keys cs dead i
seat_more keys cs ds dead k i below kept =
    ap (λ z. record { key = z; values = row_of ds i; live = not (flag_at dead i) }) (get_or_append_left keys (k ∷ []) (pos 0) i below)
    ∙ ap (λ vs. record { key = get_or keys i (pos 0); values = vs; live = not (flag_at dead i) }) (row_kept (length keys) cs ds i below kept)

seat_last : (keys : List ℤ) (ds : List ColumnData) (dead : List Bool) (k : ℤ) (vs : List Value) → length dead ≤ length keys → HasRow (length keys) ds vs → seat_from (keys ++ k ∷ []) ds dead (length keys) ≡ record { key = k; values = vs; live = true }
seat_last keys ds dead k vs flags put =
    ap (λ z. record { key = z; values = row_of ds (length keys); live = not (flag_at dead (length keys)) }) (get_or_push keys k (pos 0) (length keys) refl)
    ∙ ap (λ ws. record { key = k; values = ws; live = not (flag_at dead (length keys)) }) (row_put (length keys) ds vs put)
    ∙ ap (λ b. record { key = k; values = vs; live = not b }) (get_or_past dead (length keys) false flags)

pub seats_push : (keys : List ℤ) (cs ds : List ColumnData) (dead : List Bool) (k : ℤ) (vs : List Value) → length dead ≤ length keys → AllZip (KeepsBelow (length keys)) cs ds → HasRow (length keys) ds vs → seats_from (keys ++ k ∷ []) ds dead ≡ seated (seats_from keys cs dead) k vs
seats_push keys cs ds dead k vs flags kept put =
    ap (λ n. map (seat_from (keys ++ k ∷ []) ds dead) (range_with_len 0 n)) (length_push keys k)
    ∙ map-range_with_len_more (seat_from (keys ++ k ∷ []) ds dead) 0 (length keys) (length keys) (omega arith)
    ∙ ap (λ ss. ss ++ seat_from (keys ++ k ∷ []) ds dead (length keys) ∷ []) (range_same (length keys) (seat_from (keys ++ k ∷ []) ds dead) (seat_from keys cs dead) (λ i below. seat_more keys cs ds dead k i below kept))
    ∙ ap (λ s. seats_from keys cs dead ++ s ∷ []) (seat_last keys ds dead k vs flags put)

-- the seat at a place
pub seat_at : (keys : List ℤ) (cs : List ColumnData) (dead : List Bool) (i : ℕ) (d : Seat) → i < length keys → get_or (seats_from keys cs dead) i d ≡ seat_from keys cs dead i
seat_at keys cs dead i d below = get_or-map-range_with_len (seat_from keys cs dead) 0 (length keys) i i d below (omega arith)

pub length_seats : (keys : List ℤ) (cs : List ColumnData) (dead : List Bool) → length (seats_from keys cs dead) ≡ length keys
length_seats keys cs dead = length-map-range_with_len (seat_from keys cs dead) 0 (length keys)

-- ---- a flag set

flag_past : (dead : List Bool) (m j : ℕ) → flag_at (dead ++ replicate m false) j ≡ flag_at dead j
flag_past [] zero j = refl
flag_past [] (suc m) zero = refl
flag_past [] (suc m) (suc j) = flag_past [] m j
flag_past (x ∷ dead) m zero = refl
flag_past (x ∷ dead) m (suc j) = flag_past dead m j

pub length_flagged : (dead : List Bool) (i : ℕ) → i < length (dead ++ replicate (i + 1 - length dead) false)
length_flagged dead i = omega (arith, length-append dead (replicate (i + 1 - length dead) false), length-replicate (i + 1 - length dead) false)

pub flag_here : (dead : List Bool) (i : ℕ) → flag_at (flagged dead i) i ≡ true
flag_here dead i = get_or-set_same (dead ++ replicate (i + 1 - length dead) false) i true false (length_flagged dead i)

pub flag_other : (dead : List Bool) (i j : ℕ) → j ≢ i → flag_at (flagged dead i) j ≡ flag_at dead j
flag_other dead i j apart =
    get_or-set_other (dead ++ replicate (i + 1 - length dead) false) i j true false apart ∙ flag_past dead (i + 1 - length dead) j

pub seats_vacate : (keys : List ℤ) (cs : List ColumnData) (dead : List Bool) (i : ℕ) → i < length keys → seats_from keys cs (flagged dead i) ≡ vacated (seats_from keys cs dead) i
seats_vacate keys cs dead i within =
    range_set (length keys) i (seat_from keys cs dead) (seat_from keys cs (flagged dead i)) within
    (λ j below apart. ap (λ b. record { key = get_or keys j (pos 0); values = row_of cs j; live = not b }) (flag_other dead i j apart))
    ∙ ap (set (seats_from keys cs dead) i) (ap (λ b. record { key = get_or keys i (pos 0); values = row_of cs i; live = not b }) (flag_here dead i) ∙ ap left (sym (seat_at keys cs dead i no_seat within)))

-- ---- a value set

row_set : (cs : List ColumnData) (p i j : ℕ) (c : ColumnData) (v : Value) → p < length cs → c.values ≡ set (get_or cs p c).values i v → j ≢ i → row_of (set cs p c) j ≡ row_of cs j
row_set cs p i j c v within is apart =
    map-set (λ (x : ColumnData). get_or x.values j Null) cs p c
    ∙ ap (set (row_of cs j) p)
    (ap (λ vs. get_or vs j Null) is ∙ get_or-set_other (get_or cs p c).values i j v Null apart
    ∙ sym (get_or-map (λ (x : ColumnData). get_or x.values j Null) cs p c Null within))
    ∙ set-get_or (row_of cs j) p Null

row_set_here : (cs : List ColumnData) (p i : ℕ) (c : ColumnData) (v : Value) → c.values ≡ set (get_or cs p c).values i v → i < length (get_or cs p c).values → row_of (set cs p c) i ≡ set (row_of cs i) p v
row_set_here cs p i c v is within =
    map-set (λ (x : ColumnData). get_or x.values i Null) cs p c
    ∙ ap (set (row_of cs i) p) (ap (λ vs. get_or vs i Null) is ∙ get_or-set_same (get_or cs p c).values i v Null within)

pub seats_reset : (keys : List ℤ) (cs : List ColumnData) (dead : List Bool) (i p : ℕ) (c : ColumnData) (v : Value) → i < length keys → p < length cs → c.values ≡ set (get_or cs p c).values i v → All (λ x. length keys ≤ length x.values) cs → seats_from keys (set cs p c) dead ≡ reset (seats_from keys cs dead) i p v
seats_reset keys cs dead i p c v within column is long =
    let inside : i < length (get_or cs p c).values = omega (arith, long p c column, within) in
    range_set (length keys) i (seat_from keys cs dead) (seat_from keys (set cs p c) dead) within
    (λ j below apart. ap (λ vs. record { key = get_or keys j (pos 0); values = vs; live = not (flag_at dead j) }) (row_set cs p i j c v column is apart))
    ∙ ap (set (seats_from keys cs dead) i)
    (ap (λ vs. record { key = get_or keys i (pos 0); values = vs; live = not (flag_at dead i) }) (row_set_here cs p i c v is inside)
    ∙ ap (with_value p v) (sym (seat_at keys cs dead i no_seat within)))

pub kinds_reset : (cs : List ColumnData) (p : ℕ) (c : ColumnData) → p < length cs → c.kind ≡ (get_or cs p c).kind → kinds_of (set cs p c) ≡ kinds_of cs
kinds_reset cs p c within same =
    map-set (λ (x : ColumnData). x.kind) cs p c
    ∙ ap (set (kinds_of cs) p) (same ∙ sym (get_or-map (λ (x : ColumnData). x.kind) cs p c c.kind within))
    ∙ set-get_or (kinds_of cs) p c.kind

-- ---- what a stored table keeps

pub puts_set : (cs : List ColumnData) (p n : ℕ) (d : ColumnData) → p < length cs → KeepsBelow n (column_at cs p) d → PutsAt p n cs (set cs p d)
puts_set cs p n d within kept =
    let here = get_or-set_same cs p d no_column within in
    record {
      others = ap (set cs p) (sym here);
      kept = subst (KeepsBelow n (column_at cs p)) (sym here) kept;
    }

sum_wide : (w : ℕ) (seats : List Seat) → All (λ s. length s.values ≡ w) seats → sum_by (λ s. length s.values) seats ≡ length seats * w
sum_wide w [] wide = omega arith
sum_wide w (s ∷ seats) wide =
    let here : length s.values ≡ w = wide 0 s (omega arith) in
    omega (arith, sum_by-cons (λ (x : Seat). length x.values) s seats, sum_wide w seats (λ i d h. wide (suc i) d (omega arith)))

-- each row has a value of each column
pub cells_are : (keys : List ℤ) (cs : List ColumnData) (dead : List Bool) → sum_by (λ s. length s.values) (live_seats (seats_from keys cs dead)) ≡ length (live_seats (seats_from keys cs dead)) * length cs
cells_are keys cs dead =
    sum_wide (length cs) (live_seats (seats_from keys cs dead))
    (All-filter is_live (λ s. length s.values ≡ length cs) (seats_from keys cs dead)
    (All-map (λ (s : Seat). length s.values ≡ length cs) (seat_from keys cs dead) (range_with_len 0 (length keys)) (λ i d h. length-map cs (λ (c : ColumnData). get_or c.values (get_or (range_with_len 0 (length keys)) i d) Null))))

module _ (keys : List ℤ) (cs ds : List ColumnData) (dead : List Bool) where
  pub kept_is_table : (index : KeyPlaces) (live : ℕ) → IsTable keys cs dead index live → AllZip (KeepsBelow (length keys)) cs ds → IsTable keys ds dead index live
  kept_is_table index live is kept = record {
    laid = record { few = is.laid.few; long = long_kept (length keys) cs ds kept; flags = is.laid.flags };
    told = subst (λ s. AreTold s index live) (sym (seats_kept keys cs ds dead kept)) is.told;
  }

  -- the same where an index tells the same by other means
  pub same_is_table : (old new : KeyPlaces) (live : ℕ) → IsTable keys cs dead old live → AllZip (KeepsBelow (length keys)) cs ds → ((k : ℤ) → place_of new k ≡ place_of old k) → IsTable keys ds dead new live
  same_is_table old new live is kept same =
      let told = subst (λ s. AreTold s old live) (sym (seats_kept keys cs ds dead kept)) is.told in
      record {
        laid = record { few = is.laid.few; long = long_kept (length keys) cs ds kept; flags = is.laid.flags };
        told = record { once = told.once; indexed = λ k. same k ∙ told.indexed k; count = told.count };
      }

  pub push_is_table : (old new : KeyPlaces) (live : ℕ) (k : ℤ) (vs : List Value) → length keys < 2147483647 → IsTable keys cs dead old live → AllZip (KeepsBelow (length keys)) cs ds → HasRow (length keys) ds vs → list_any (sits k) (seats_from keys cs dead) ≡ false → Puts old new k (Some (length keys)) → IsTable (keys ++ k ∷ []) ds dead new (live + 1)
  push_is_table old new live k vs room is kept put absent updates =
      let long : All (λ c. length keys + 1 ≤ length c.values) ds = long_put (length keys) ds vs put in
      let more = length_push keys k in
      record {
        laid = record {
          few = omega arith;
          long = λ i d h. omega (arith, long i d h);
          flags = omega (arith, is.laid.flags);
        };
        told = subst (λ s. AreTold s new (live + 1)) (sym (seats_push keys cs ds dead k vs is.laid.flags kept put))
            (told_push (seats_from keys cs dead) old new live k vs is.told (subst (λ n. Puts old new k (Some n)) (sym (length_seats keys cs dead)) updates) absent);
      }

-- flags that are made and not set change no row
pub seats_unflagged : (keys : List ℤ) (cs : List ColumnData) (dead : List Bool) (i : ℕ) → seats_from keys cs (with_flag dead i) ≡ seats_from keys cs dead
seats_unflagged keys cs dead i =
    range_same (length keys) (seat_from keys cs (with_flag dead i)) (seat_from keys cs dead)
    (λ j below. ap (λ b. record { key = get_or keys j (pos 0); values = row_of cs j; live = not b }) (flag_past dead (i + 1 - length dead) j))

pub unflagged_is_table : (keys : List ℤ) (cs : List ColumnData) (dead : List Bool) (old new : KeyPlaces) (live i : ℕ) → i < length keys → IsTable keys cs dead old live → ((k : ℤ) → place_of new k ≡ place_of old k) → IsTable keys cs (with_flag dead i) new live
unflagged_is_table keys cs dead old new live i within is same = record {
  laid = record {
    few = is.laid.few;
    long = is.laid.long;
    flags = omega (arith, is.laid.flags, length-append dead (replicate (i + 1 - length dead) false), length-replicate (i + 1 - length dead) false);
  };
  told = subst (λ s. AreTold s new live) (sym (seats_unflagged keys cs dead i))
      (record { once = is.told.once; indexed = λ k. same k ∙ is.told.indexed k; count = is.told.count });
}

pub vacate_is_table : (keys : List ℤ) (cs : List ColumnData) (dead : List Bool) (old new : KeyPlaces) (live i : ℕ) → IsTable keys cs dead old live → sits_at (seats_from keys cs dead) i ≡ true → Puts old new (get_or keys i (pos 0)) None → IsTable keys cs (flagged dead i) new (live - 1)
vacate_is_table keys cs dead old new live i is there updates =
    let within : i < length keys = omega (arith, sits_within (seats_from keys cs dead) i there, length_seats keys cs dead) in
    let key = ap seat_key (sym (seat_at keys cs dead i no_seat within)) in
    record {
      laid = record {
        few = is.laid.few;
        long = is.laid.long;
        flags = omega (arith, is.laid.flags, length-set (dead ++ replicate (i + 1 - length dead) false) i true, length-append dead (replicate (i + 1 - length dead) false), length-replicate (i + 1 - length dead) false);
      };
      told = subst (λ s. AreTold s new (live - 1)) (sym (seats_vacate keys cs dead i within))
          (told_vacate (seats_from keys cs dead) old new live i there is.told (subst (λ k. Puts old new k None) key updates));
    }

pub reset_is_table : (keys : List ℤ) (cs : List ColumnData) (dead : List Bool) (index : KeyPlaces) (live i p : ℕ) (c : ColumnData) (v : Value) → i < length keys → p < length cs → c.values ≡ set (get_or cs p c).values i v → IsTable keys cs dead index live → IsTable keys (set cs p c) dead index live
reset_is_table keys cs dead index live i p c v within column is_set is =
    let inside = is.laid.long p c column in
    record {
      laid = record {
        few = is.laid.few;
        long = All-set (λ x. length keys ≤ length x.values) cs p c (omega (arith, inside, ap length is_set, length-set (get_or cs p c).values i v)) is.laid.long;
        flags = is.laid.flags;
      };
      told = subst (λ s. AreTold s index live) (sym (seats_reset keys cs dead i p c v within column is_set is.laid.long))
          (told_reset (seats_from keys cs dead) index live i p v (omega (arith, length_seats keys cs dead)) is.told);
    }

-- ---- how a stored table is seen

pub kinds_new : (props : List Prop) → kinds_of (map (λ p. record { kind = p.kind; values = [] }) props) ≡ map (λ p. p.kind) props
kinds_new [] = refl
kinds_new (p ∷ props) = ap (λ ks. p.kind ∷ ks) (kinds_new props)

module _ (keys : List ℤ) (cs ds : List ColumnData) (dead : List Bool) where
  pub kept_view : AllZip (KeepsBelow (length keys)) cs ds → ◌≡◌ {A = TableData} (record { kinds = kinds_of ds; seats = seats_from keys ds dead }) (record { kinds = kinds_of cs; seats = seats_from keys cs dead })
  kept_view kept =
      ap (λ k. record { kinds = k; seats = seats_from keys ds dead }) (kinds_kept (length keys) cs ds kept)
      ∙ ap (λ s. record { kinds = kinds_of cs; seats = s }) (seats_kept keys cs ds dead kept)

  pub push_view : (k : ℤ) (vs : List Value) → length dead ≤ length keys → AllZip (KeepsBelow (length keys)) cs ds → HasRow (length keys) ds vs → ◌≡◌ {A = TableData} (record { kinds = kinds_of ds; seats = seats_from (keys ++ k ∷ []) ds dead }) (record { kinds = kinds_of cs; seats = seated (seats_from keys cs dead) k vs })
  push_view k vs flags kept put =
      ap (λ x. record { kinds = x; seats = seats_from (keys ++ k ∷ []) ds dead }) (kinds_kept (length keys) cs ds kept)
      ∙ ap (λ s. record { kinds = kinds_of cs; seats = s }) (seats_push keys cs ds dead k vs flags kept put)

-- ---- the values of a row, handed out one by one

pub next_value : (ys rest after vs : List Value) (v : Value) → ys ++ rest ≡ vs → rest ≡ v ∷ after → (length ys < length vs) × (get_or vs (length ys) v ≡ v) × ((ys ++ v ∷ []) ++ after ≡ vs)
next_value ys rest after vs v whole next =
    let all : ys ++ v ∷ after ≡ vs = ap (λ l. ys ++ l) (sym next) ∙ whole in
    (omega (arith, sym (length-append ys (v ∷ after)) ∙ ap length all), ap (λ l. get_or l (length ys) v) (sym all) ∙ get_or_at ys v after v (length ys) refl, append_assoc ys (v ∷ []) after ∙ all)
