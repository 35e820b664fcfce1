-- the order of vertices by falling degree
use Rattle.std.proofs.Common.{◌≡◌, ℕ, zero, suc, ◌+◌, ◌<◌, ◌≤◌, ℤ, Bool, true, false, ◌||◌, ◌==◌, List, [], ◌∷◌, ◌++◌, Some, All, length, get_or, map, slice_get, cond, refl, ap, sym, ◌∙◌, subst, arith, append_assoc, length-append, length-take-le, take}
use Rattle.std.specs.Prelude.{nat_lt}
use Rattle.std.specs.List.{range_with_len, cons_option, list_any}
use Rattle.std.proofs.lemmas.Bool.Decides.{nat_tests}
use Rattle.std.proofs.lemmas.List.{length-map, take_more}
use Rattle.std.proofs.lemmas.List.Elements.{All-cons, All-map, All-nil}
use Rattle.std.proofs.lemmas.Option.{slice_get_within, slice_get-get_or, same_Some}
use Rattle.graph_model.specs.declared.row.VertexRow.{VertexRow}
use Rattle.graph_model.specs.Graph.{vertex_key}
use Rattle.graph_slots.proofs.SlotAt.{get_right}
use Rattle.graph_snap.proofs.Readers.{got}
use Rattle.graph_mutate.specs.declared.degrees.Ranked.{Ranked}
use Rattle.graph_mutate.specs.Taken.{taken}
use Rattle.graph_mutate.specs.Sorted.{put_falling, falling}
use Rattle.graph_mutate.specs.Ranks.{rank_degree, rank_place, ranks_from, ranks, order_of}
use Rattle.graph_mutate.proofs.Sums.{any_same}
use Rattle.graph_mutate.proofs.Gathering.{taken_all}
use Rattle.graph_mutate.proofs.Falling.{falling_all, falling_any}
use Rattle.graph_mutate.proofs.Degree.{blank}

-- one vertex more
pub ranks_push : (i : ℕ) (n : VertexRow → ℕ) (rows : List VertexRow) (r : VertexRow) → ranks_from i n (rows ++ r ∷ []) ≡ ranks_from i n rows ++ record { degree = n r; place = i + length rows } ∷ []
ranks_push i n [] r = ap (λ p. let x : Ranked = record { degree = n r; place = p } in x ∷ []) (let e : i ≡ i + 0 = omega arith in e)
ranks_push i n (q ∷ rows) r =
    ap (λ xs. (let x : Ranked = record { degree = n q; place = i } in x) ∷ xs)
    (ranks_push (i + 1) n rows r ∙ ap (λ p. let x : Ranked = record { degree = n r; place = p } in ranks_from (i + 1) n rows ++ x ∷ []) (let e : (i + 1) + length rows ≡ i + suc (length rows) = omega arith in e))

-- a vertex with the degree of the row at its place
pub record Fits (n : VertexRow → ℕ) (rows : List VertexRow) (x : Ranked) : Type 0 where
  pub row : VertexRow
  pub there : slice_get rows x.place ≡ Some row
  pub same : x.degree ≡ n row

here : (before : List VertexRow) (r : VertexRow) (rest : List VertexRow) → slice_get (before ++ r ∷ rest) (length before) ≡ Some r
here before r rest = ap (slice_get (before ++ r ∷ rest)) (let e : length before ≡ length before + 0 = omega arith in e) ∙ get_right before (r ∷ rest) 0

fits_from : (n : VertexRow → ℕ) (rows before rest : List VertexRow) → rows ≡ before ++ rest → All (Fits n rows) (ranks_from (length before) n rest)
fits_from n rows before [] all = All-nil (Fits n rows)
fits_from n rows before (r ∷ rest) all =
    let one : Fits n rows (record { degree = n r; place = length before }) = record { row = r; there = ap (λ xs. slice_get xs (length before)) all ∙ here before r rest; same = refl } in
    All-cons (Fits n rows) _ (ranks_from (length before + 1) n rest) one
    (subst (λ m. All (Fits n rows) (ranks_from m n rest)) (length-append before (r ∷ [])) (fits_from n rows (before ++ r ∷ []) rest (all ∙ sym (append_assoc before (r ∷ []) rest))))

pub ranks_fit : (n : VertexRow → ℕ) (rows : List VertexRow) → All (Fits n rows) (ranks n rows)
ranks_fit n rows = fits_from n rows [] rows refl

places_are : (i : ℕ) (n : VertexRow → ℕ) (rows : List VertexRow) → map rank_place (ranks_from i n rows) ≡ range_with_len i (length rows)
places_are i n [] = refl
places_are i n (r ∷ rows) = ap (λ ps. i ∷ ps) (places_are (i + 1) n rows)

-- ---- the rows at the places of the order are the rows by falling degree

taken_case : (rows : List VertexRow) (b : Bool) (xs ys : List Ranked) → taken rows (map rank_place (cond b xs ys)) ≡ cond b (taken rows (map rank_place xs)) (taken rows (map rank_place ys))
taken_case rows true xs ys = refl
taken_case rows false xs ys = refl

taken_put : (n : VertexRow → ℕ) (rows : List VertexRow) (x : Ranked) (ys : List Ranked) → (f : Fits n rows x) → All (Fits n rows) ys → taken rows (map rank_place (put_falling rank_degree x ys)) ≡ put_falling n f.row (taken rows (map rank_place ys))
taken_put n rows x [] f all = ap (λ o. cons_option o []) f.there
taken_put n rows x (y ∷ ys) f all =
    let h = all 0 y (omega arith) in
    let rest : All (Fits n rows) ys = λ i d l. all (suc i) d (omega arith) in
    let tail = taken rows (map rank_place ys) in
    let order : nat_lt x.degree y.degree ≡ nat_lt (n f.row) (n h.row) = ap (λ n. nat_lt n y.degree) f.same ∙ ap (nat_lt (n f.row)) h.same in
    taken_case rows (nat_lt x.degree y.degree) (y ∷ put_falling rank_degree x ys) (x ∷ y ∷ ys)
    ∙ ap (λ b. cond b (cons_option (slice_get rows y.place) (taken rows (map rank_place (put_falling rank_degree x ys)))) (cons_option (slice_get rows x.place) (cons_option (slice_get rows y.place) tail))) order
    ∙ ap (λ zs. cond (nat_lt (n f.row) (n h.row)) (cons_option (slice_get rows y.place) zs) (cons_option (slice_get rows x.place) (cons_option (slice_get rows y.place) tail))) (taken_put n rows x ys f rest)
    ∙ ap (λ o. cond (nat_lt (n f.row) (n h.row)) (cons_option o (put_falling n f.row tail)) (cons_option (slice_get rows x.place) (cons_option o tail))) h.there
    ∙ ap (λ o. cond (nat_lt (n f.row) (n h.row)) (h.row ∷ put_falling n f.row tail) (cons_option o (h.row ∷ tail))) f.there
    ∙ ap (λ o. put_falling n f.row (cons_option o tail)) (sym h.there)

taken_falling : (n : VertexRow → ℕ) (rows : List VertexRow) (xs : List Ranked) → All (Fits n rows) xs → taken rows (map rank_place (falling rank_degree xs)) ≡ falling n (taken rows (map rank_place xs))
taken_falling n rows [] all = refl
taken_falling n rows (x ∷ xs) all =
    let f = all 0 x (omega arith) in
    let rest : All (Fits n rows) xs = λ i d l. all (suc i) d (omega arith) in
    taken_put n rows x (falling rank_degree xs) f (falling_all rank_degree (Fits n rows) xs rest)
    ∙ ap (put_falling n f.row) (taken_falling n rows xs rest)
    ∙ ap (λ o. falling n (cons_option o (taken rows (map rank_place xs)))) (sym f.there)

pub taken_order : (n : VertexRow → ℕ) (rows : List VertexRow) → taken rows (order_of n rows) ≡ falling n rows
taken_order n rows =
    taken_falling n rows (ranks n rows) (ranks_fit n rows)
    ∙ ap (λ ps. falling n (taken rows ps)) (places_are 0 n rows)
    ∙ ap (falling n) (taken_all rows)

-- ---- the order has each place

pub order_within : (n : VertexRow → ℕ) (rows : List VertexRow) → All (λ p. p < length rows) (order_of n rows)
order_within n rows =
    All-map (λ p. p < length rows) rank_place (falling rank_degree (ranks n rows))
    (falling_all rank_degree (λ x. x.place < length rows) (ranks n rows) (λ i d l. slice_get_within rows (get_or (ranks n rows) i d).place (ranks_fit n rows i d l).row (ranks_fit n rows i d l).there))

any_range_by : (p a n : ℕ) (b : Bool) → (a == p) ≡ b → a ≤ p → p < a + suc n → (b || list_any (λ x. x == p) (range_with_len (a + 1) n)) ≡ true
any_range_by p a n true e low high = refl
any_range_by p a zero false e low high = absurd (let apart : a ≡ p = omega arith in let t : (a == p) ≡ true = grind (arith, nat_tests) in let f = sym t ∙ e in cc)
any_range_by p a (suc n) false e low high =
    let more : a + 1 ≤ p = grind (arith, nat_tests) in
    any_range_by p (a + 1) n ((a + 1) == p) refl more (omega arith)

any_range : (p a n : ℕ) → a ≤ p → p < a + n → list_any (λ x. x == p) (range_with_len a n) ≡ true
any_range p a zero low high = absurd (omega arith)
any_range p a (suc n) low high = any_range_by p a n (a == p) refl low high

any_index_by : (q : ℕ → Bool) (x : ℕ) (xs : List ℕ) (b : Bool) → q x ≡ b → (b || list_any q xs) ≡ true → (list_any q xs ≡ true → (j : ℕ) × ((j < length xs) × (q (get_or xs j 0) ≡ true))) → (j : ℕ) × ((j < length (x ∷ xs)) × (q (get_or (x ∷ xs) j 0) ≡ true))
any_index_by q x xs true e any later = (0, (omega arith, e))
any_index_by q x xs false e any later = let found = later any in (suc found.0, (omega (arith, found.1.0), found.1.1))

any_index : (q : ℕ → Bool) (xs : List ℕ) → list_any q xs ≡ true → (j : ℕ) × ((j < length xs) × (q (get_or xs j 0) ≡ true))
any_index q [] e = cc
any_index q (x ∷ xs) e = any_index_by q x xs (q x) refl e (any_index q xs)

-- where a place stands in the order
pub in_order : (n : VertexRow → ℕ) (rows : List VertexRow) (p : ℕ) → p < length rows → (j : ℕ) × ((j < length (order_of n rows)) × (get_or (order_of n rows) j 0 ≡ p))
in_order n rows p small =
    let test = λ (x : ℕ). x == p in
    let any : list_any test (order_of n rows) ≡ true =
    any_same test rank_place (λ (x : Ranked). x.place == p) (falling rank_degree (ranks n rows)) (λ x. refl)
    ∙ falling_any rank_degree (λ (x : Ranked). x.place == p) (ranks n rows)
    ∙ sym (any_same test rank_place (λ (x : Ranked). x.place == p) (ranks n rows) (λ x. refl))
    ∙ ap (list_any test) (places_are 0 n rows)
    ∙ any_range p 0 (length rows) (omega arith) (omega arith) in
    let found = any_index test (order_of n rows) any in
    (found.0, (found.1.0, (let h = found.1.1 in grind (arith, nat_tests))))

-- ---- where the rows stand then

taken_at_by : {X : Type 0} (xs : List X) (p : ℕ) (places : List ℕ) (j : ℕ) → p < length xs → ((i : ℕ) → i < length places → slice_get (taken xs places) i ≡ slice_get xs (get_or places i 0)) → j < length (p ∷ places) → slice_get (taken xs (p ∷ places)) j ≡ slice_get xs (get_or (p ∷ places) j 0)
taken_at_by [] p places j small later h = absurd (omega arith)
taken_at_by (x ∷ xs) p places zero small later h =
    let there = slice_get-get_or (x ∷ xs) p x small in
    ap (λ o. slice_get (cons_option o (taken (x ∷ xs) places)) 0) there ∙ sym there
taken_at_by (x ∷ xs) p places (suc j) small later h =
    ap (λ o. slice_get (cons_option o (taken (x ∷ xs) places)) (suc j)) (slice_get-get_or (x ∷ xs) p x small) ∙ later j (omega arith)

-- the row of a key at a place
pub keyed : (rows : List VertexRow) (p : ℕ) (k : ℤ) → slice_get (map vertex_key rows) p ≡ Some k → (r : VertexRow) × ((slice_get rows p ≡ Some r) × (r.key ≡ k))
keyed [] p k e = cc
keyed (r ∷ rest) p k e =
    let rows : List VertexRow = r ∷ rest in
    let within : p < length rows = omega (arith, slice_get_within (map vertex_key rows) p k e, length-map rows vertex_key) in
    (get_or rows p r, (slice_get-get_or rows p r within, same_Some _ _ (sym (got vertex_key rows p r within) ∙ e)))

pub taken_at : {X : Type 0} (xs : List X) (places : List ℕ) (j : ℕ) → All (λ p. p < length xs) places → j < length places → slice_get (taken xs places) j ≡ slice_get xs (get_or places j 0)
taken_at xs [] j all h = absurd (omega arith)
taken_at xs (p ∷ places) j all h = taken_at_by xs p places j (all 0 p (omega arith)) (λ i l. taken_at xs places i (λ k d m. all (suc k) d (omega arith)) l) h

-- a loop's step
pub ranks_more : (n : VertexRow → ℕ) (rows : List VertexRow) (i : ℕ) (x : Ranked) (before after : List Ranked) → i < length rows → x ≡ record { degree = n (get_or rows i blank); place = i } → before ≡ ranks n (take i rows) → after ≡ before ++ x ∷ [] → after ≡ ranks n (take (i + 1) rows)
ranks_more n rows i x before after within is so_far grown =
    let r = get_or rows i blank in
    let long : length (take i rows) ≡ i = length-take-le i rows (omega arith) in
    grown ∙ ap (λ xs. xs ++ x ∷ []) so_far ∙ ap (λ y. ranks n (take i rows) ++ y ∷ []) is
    ∙ ap (λ p. let y : Ranked = record { degree = n r; place = p } in ranks n (take i rows) ++ y ∷ []) (let e : i ≡ 0 + length (take i rows) = omega arith in e)
    ∙ sym (ranks_push 0 n (take i rows) r)
    ∙ ap (ranks n) (sym (take_more rows i blank within))
