-- lists of tables and of their rows
use Rattle.std.proofs.Common.{◌≡◌, ℕ, zero, suc, ℤ, ◌+◌, ◌<◌, Bool, List, [], ◌∷◌, ◌++◌, length, take, get_or, map, refl, ap, sym, ◌∙◌, arith, append_assoc}
use Rattle.std.specs.List.{enumerate_from, filter, flat_map, range_with_len}
use Rattle.std.proofs.lemmas.List.{append-nil, take_more, length-take-le, map-append}
use Rattle.std.proofs.lemmas.List.Concat.{flat_map-append}
use Rattle.std.proofs.lemmas.List.Elements.{filter-append}
use Rattle.std.proofs.lemmas.List.FromFn.{length-enumerate_from, get_or-enumerate_from}
use Rattle.graph_model.specs.declared.row.EdgeRow.{EdgeRow}
use Rattle.graph_model.specs.Keys.{rows_at}
use Rattle.graph_model.specs.Graph.{edge_key}
use Rattle.journal_text.specs.Graphs.{by_tables}

-- ---- lines

by_tables_push : {T R : Type 0} (line : T → R → List ℕ) (ts : List T) (t : T) (tables : List (List R)) → by_tables line (ts ++ t ∷ []) tables ≡ by_tables line ts tables ++ flat_map (line t) (rows_at tables (length ts))
by_tables_push line [] t [] = refl
by_tables_push line [] t (rows ∷ more) = append-nil (flat_map (line t) rows)
by_tables_push line (u ∷ ts) t [] = refl
by_tables_push line (u ∷ ts) t (rows ∷ more) =
    ap (λ text. flat_map (line u) rows ++ text) (by_tables_push line ts t more) ∙ sym (append_assoc (flat_map (line u) rows) _ _)

-- the lines of one more table
by_tables_more : {T R : Type 0} (line : T → R → List ℕ) (ts : List T) (tables : List (List R)) (i : ℕ) (d : T) → i < length ts → by_tables line (take (i + 1) ts) tables ≡ by_tables line (take i ts) tables ++ flat_map (line (get_or ts i d)) (rows_at tables i)
by_tables_more line ts tables i d h =
    let all : length (take i ts) ≡ i = length-take-le i ts (omega arith) in
    ap (λ us. by_tables line us tables) (take_more ts i d h) ∙ by_tables_push line (take i ts) (get_or ts i d) tables
    ∙ ap (λ n. by_tables line (take i ts) tables ++ flat_map (line (get_or ts i d)) (rows_at tables n)) all

-- the text so far with the lines of one more table, where the table was read
pub more_lines : {T R : Type 0} (line : T → R → List ℕ) (ts : List T) (tables : List (List R)) (i : ℕ) (t : T) (old out new : List ℕ) → i < length ts → t ≡ get_or ts i t → out ≡ old ++ by_tables line (take i ts) tables → new ≡ out ++ flat_map (line t) (rows_at tables i) → new ≡ old ++ by_tables line (take (i + 1) ts) tables
more_lines line ts tables i t old out new h is_t so_far step =
    let before = by_tables line (take i ts) tables in
    step ∙ ap (λ x. x ++ flat_map (line t) (rows_at tables i)) so_far ∙ append_assoc old before _
    ∙ ap (λ u. old ++ (before ++ flat_map (line u) (rows_at tables i))) is_t
    ∙ ap (λ x. old ++ x) (sym (by_tables_more line ts tables i t h))

-- the lines of one more table, which are told by its place and its shape
pub more_numbered_lines : {T R : Type 0} (line : ℕ × T → R → List ℕ) (ts : List T) (tables : List (List R)) (i : ℕ) (t : T) (old out new : List ℕ) → i < length ts → t ≡ get_or ts i t → out ≡ old ++ by_tables line (take i (enumerate_from 0 ts)) tables → new ≡ out ++ flat_map (line (i, t)) (rows_at tables i) → new ≡ old ++ by_tables line (take (i + 1) (enumerate_from 0 ts)) tables
more_numbered_lines {T} {R} line ts tables i t old out new h is_t so_far step =
    let within : i < length (enumerate_from 0 ts) = omega (arith, length-enumerate_from 0 ts) in
    let on : i ≡ 0 + i = omega arith in
    let is : (i, t) ≡ get_or (enumerate_from 0 ts) i (i, t) = ap {B = ℕ × T} (λ u. (i, u)) is_t ∙ ap {B = ℕ × T} (λ n. (n, get_or ts i t)) on ∙ sym (get_or-enumerate_from 0 ts i (i, t) h) in
    more_lines line (enumerate_from 0 ts) tables i (i, t) old out new within is so_far step

-- ---- edges

last : (a n j : ℕ) → a + n ≡ j → range_with_len a (suc n) ≡ range_with_len a n ++ j ∷ []
last a zero j e = let same : a ≡ j = omega (arith, e) in ap (λ m. m ∷ []) same
last a (suc n) j e = ap (λ l. a ∷ l) (last (a + 1) n j (omega (arith, e)))

-- what one more table gives
pub one_more_table : (f : ℕ → List ℤ) (n : ℕ) → flat_map f (range_with_len 0 (n + 1)) ≡ flat_map f (range_with_len 0 n) ++ f n
one_more_table f n =
    let on : n + 1 ≡ suc n = omega arith in
    ap (λ m. flat_map f (range_with_len 0 m)) on ∙ ap (flat_map f) (last 0 n n (omega arith)) ∙ flat_map-append f (range_with_len 0 n) (n ∷ [])
    ∙ ap (λ x. flat_map f (range_with_len 0 n) ++ x) (append-nil (f n))

picked_append : (p : EdgeRow → Bool) (es fs : List EdgeRow) → map edge_key (filter p (es ++ fs)) ≡ map edge_key (filter p es) ++ map edge_key (filter p fs)
picked_append p es fs = ap (map edge_key) (filter-append p es fs) ∙ map-append edge_key _ _

-- what tables give one after another, where each gives the keys of its edges that pass a test
pub picked_tables : (p : EdgeRow → Bool) (f : ℕ → List ℤ) (tables : List (List EdgeRow)) (first : ℕ) → ((i e : ℕ) → e ≡ first + i → f e ≡ map edge_key (filter p (rows_at tables i))) → flat_map f (range_with_len first (length tables)) ≡ map edge_key (filter p (flat_map (λ rows. rows) tables))
picked_tables p f [] first gives = refl
picked_tables p f (rows ∷ tables) first gives =
    ap (λ x. x ++ flat_map f (range_with_len (first + 1) (length tables))) (gives 0 first (omega arith))
    ∙ ap (λ x. map edge_key (filter p rows) ++ x) (picked_tables p f tables (first + 1) (λ i e at. gives (suc i) e (omega (arith, at))))
    ∙ sym (picked_append p rows (flat_map (λ rows. rows) tables))
