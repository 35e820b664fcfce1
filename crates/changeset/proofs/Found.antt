-- What is found of a key in the rows of a table.
use Rattle.std.proofs.Common.{◌≡◌, ℕ, ℤ, zero, suc, ◌+◌, ◌*◌, ◌<◌, ◌≤◌, Bool, true, false, pos, cond, List, [], ◌∷◌, All, Some, None, length, get_or, map, slice_get, take, sum_by, count_by, refl, ap, sym, ◌∙◌, arith}
use Rattle.std.specs.Prelude.{find}
use Rattle.std.specs.List.{list_any}
use Rattle.std.specs.Ordering.{int_eq}
use Rattle.std.proofs.lemmas.Bool.Decides.{Decides-int_eq}
use Rattle.std.proofs.lemmas.List.{length-map}
use Rattle.std.proofs.lemmas.List.Sums.{sum_by-cons, sum_by_more, sum_by_more_le}
use Rattle.std.proofs.lemmas.Option.{slice_get_within, same_Some}
use Rattle.column_types.specs.declared.value.Value.{Value}
use Rattle.graph_model.specs.declared.row.EdgeRow.{EdgeRow}
use Rattle.graph_model.specs.Keys.{rows_at, count_in, value_total}
use Rattle.graph_model.specs.Graph.{edge_key, has_edge_in}
use Rattle.graph_model.proofs.Rows.{or_false, one_at_least, only_later, any_at}
use Rattle.graph_snap.proofs.Readers.{got}
use Rattle.changeset.specs.declared.state.EdgeState.TheVariants.{Gone, There}
use Rattle.changeset.specs.Facts.{edge_state}

pub find_none : {R : Type 0} (p : R → Bool) (rows : List R) → list_any p rows ≡ false → find p rows ≡ None
find_none p [] e = refl
find_none p (r ∷ rows) e = let parts = or_false (p r) (list_any p rows) e in ap (λ b. cond b (Some r) (find p rows)) parts.0 ∙ find_none p rows parts.1

-- the one row that passes a test is found
pub find_one : {R : Type 0} (p : R → Bool) (rows : List R) (i : ℕ) (d : R) → i < length rows → p (get_or rows i d) ≡ true → count_by p rows ≤ 1 → find p rows ≡ Some (get_or rows i d)
find_one p [] i d within passes once = absurd (omega arith)
find_one p (r ∷ rows) zero d within passes once = ap (λ b. cond b (Some r) (find p rows)) passes
find_one p (r ∷ rows) (suc i) d within passes once =
    let some = one_at_least p rows (any_at p rows i d (omega arith) passes) in
    let sum = sum_by-cons (λ x. cond {A = ℕ} (p x) 1 0) r rows in
    let few : cond {A = ℕ} (p r) 1 0 + count_by p rows ≤ 1 = omega (arith, sum, once) in
    let later = only_later (p r) (count_by p rows) few some in
    ap (λ b. cond b (Some r) (find p rows)) later ∙ find_one p rows i d (omega arith) passes (omega (arith, few))

blank : EdgeRow
blank = record { key = pos 0; source = pos 0; destination = pos 0; values = [] }

pub edge_found : (rows : List EdgeRow) (place : ℕ) (k s d : ℤ) → count_in edge_key k rows ≤ 1 → slice_get (map edge_key rows) place ≡ Some k → Some s ≡ slice_get (map (λ (r : EdgeRow). r.source) rows) place → Some d ≡ slice_get (map (λ (r : EdgeRow). r.destination) rows) place
    → There s d ≡ edge_state (find (λ r. int_eq r.key k) rows)
edge_found rows place k s d once there starts ends =
    let within : place < length rows = omega (arith, slice_get_within (map edge_key rows) place k there, length-map rows edge_key) in
    let key : (get_or rows place blank).key ≡ k = same_Some _ _ (sym (got edge_key rows place blank within) ∙ there) in
    let source : s ≡ (get_or rows place blank).source = same_Some _ _ (starts ∙ got (λ (r : EdgeRow). r.source) rows place blank within) in
    let destination : d ≡ (get_or rows place blank).destination = same_Some _ _ (ends ∙ got (λ (r : EdgeRow). r.destination) rows place blank within) in
    let found = find_one (λ r. int_eq (edge_key r) k) rows place blank within ((Decides-int_eq _ k).1 key) once in
    ap (λ x. There x d) source ∙ ap (λ x. There (get_or rows place blank).source x) destination ∙ ap edge_state (sym found)

pub edge_missing : (rows : List EdgeRow) (k : ℤ) → has_edge_in k rows ≡ false → Gone ≡ edge_state (find (λ r. int_eq r.key k) rows)
edge_missing rows k none = ap edge_state (sym (find_none (λ r. int_eq r.key k) rows none))

-- rows of one width have that many values
pub cells_of : {R : Type 0} (values : R → List Value) (rows : List R) (w : ℕ) → All (λ r. length (values r) ≡ w) rows → sum_by (λ r. length (values r)) rows ≡ w * length rows
cells_of values [] w all = omega arith
cells_of values (r ∷ rows) w all = omega (arith, sum_by-cons (λ x. length (values x)) r rows, all 0 r (omega arith), cells_of values rows w (λ i d h. all (suc i) d (omega arith)))

-- the values of one table more
module _ {R : Type 0} (values : R → List Value) (tables : List (List R)) (t w n : ℕ) (within : t < length tables) (wide : All (λ r. length (values r) ≡ w) (rows_at tables t)) (long : n ≡ length (rows_at tables t)) where
  here : w * n ≡ sum_by (λ r. length (values r)) (rows_at tables t)
  here = ap (λ m. w * m) long ∙ sym (cells_of values (rows_at tables t) w wide)

  pub cells_more : (cells : ℕ) → cells ≡ value_total values (take t tables) → cells + w * n ≡ value_total values (take (t + 1) tables)
  cells_more cells so_far = omega (arith, so_far, here, sum_by_more (λ (rows : List R). sum_by (λ r. length (values r)) rows) tables t [] within)

  pub cells_within : (cells : ℕ) → cells ≡ value_total values (take t tables) → cells + w * n ≤ value_total values tables
  cells_within cells so_far = omega (arith, so_far, here, sum_by_more_le (λ (rows : List R). sum_by (λ r. length (values r)) rows) tables t [] within)
