-- The two lists of entries, and the entries of two lists.
use Rattle.std.proofs.Common.{◌≡◌, ℕ, suc, List, [], ◌∷◌, ◌++◌, length, take, drop, map, refl, ap, sym, subst, ◌∙◌}
use Rattle.std.specs.List.{insert, remove}
use Rattle.std.proofs.lemmas.List.{length-map, map-append, take-map, drop-map}
use Rattle.column_types.specs.Column.{ColumnData}
use Rattle.graph_schema.specs.declared.schema.Prop.{Prop}
use Rattle.transient_props.specs.Transients.{Transient, prop_of, entries_of, NamesRise, IsKept}

pub entries_again : (ts : List Transient) → entries_of (map prop_of ts) (map (λ t. t.column) ts) ≡ ts
entries_again [] = refl
entries_again (t ∷ ts) = ap (λ more. t ∷ more) (entries_again ts)

-- the lists of entries in order are kept
pub kept : (ts : List Transient) (ps : List Prop) (cs : List ColumnData) → ps ≡ map prop_of ts → cs ≡ map (λ t. t.column) ts → NamesRise ts → IsKept ps cs
kept ts ps cs hp hc rise =
    let same : entries_of ps cs ≡ ts = ap (λ p. entries_of p cs) hp ∙ ap (entries_of (map prop_of ts)) hc ∙ entries_again ts in
    record { props = hp ∙ ap (map prop_of) (sym same); columns = hc ∙ ap (map (λ t. t.column)) (sym same); rising = subst NamesRise (sym same) rise }

pub entries_are : (ts : List Transient) (ps : List Prop) (cs : List ColumnData) → ps ≡ map prop_of ts → cs ≡ map (λ t. t.column) ts → entries_of ps cs ≡ ts
entries_are ts ps cs hp hc = ap (λ p. entries_of p cs) hp ∙ ap (entries_of (map prop_of ts)) hc ∙ entries_again ts

pub map_insert : {X Y : Type 0} (f : X → Y) (xs : List X) (i : ℕ) (x : X) → insert (map f xs) i (f x) ≡ map f (insert xs i x)
map_insert f xs i x =
    ap (λ front. front ++ f x ∷ drop i (map f xs)) (take-map f i xs) ∙ ap (λ back. map f (take i xs) ++ f x ∷ back) (drop-map f i xs)
    ∙ sym (map-append f (take i xs) (x ∷ drop i xs))

pub map_remove : {X Y : Type 0} (f : X → Y) (xs : List X) (i : ℕ) → remove (map f xs) i ≡ map f (remove xs i)
map_remove f xs i =
    ap (λ front. front ++ drop (suc i) (map f xs)) (take-map f i xs) ∙ ap (λ back. map f (take i xs) ++ back) (drop-map f (suc i) xs)
    ∙ sym (map-append f (take i xs) (drop (suc i) xs))

-- as many names as columns
pub as_long : (ps : List Prop) (cs : List ColumnData) → IsKept ps cs → length ps ≡ length cs
as_long ps cs k =
    let ts = entries_of ps cs in
    ap length k.props ∙ length-map ts prop_of ∙ sym (length-map ts (λ t. t.column)) ∙ sym (ap length k.columns)
