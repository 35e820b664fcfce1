-- columns without NULL
use Rattle.std.proofs.Common.{◌≡◌, ℕ, ◌<◌, ℤ, true, List, [], ◌∷◌, Some, Option, length, map, refl, ap, sym, ◌∙◌, arith}
use Rattle.std.specs.List.{list_all}
use Rattle.std.proofs.lemmas.List.{length-map}
use Rattle.column_types.specs.declared.kind.Kind.TheVariants as kind
use Rattle.column_types.specs.declared.value.Value.{Value}
use Rattle.column_types.specs.declared.value.Value.TheVariants.{Long, Integer}
use Rattle.column_types.specs.Value.{fits_kind}
use Rattle.column_types.specs.Column.{value_or_null}

-- items that are all there are their values
pub values_whole : {T : Type 0} (f : T → Value) (xs : List T) → map (value_or_null f) (map Some xs) ≡ map f xs
values_whole f [] = refl
values_whole f (x ∷ xs) = ap (λ vs. f x ∷ vs) (values_whole f xs)

pub longs_fit : (xs : List ℤ) → list_all (fits_kind kind.Long) (map Long xs) ≡ true
longs_fit [] = refl
longs_fit (x ∷ xs) = longs_fit xs

pub integers_fit : (xs : List ℤ) → list_all (fits_kind kind.Integer) (map Integer xs) ≡ true
integers_fit [] = refl
integers_fit (x ∷ xs) = integers_fit xs

pub values_told : {T : Type 0} (f : T → Value) (xs : List T) (items : List (Option T)) → items ≡ map Some xs → map (value_or_null f) items ≡ map f xs
values_told f xs items e = ap (map (value_or_null f)) e ∙ values_whole f xs
