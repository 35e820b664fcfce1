-- columns of keys hold LONGs alone
use Rattle.std.proofs.Common.{◌≡◌, ℤ, List, map, Contains, refl, ap, sym, subst, ◌∙◌}
use Rattle.std.specs.Prelude.{◌≢◌, ◌⊎◌}
use Rattle.std.proofs.Common.{inl, inr}
use Rattle.std.proofs.lemmas.List.Elements.{All-map, All-contains}
use Rattle.column_types.specs.declared.kind.Kind.TheVariants as kind
use Rattle.column_types.specs.declared.value.Value.{Value}
use Rattle.column_types.specs.declared.value.Value.TheVariants.{Null, Long}
use Rattle.column_types.specs.Column.{ColumnData}
use Rattle.graph_columns.specs.Keys.{keys_of, key_column, IsKeyColumn}
use Rattle.graph_columns.proofs.Tables.{keys_of-key_column}

no_null : (keys : List ℤ) → Contains (map Long keys) Null → ⊥
no_null keys found = All-contains (λ (v : Value). v ≡ Null → ⊥) (map Long keys) Null (All-map (λ (v : Value). v ≡ Null → ⊥) Long keys (λ i d l e. cc)) found refl

pub all_longs : (c : ColumnData) → IsKeyColumn c → (c.kind ≢ kind.Long) ⊎ Contains c.values Null → ⊥
all_longs c is (inl other) = other (ap (λ (d : ColumnData). d.kind) is)
all_longs c is (inr null) = no_null (keys_of c) (subst (λ vs. Contains vs Null) (ap (λ (d : ColumnData). d.values) is) null)

pub longs_told : (c : ColumnData) (keys : List ℤ) → c ≡ key_column keys → keys ≡ keys_of c
longs_told c keys e = sym (ap keys_of e ∙ keys_of-key_column keys)
