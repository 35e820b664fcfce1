-- The checks after the walk find 6, 7 and 50.
use Rattle.std.proofs.Common.{◌≡◌, ◌∙◌, refl, ap, sym, ℕ, ◌+◌, Bool, true, false, cond, ◌&&◌, List, [], ◌∷◌, ◌++◌, Result, Ok, Err, codes, length}
use Rattle.std.specs.Prelude.{nat_lt}
use Rattle.std.specs.List.{list_all}
use Rattle.std.proofs.lemmas.List.Folds.{list_all-append}
use Rattle.graph_schema.specs.declared.schema.Prop.{Prop}
use Rattle.graph_schema.specs.declared.schema.VertexTable.{VertexTable}
use Rattle.graph_schema.specs.declared.schema.EdgeTable.{EdgeTable}
use Rattle.graph_schema.specs.declared.location.Side.{Side}
use Rattle.graph_schema.specs.declared.location.Side.TheVariants.{Vertices, Edges}
use Rattle.graph_schema.specs.declared.location.Location.{Location}
use Rattle.graph_schema.specs.declared.location.Location.TheVariants.{TableName, PropName, PropType}
use Rattle.graph_schema.specs.Location.{number_of, part_path}
use Rattle.graph_schema.specs.Fault.{fault_if, each_from, repeated_table, repeated_tables, repeated_prop, repeated_props, repeated_in_tables, repeated_names, clashing_prop, clashing_props, clashing_tables, differing_kinds}
use Rattle.graph_config.specs.declared.tables.Tables.{Tables}
use Rattle.graph_config.specs.Fault.{Fault, ◌>>=◌}
use Rattle.graph_config.specs.Check.{none_of, end_exists, table_ends, ends_from, checked}
use Rattle.graph_config.specs.Locates.{is_later}

abbrev all_later : List Location → Bool
all_later = list_all (λ l. is_later (number_of l))

joined : (these more : List Location) → all_later these ≡ true → all_later more ≡ true → all_later (these ++ more) ≡ true
joined these more h k = list_all-append (λ l. is_later (number_of l)) these more ∙ ap (λ b. b && all_later more) h ∙ k

one : (b : Bool) (l : Location) → is_later (number_of l) ≡ true → all_later (fault_if b l) ≡ true
one true l h = ap (λ b. b && true) h
one false l h = refl

each_later : {A : Type 0} (f : List A → ℕ → A → List Location) → ((before : List A) (i : ℕ) (x : A) → all_later (f before i x) ≡ true) → (before : List A) (i : ℕ) (xs : List A) → all_later (each_from f before i xs) ≡ true
each_later f h before i [] = refl
each_later f h before i (x ∷ xs) = joined (f before i x) _ (h before i x) (each_later f h (before ++ x ∷ []) (i + 1) xs)

table_names : {T : Type 0} (side : Side) (name : T → List ℕ) (others : List VertexTable) (ts : List T) → all_later (repeated_tables side name others ts) ≡ true
table_names side name others ts = each_later (repeated_table side name others) (λ before i t. one _ (TableName side i) refl) [] 0 ts

prop_names : {T : Type 0} (side : Side) (props : T → List Prop) (ts : List T) → all_later (repeated_in_tables side props ts) ≡ true
prop_names side props ts = each_later (repeated_props side props) (λ before i t. each_later (repeated_prop side i) (λ ps k p. one _ (PropName side i k) refl) [] 0 (props t)) [] 0 ts

kinds : {T : Type 0} (side : Side) (props : T → List Prop) (ts : List T) → all_later (clashing_tables side props ts) ≡ true
kinds side props ts = each_later (clashing_props side props) (λ before i t. each_later (clashing_prop side props before i) (λ ps k p. one _ (PropType side i k) refl) [] 0 (props t)) [] 0 ts

names_later : (vs : List VertexTable) (es : List EdgeTable) → all_later (repeated_names vs es) ≡ true
names_later vs es =
    joined (repeated_tables Vertices (λ v. v.name) [] vs ++ repeated_tables Edges (λ e. e.name) vs es ++ repeated_in_tables Vertices (λ v. v.props) vs) _
    (joined (repeated_tables Vertices (λ v. v.name) [] vs ++ repeated_tables Edges (λ e. e.name) vs es) _
    (joined (repeated_tables Vertices (λ v. v.name) [] vs) _ (table_names Vertices (λ v. v.name) [] vs) (table_names Edges (λ e. e.name) vs es))
    (prop_names Vertices (λ v. v.props) vs)) (prop_names Edges (λ e. e.props) es)

kinds_later : (vs : List VertexTable) (es : List EdgeTable) → all_later (differing_kinds vs es) ≡ true
kinds_later vs es = joined (clashing_tables Vertices (λ v. v.props) vs) _ (kinds Vertices (λ v. v.props) vs) (kinds Edges (λ e. e.props) es)

-- ---- results

abbrev Later : Result (Unit {0}) Fault → Type 0
Later (Ok u) = Unit {0}
Later (Err fault) = is_later fault.0 ≡ true

first_true : (a b : Bool) → (a && b) ≡ true → a ≡ true
first_true true b h = refl
first_true false b h = cc

none_later : (these : List Location) → all_later these ≡ true → Later (none_of these)
none_later [] h = tt
none_later (l ∷ these) h = first_true (is_later (number_of l)) _ h

then_later : (r : Result (Unit {0}) Fault) (f : Unit {0} → Result (Unit {0}) Fault) → Later r → ((u : Unit {0}) → Later (f u)) → Later (r >>= f)
then_later (Ok u) f h k = k u
then_later (Err fault) f h k = h

end_test : (b : Bool) (path : List ℕ) → Later (cond b (Ok tt) (Err (7, path)))
end_test true path = tt
end_test false path = refl

end_later : (tables place : ℕ) (field : List ℕ) (end : ℕ) → Later (end_exists tables place field end)
unfolding end_exists
end_later tables place field end = end_test (nat_lt end tables) (part_path Edges place field)

table_later : (tables place : ℕ) (e : EdgeTable) → Later (table_ends tables place e)
unfolding table_ends
table_later tables place e = then_later (end_exists tables place (codes "source_vertex_provider") e.source) _ (end_later tables place _ e.source) (λ u. end_later tables place _ e.destination)

ends_later : (tables place : ℕ) (es : List EdgeTable) → Later (ends_from tables place es)
unfolding ends_from
ends_later tables place [] = tt
ends_later tables place (e ∷ es) = then_later (table_ends tables place e) _ (table_later tables place e) (λ u. ends_later tables (place + 1) es)

all_checks : (t : Tables) → Later (checked t)
unfolding checked
all_checks t =
    then_later (none_of (repeated_names t.vertices t.edges)) _ (none_later _ (names_later t.vertices t.edges)) (λ u.
    then_later (ends_from (length t.vertices) 0 t.edges) _ (ends_later (length t.vertices) 0 t.edges) (λ v. none_later _ (kinds_later t.vertices t.edges)))

by_result : (r : Result (Unit {0}) Fault) (fault : Fault) → r ≡ Err fault → Later r → is_later fault.0 ≡ true
by_result (Ok u) fault h k = cc
by_result (Err f) fault h k = let e : f ≡ fault = cc in ap (λ g. is_later g.0) (sym e) ∙ k

pub checks_are_later : (t : Tables) (fault : Fault) → checked t ≡ Err fault → is_later fault.0 ≡ true
checks_are_later t fault h = by_result (checked t) fault h (all_checks t)
