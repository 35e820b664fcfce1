-- Tables that were walked and checked make a schema, but for kinds that differ.
use Rattle.std.proofs.Common.{◌≡◌, ◌∙◌, refl, ap, sym, ℕ, ◌+◌, ◌≤◌, Bool, true, false, cond, ◌&&◌, IsTrue, List, [], ◌∷◌, ◌++◌, length, Some, None, Result, Ok, Err, arith}
use Rattle.std.specs.Prelude.{nat_lt, option_map, codes}
use Rattle.std.specs.List.{All, list_all}
use Rattle.std.proofs.lemmas.Bool.{le-ltb}
use Rattle.graph_schema.specs.declared.schema.Prop.{Prop}
use Rattle.graph_schema.specs.declared.schema.VertexTable.{VertexTable}
use Rattle.graph_schema.specs.declared.schema.EdgeTable.{EdgeTable}
use Rattle.graph_schema.specs.declared.location.Side.{Side}
use Rattle.graph_schema.specs.declared.location.Side.TheVariants.{Vertices, Edges}
use Rattle.graph_schema.specs.declared.location.Location.{Location}
use Rattle.graph_schema.specs.declared.location.Location.TheVariants.{Tables as TableList, Props}
use Rattle.graph_schema.specs.Location.{number_of, path_of}
use Rattle.graph_schema.specs.Fault.{wide_table, wide_tables, long_lists, repeated_names, differing_kinds, schema_faults, first}
use Rattle.graph_schema.specs.Answer.{schema_fault}
use Rattle.graph_schema.specs.Schema.{ends_exist}
use Rattle.graph_schema.proofs.Nothing.{nil_both, no_fault, each_empty}
use Rattle.graph_config.specs.declared.tables.Tables.{Tables}
use Rattle.graph_config.specs.Fault.{Fault, ◌>>=◌}
use Rattle.graph_config.specs.Walk.{AreWalked}
use Rattle.graph_config.specs.Check.{none_of, end_exists, table_ends, ends_from}

pub none_wide : {T : Type 0} (side : Side) (props : T → List Prop) (ts : List T) → All (λ t. length (props t) ≤ 64) ts → wide_tables side props ts ≡ []
none_wide side props ts h = each_empty (wide_table side props) ts (λ i d within. no_fault _ (Props side i) (le-ltb 64 _ (h i d within)))

-- the walk lets no list pass that is too long
none_long : (t : Tables) → AreWalked t → length t.vertices + length t.edges ≤ 32 → long_lists t.vertices t.edges ≡ []
none_long t h few =
    nil_both _ _ (nil_both _ _ (nil_both _ _ (no_fault _ (TableList Vertices) (le-ltb 32 (length t.vertices) (omega arith))) (none_wide Vertices (λ v. v.props) t.vertices h.few_vertex_props))
    (no_fault _ (TableList Edges) (le-ltb 32 _ few))) (none_wide Edges (λ e. e.props) t.edges h.few_edge_props)

pub none_there : (these : List Location) → none_of these ≡ Ok tt → these ≡ []
none_there [] h = refl
none_there (l ∷ these) h = cc

abbrev told : Location → Fault
told l = (number_of l, path_of l)

no_first : (these : List Location) → option_map told (first these) ≡ None → none_of these ≡ Ok tt
no_first [] h = refl
no_first (l ∷ these) h = cc

the_first : (these : List Location) (f : Fault) → option_map told (first these) ≡ Some f → none_of these ≡ Err f
the_first [] f h = cc
the_first (l ∷ these) f h = cc

-- what is left to a schema to find
only_kinds : (t : Tables) → AreWalked t → length t.vertices + length t.edges ≤ 32 → none_of (repeated_names t.vertices t.edges) ≡ Ok tt → schema_faults t.vertices t.edges ≡ differing_kinds t.vertices t.edges
only_kinds t h few names =
    ap (λ these. these ++ differing_kinds t.vertices t.edges) (nil_both (long_lists t.vertices t.edges) (repeated_names t.vertices t.edges) (none_long t h few) (none_there _ names))

pub kinds_agree : (t : Tables) → AreWalked t → length t.vertices + length t.edges ≤ 32 → none_of (repeated_names t.vertices t.edges) ≡ Ok tt → schema_fault t.vertices t.edges ≡ None → none_of (differing_kinds t.vertices t.edges) ≡ Ok tt
kinds_agree t h few names none = no_first _ (ap (λ these. option_map told (first these)) (sym (only_kinds t h few names)) ∙ none)

pub kinds_differ : (t : Tables) (f : Fault) → AreWalked t → length t.vertices + length t.edges ≤ 32 → none_of (repeated_names t.vertices t.edges) ≡ Ok tt → schema_fault t.vertices t.edges ≡ Some f → none_of (differing_kinds t.vertices t.edges) ≡ Err f
kinds_differ t f h few names some = the_first _ f (ap (λ these. option_map told (first these)) (sym (only_kinds t h few names)) ∙ some)

-- ---- ends

abbrev fine : Result (Unit {0}) Fault
fine = Ok tt

tested : (b : Bool) (f : Fault) → cond b fine (Err f) ≡ fine → b ≡ true
tested true f h = refl
tested false f h = cc

pub there : (tables place : ℕ) (field : List ℕ) (end : ℕ) → end_exists tables place field end ≡ Ok tt → nat_lt end tables ≡ true
unfolding end_exists
there tables place field end h = tested (nat_lt end tables) _ h

-- where two steps find no fault, neither does
pub both_steps : (r s : Result (Unit {0}) Fault) → (r >>= (λ none. s)) ≡ Ok tt → (r ≡ Ok tt) × (s ≡ Ok tt)
both_steps (Ok tt) s h = (refl, h)
both_steps (Err f) s h = cc

both_there : (a b : Bool) → a ≡ true → b ≡ true → (a && b) ≡ true
both_there a b h k = ap (λ t. t && b) h ∙ k

table_there : (tables place : ℕ) (e : EdgeTable) → table_ends tables place e ≡ Ok tt → (nat_lt e.source tables && nat_lt e.destination tables) ≡ true
unfolding table_ends
table_there tables place e h =
    let k = both_steps (end_exists tables place (codes "source_vertex_provider") e.source) (end_exists tables place (codes "destination_vertex_provider") e.destination) h in
    both_there _ _ (there tables place _ e.source k.0) (there tables place _ e.destination k.1)

all_there : (tables place : ℕ) (es : List EdgeTable) → ends_from tables place es ≡ Ok tt → list_all (λ e. nat_lt e.source tables && nat_lt e.destination tables) es ≡ true
unfolding ends_from
all_there tables place [] h = refl
all_there tables place (e ∷ es) h =
    let k = both_steps (table_ends tables place e) (ends_from tables (place + 1) es) h in
    both_there _ _ (table_there tables place e k.0) (all_there tables (place + 1) es k.1)

pub ends_there : (vs : List VertexTable) (es : List EdgeTable) → ends_from (length vs) 0 es ≡ Ok tt → IsTrue (ends_exist vs es)
ends_there vs es h = all_there (length vs) 0 es h
