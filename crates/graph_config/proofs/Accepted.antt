-- A configuration is accepted exactly where the document states it and its tables make a schema.
use Rattle.std.proofs.Common.{◌≡◌, ◌∙◌, refl, ap, sym, subst, ℕ, zero, suc, ◌+◌, ◌-◌, ◌<◌, ◌≤◌, ◌==◌, ◌||◌, Bool, true, false, IsTrue, List, [], ◌∷◌, ◌++◌, length, slice_get, Option, Some, None, Result, Ok, Err, codes, cond, arith}
use Rattle.std.specs.Prelude.{◌≢◌, nat_lt, option_and_then}
use Rattle.std.specs.List.{All, AllPairs, AllZip}
use Rattle.std.proofs.lemmas.Bool.{eqb-true, ltb-true, lt-ltb, ltb-false, le-ltb}
use Rattle.std.proofs.lemmas.List.Elements.{All-cons}
use Rattle.serde_json.specs.Data.{Data, null, boolean, number, string, array, object, Num, unsigned, negative, float, Items}
use Rattle.serde_json.specs.Find.{get, as_number, as_u64}
use Rattle.serde_json.specs.View.{items_of}
use Rattle.graph_schema.specs.declared.schema.Keys.{Keys}
use Rattle.graph_schema.specs.declared.schema.Keys.TheVariants.{Whole, PerTable}
use Rattle.graph_schema.specs.declared.schema.VertexTable.{VertexTable}
use Rattle.graph_schema.specs.declared.schema.EdgeTable.{EdgeTable}
use Rattle.graph_schema.specs.declared.location.Side.TheVariants.{Vertices, Edges}
use Rattle.graph_schema.specs.declared.location.Location.{Location}
use Rattle.graph_schema.specs.declared.location.Location.TheVariants.{Tables as TableList}
use Rattle.graph_schema.specs.Fault.{long_lists, repeated_names, differing_kinds, schema_faults}
use Rattle.graph_schema.specs.Law.{MakeSchema}
use Rattle.graph_schema.specs.Name.{is_name}
use Rattle.graph_schema.specs.Schema.{schema_with}
use Rattle.graph_schema.proofs.Faultless.{make_schema, faultless}
use Rattle.graph_schema.proofs.Nothing.{nil_left, nil_right, nil_both, no_fault}
use Rattle.graph_config.specs.declared.tables.Tables.{Tables}
use Rattle.graph_config.specs.Fault.{Fault, ◌>>=◌, required}
use Rattle.graph_config.specs.Field.{object_at, items_len, list_at, is_one_or_two, is_version, version_of, keys_for, keys_of, top_list_at}
use Rattle.graph_config.specs.Walk.{vertices_from, edges_from, no_tables, vertices_at, edges_at, walk}
use Rattle.graph_config.specs.Check.{none_of, end_exists, table_ends, ends_from, checked}
use Rattle.graph_config.specs.Config.{ConfigData, config_with, config_at}
use Rattle.graph_config.specs.Document.{HasList, HasFile, StatesVertexTable, NamesTable, StatesEdgeTable, StatesKeys, no_version, version_one, version_two, IsConfigOf, AcceptedConfigurations}
use Rattle.graph_config.proofs.Made.{both_steps, there, none_there, none_wide}
use Rattle.graph_config.proofs.Steps.{bound_ok, the_same, required_ok, passes, passes_ok, has_field, list_of, items_back, list_length, items_length, object_ok, object_reads, list_ok, list_reads}
use Rattle.graph_config.proofs.Fields.{zip_length}
use Rattle.graph_config.proofs.Entries.{with_vertices, with_edges, VerticesRead, vertices_ok, vertices_read, ReadsEdge, EdgesRead, edges_ok, edges_read, end_named, end_placed}

-- ---- where keys differ

number_in : (v : Data) (n : ℕ) → option_and_then as_u64 (as_number v) ≡ Some n → v ≡ number (unsigned n)
number_in null n h = cc
number_in (boolean b) n h = cc
number_in (number (unsigned m)) n h = let e : m ≡ n = cc in ap (λ x. number (unsigned x)) e
number_in (number (negative z)) n h = cc
number_in (number (float x)) n h = cc
number_in (string s) n h = cc
number_in (array ds) n h = cc
number_in (object ms) n h = cc

number_keys : (d : Data) (n : ℕ) (b c : Bool) → get (codes "version") d ≡ Some (number (unsigned n)) → (n == 1) ≡ b → (n == 2) ≡ c → (b || c) ≡ true → StatesKeys d (cond c PerTable Whole)
number_keys d n b true here one two h = version_two (here ∙ ap (λ x. Some (number (unsigned x))) (eqb-true n 2 two)) refl
number_keys d n true false here one two h = version_one (here ∙ ap (λ x. Some (number (unsigned x))) (eqb-true n 1 one)) refl
number_keys d n false false here one two h = cc

version_keys : (d v : Data) (o : Option ℕ) → get (codes "version") d ≡ Some v → option_and_then as_u64 (as_number v) ≡ o → is_one_or_two o ≡ true → StatesKeys d (keys_for o)
version_keys d v None here is h = cc
version_keys d v (Some n) here is h = number_keys d n (n == 1) (n == 2) (here ∙ ap Some (number_in v n is)) refl refl h

keys_ok : (d : Data) (o : Option Data) (u : Unit {0}) → get (codes "version") d ≡ o → version_of o ≡ Ok u → StatesKeys d (keys_of o)
unfolding version_of
keys_ok d None u here h = no_version here refl
keys_ok d (Some v) u here h = version_keys d v (option_and_then as_u64 (as_number v)) here refl (passes_ok (codes "version") (is_version v) u h)

keys_read : (d : Data) (keys : Keys) → StatesKeys d keys → version_of (get (codes "version") d) ≡ Ok tt
unfolding version_of
keys_read d keys (no_version h k) = rw h refl
keys_read d keys (version_one h k) = rw h refl
keys_read d keys (version_two h k) = rw h refl

keys_are : (d : Data) (keys : Keys) → StatesKeys d keys → keys_of (get (codes "version") d) ≡ keys
keys_are d keys (no_version h k) = rw h (sym k)
keys_are d keys (version_one h k) = rw h (sym k)
keys_are d keys (version_two h k) = rw h (sym k)

-- ---- the two lists

pub record IsList (f : List ℕ) (most : ℕ) (d : Data) (es : List Data) : Type 0 where
  pub has : HasList f d es
  pub few : length es ≤ most

pub top_ok : (f : List ℕ) (most : ℕ) (d : Data) (ds : Items) → top_list_at f most d ≡ Ok ds → IsList f most d (list_of ds)
unfolding top_list_at
top_ok f most d ds h =
    let k = bound_ok (required f (get f d)) (list_at f most) ds h in
    let l = list_ok f most k.0 ds k.2 in
    record {
      has = required_ok f (get f d) k.0 k.1 ∙ ap Some (l.is ∙ ap array (sym (items_back ds)));
      few = omega (arith, list_length ds, ltb-false most (items_len ds) l.short);
    }

top_reads : (f : List ℕ) (most : ℕ) (d : Data) (es : List Data) → HasList f d es → length es ≤ most → top_list_at f most d ≡ Ok (items_of es)
unfolding top_list_at
top_reads f most d es h few =
    let n : items_len (items_of es) ≤ most = omega (arith, items_length es) in
    rw h (list_reads f most (items_of es) (le-ltb most (items_len (items_of es)) n))

zip_append : {A B : Type 0} (R : A → B → Type 0) (xs us : List A) (ys vs : List B) → AllZip R xs ys → AllZip R us vs → AllZip R (xs ++ us) (ys ++ vs)
zip_append R [] us [] vs h k = k
zip_append R [] us (y ∷ ys) vs h k = absurd h
zip_append R (x ∷ xs) us [] vs h k = absurd h
zip_append R (x ∷ xs) us (y ∷ ys) vs h k = (h.0, zip_append R xs us ys vs h.1 k)

record Split {A B : Type 0} (R : A → B → Type 0) (xs us : List A) (ys : List B) : Type 0 where
  first : List B
  second : List B
  both : ys ≡ first ++ second
  left : AllZip R xs first
  right : AllZip R us second

zip_split : {A B : Type 0} (R : A → B → Type 0) (xs us : List A) (ys : List B) → AllZip R (xs ++ us) ys → Split R xs us ys
zip_split R [] us ys h = record { first = []; second = ys; both = refl; left = tt; right = h }
zip_split R (x ∷ xs) us [] h = absurd h
zip_split R (x ∷ xs) us (y ∷ ys) h =
    let s = zip_split R xs us ys h.1 in
    record { first = y ∷ s.first; second = s.second; both = ap (λ l. y ∷ l) s.both; left = (h.0, s.left); right = s.right }

-- ---- the walk

record WalkRead (d : Data) (t : Tables) : Type 0 where
  vertex_entries : List Data
  edge_entries : List Data
  vertex_list : HasList (codes "vertex_providers") d vertex_entries
  edge_list : HasList (codes "edge_providers") d edge_entries
  vertices : AllZip StatesVertexTable vertex_entries t.vertices
  edges : AllZip (ReadsEdge t.vertices) edge_entries t.edges
  files : AllZip HasFile (vertex_entries ++ edge_entries) t.files
  few : length t.vertices + length t.edges ≤ 32
  few_vertex_props : All (λ v. length v.props ≤ 64) t.vertices
  few_edge_props : All (λ e. length e.props ≤ 64) t.edges

lists_ok : (d : Data) (w t : Tables) → vertices_at d ≡ Ok w → edges_at w d ≡ Ok t → WalkRead d t
unfolding vertices_at edges_at
lists_ok d w t h k =
    let vl = bound_ok (top_list_at (codes "vertex_providers") 32 d) (vertices_from no_tables) w h in
    let va = top_ok (codes "vertex_providers") 32 d vl.0 vl.1 in
    let vs = vertices_ok no_tables (list_of vl.0) w (subst (λ x. vertices_from no_tables x ≡ Ok w) (sym (items_back vl.0)) vl.2) in
    let el = bound_ok (top_list_at (codes "edge_providers") (32 - length w.vertices) d) (edges_from w) t k in
    let ea = top_ok (codes "edge_providers") (32 - length w.vertices) d el.0 el.1 in
    let es = edges_ok w (list_of el.0) t (subst (λ x. edges_from w x ≡ Ok t) (sym (items_back el.0)) el.2) in
    let states : AllZip (ReadsEdge vs.tables) (list_of el.0) es.tables = subst (λ x. AllZip (ReadsEdge x.vertices) (list_of el.0) es.tables) vs.grown es.states in
    let is : t ≡ with_edges (with_vertices no_tables vs.tables vs.files) es.tables es.files = es.grown ∙ ap (λ x. with_edges x es.tables es.files) vs.grown in
    let many : length w.vertices ≡ length vs.tables = ap (λ x. length x.vertices) vs.grown in
    let few : length vs.tables + length es.tables ≤ 32 =
    omega (arith, many, va.few, ea.few, zip_length StatesVertexTable (list_of vl.0) vs.tables vs.states, zip_length (ReadsEdge vs.tables) (list_of el.0) es.tables states) in
    subst (WalkRead d) (sym is) (record {
      vertex_entries = list_of vl.0;
      edge_entries = list_of el.0;
      vertex_list = va.has;
      edge_list = ea.has;
      vertices = vs.states;
      edges = states;
      files = zip_append HasFile (list_of vl.0) (list_of el.0) vs.files es.files vs.has es.has;
      few = few;
      few_vertex_props = vs.few;
      few_edge_props = es.few;
    })

record IsWalk (d : Data) (t : Tables) : Type 0 where
  keys : StatesKeys d (keys_of (get (codes "version") d))
  read : WalkRead d t

walk_ok : (d : Data) (t : Tables) → walk d ≡ Ok t → IsWalk d t
unfolding walk
walk_ok d t h =
    let o = bound_ok (object_at (codes "$") d) _ t h in
    let v = bound_ok (version_of (get (codes "version") d)) _ t o.2 in
    let w = bound_ok (vertices_at d) _ t v.2 in
    record { keys = keys_ok d (get (codes "version") d) v.0 refl v.1; read = lists_ok d w.0 t w.1 w.2 }

vertices_are : (d : Data) (ve : List Data) (vs : List VertexTable) (fs : List (List ℕ)) → HasList (codes "vertex_providers") d ve → AllZip StatesVertexTable ve vs → AllZip HasFile ve fs → length vs ≤ 32 → All (λ v. length v.props ≤ 64) vs → vertices_at d ≡ Ok (with_vertices no_tables vs fs)
unfolding vertices_at
vertices_are d ve vs fs l h f few props =
    rw (top_reads (codes "vertex_providers") 32 d ve l (omega (arith, zip_length StatesVertexTable ve vs h))) (vertices_read no_tables ve vs fs h f props)

edges_are : (d : Data) (t : Tables) (ee : List Data) (es : List EdgeTable) (fs : List (List ℕ)) → HasList (codes "edge_providers") d ee → AllZip (ReadsEdge t.vertices) ee es → AllZip HasFile ee fs → length t.vertices + length es ≤ 32 → All (λ e. length e.props ≤ 64) es → edges_at t d ≡ Ok (with_edges t es fs)
unfolding edges_at
edges_are d t ee es fs l h f few props =
    rw (top_reads (codes "edge_providers") (32 - length t.vertices) d ee l (omega (arith, zip_length (ReadsEdge t.vertices) ee es h))) (edges_read t ee es fs h f props)

walk_reads : (d : Data) (t : Tables) (keys : Keys) → WalkRead d t → StatesKeys d keys → walk d ≡ Ok t
unfolding walk
walk_reads d t keys h k =
    let s = zip_split HasFile h.vertex_entries h.edge_entries t.files h.files in
    let w = with_vertices no_tables t.vertices s.first in
    let short : length t.vertices ≤ 32 = omega (arith, h.few) in
    rw (
      object_reads (codes "$") d (has_field (codes "vertex_providers") d _ h.vertex_list),
      keys_read d keys k,
      vertices_are d h.vertex_entries t.vertices s.first h.vertex_list h.vertices s.left short h.few_vertex_props,
    )
    (edges_are d w h.edge_entries t.edges s.second h.edge_list h.edges s.right h.few h.few_edge_props ∙ ap (λ fs. Ok (record t { files = fs })) (sym s.both))

-- ---- the checks

one_edge : (vs : List VertexTable) (place : ℕ) (d : Data) (e : EdgeTable) → table_ends (length vs) place e ≡ Ok tt → ReadsEdge vs d e → StatesEdgeTable vs d e
unfolding table_ends
one_edge vs place d e h r =
    let k = both_steps (end_exists (length vs) place (codes "source_vertex_provider") e.source) (end_exists (length vs) place (codes "destination_vertex_provider") e.destination) h in
    record {
      name = r.name;
      source = end_named vs (codes "source_vertex_provider") d e.source r.source (ltb-true e.source (length vs) (there (length vs) place (codes "source_vertex_provider") e.source k.0));
      destination = end_named vs (codes "destination_vertex_provider") d e.destination r.destination (ltb-true e.destination (length vs) (there (length vs) place (codes "destination_vertex_provider") e.destination k.1));
      props = r.props;
    }

ends_ok : (vs : List VertexTable) (place : ℕ) (ds : List Data) (es : List EdgeTable) → ends_from (length vs) place es ≡ Ok tt → AllZip (ReadsEdge vs) ds es → AllZip (StatesEdgeTable vs) ds es
unfolding ends_from
ends_ok vs place [] [] h r = tt
ends_ok vs place [] (e ∷ es) h r = absurd r
ends_ok vs place (d ∷ ds) [] h r = absurd r
ends_ok vs place (d ∷ ds) (e ∷ es) h r =
    let k = both_steps (table_ends (length vs) place e) (ends_from (length vs) (place + 1) es) h in
    (one_edge vs place d e k.0 r.0, ends_ok vs (place + 1) ds es k.1 r.1)

within_of : (vs : List VertexTable) (i : ℕ) (t : VertexTable) → slice_get vs i ≡ Some t → i < length vs
within_of [] i t h = cc
within_of (v ∷ vs) zero t h = omega arith
within_of (v ∷ vs) (suc i) t h = let r = within_of vs i t h in omega arith

end_passes : (vs : List VertexTable) (place : ℕ) (field : List ℕ) (end : ℕ) → end < length vs → end_exists (length vs) place field end ≡ Ok tt
unfolding end_exists
end_passes vs place field end h = rw (lt-ltb end (length vs) h) refl

table_passes : (vs : List VertexTable) (place : ℕ) (d : Data) (e : EdgeTable) → StatesEdgeTable vs d e → table_ends (length vs) place e ≡ Ok tt
unfolding table_ends
table_passes vs place d e h =
    rw (end_passes vs place (codes "source_vertex_provider") e.source (within_of vs e.source h.source.table h.source.there))
    (end_passes vs place (codes "destination_vertex_provider") e.destination (within_of vs e.destination h.destination.table h.destination.there))

ends_pass : (vs : List VertexTable) (place : ℕ) (ds : List Data) (es : List EdgeTable) → AllZip (StatesEdgeTable vs) ds es → ends_from (length vs) place es ≡ Ok tt
unfolding ends_from
ends_pass vs place [] [] h = refl
ends_pass vs place [] (e ∷ es) h = absurd h
ends_pass vs place (d ∷ ds) [] h = absurd h
ends_pass vs place (d ∷ ds) (e ∷ es) h = rw (table_passes vs place d e h.0) (ends_pass vs (place + 1) ds es h.1)

ends_placed : (vs : List VertexTable) (ds : List Data) (es : List EdgeTable) → AllPairs (λ s t. s.name ≢ t.name) vs → All (λ v. IsTrue (is_name v.name)) vs → AllZip (StatesEdgeTable vs) ds es → AllZip (ReadsEdge vs) ds es
ends_placed vs [] [] differ names h = tt
ends_placed vs [] (e ∷ es) differ names h = absurd h
ends_placed vs (d ∷ ds) [] differ names h = absurd h
ends_placed vs (d ∷ ds) (e ∷ es) differ names h = (
  record {
    name = h.0.name;
    source = end_placed vs (codes "source_vertex_provider") d e.source h.0.source differ names (within_of vs e.source h.0.source.table h.0.source.there);
    destination = end_placed vs (codes "destination_vertex_provider") d e.destination h.0.destination differ names (within_of vs e.destination h.0.destination.table h.0.destination.there);
    props = h.0.props;
  },
  ends_placed vs ds es differ names h.1,
)

all_named : (ds : List Data) (vs : List VertexTable) → AllZip StatesVertexTable ds vs → All (λ v. IsTrue (is_name v.name)) vs
all_named [] [] h = λ k d within. absurd (omega arith)
all_named [] (v ∷ vs) h = absurd h
all_named (d ∷ ds) [] h = absurd h
all_named (d ∷ ds) (v ∷ vs) h = All-cons (λ x. IsTrue (is_name x.name)) v vs h.0.name.valid (all_named ds vs h.1)

none_long : (vs : List VertexTable) (es : List EdgeTable) → length vs + length es ≤ 32 → All (λ v. length v.props ≤ 64) vs → All (λ e. length e.props ≤ 64) es → long_lists vs es ≡ []
none_long vs es few v e =
    nil_both _ _ (nil_both _ _ (nil_both _ _ (no_fault _ (TableList Vertices) (le-ltb 32 (length vs) (omega arith))) (none_wide Vertices (λ x. x.props) vs v))
    (no_fault _ (TableList Edges) (le-ltb 32 _ few))) (none_wide Edges (λ x. x.props) es e)

record IsChecked (t : Tables) : Type 0 where
  names : repeated_names t.vertices t.edges ≡ []
  ends : ends_from (length t.vertices) 0 t.edges ≡ Ok tt
  kinds : differing_kinds t.vertices t.edges ≡ []

checked_ok : (t : Tables) → checked t ≡ Ok tt → IsChecked t
unfolding checked
checked_ok t h =
    let last = none_of (differing_kinds t.vertices t.edges) in
    let n = both_steps (none_of (repeated_names t.vertices t.edges)) (ends_from (length t.vertices) 0 t.edges >>= (λ none. last)) h in
    let e = both_steps (ends_from (length t.vertices) 0 t.edges) last n.1 in
    record { names = none_there _ n.0; ends = e.0; kinds = none_there _ e.1 }

all_pass : (a c : List Location) (r : Result (Unit {0}) Fault) → a ≡ [] → r ≡ Ok tt → c ≡ [] → (none_of a >>= (λ names. r >>= (λ ends. none_of c))) ≡ Ok tt
all_pass a c r h k l = rw (h, k, l) refl

checked_reads : (t : Tables) → IsChecked t → checked t ≡ Ok tt
unfolding checked
checked_reads t h = all_pass (repeated_names t.vertices t.edges) (differing_kinds t.vertices t.edges) (ends_from (length t.vertices) 0 t.edges) h.names h.ends h.kinds

-- ---- the law

abbrev configured : Keys → Tables → ConfigData
configured keys t = record { schema = schema_with keys t.vertices t.edges; files = t.files }

stated : (d : Data) (t : Tables) → IsWalk d t → IsChecked t → IsConfigOf d (configured (keys_of (get (codes "version") d)) t)
stated d t w c = record {
  keys = w.keys;
  vertex_entries = w.read.vertex_entries;
  edge_entries = w.read.edge_entries;
  vertex_list = w.read.vertex_list;
  edge_list = w.read.edge_list;
  vertices = w.read.vertices;
  edges = ends_ok t.vertices 0 w.read.edge_entries t.edges c.ends w.read.edges;
  files = w.read.files;
}

schema_made : (d : Data) (t : Tables) → WalkRead d t → IsChecked t → MakeSchema t.vertices t.edges
schema_made d t w c =
    make_schema t.vertices t.edges (nil_both (long_lists t.vertices t.edges ++ repeated_names t.vertices t.edges) (differing_kinds t.vertices t.edges)
    (nil_both (long_lists t.vertices t.edges) (repeated_names t.vertices t.edges) (none_long t.vertices t.edges w.few w.few_vertex_props w.few_edge_props) c.names) c.kinds)

forward : (d : Data) (c : ConfigData) → config_at d ≡ Ok c → IsConfigOf d c × MakeSchema c.schema.vertices c.schema.edges
unfolding config_at config_with
forward d c h =
    let keys = keys_of (get (codes "version") d) in
    let w = bound_ok (walk d) (config_with keys) c h in
    let k = bound_ok (checked w.0) (λ none. Ok (configured keys w.0)) c w.2 in
    let is = walk_ok d w.0 w.1 in
    let fine = checked_ok w.0 k.1 in
    subst (λ x. IsConfigOf d x × MakeSchema x.schema.vertices x.schema.edges) (the_same _ c _ refl k.2) (stated d w.0 is fine, schema_made d w.0 is.read fine)

abbrev tables_in : ConfigData → Tables
tables_in c = record { vertices = c.schema.vertices; edges = c.schema.edges; files = c.files }

walked : (d : Data) (c : ConfigData) → IsConfigOf d c → MakeSchema c.schema.vertices c.schema.edges → WalkRead d (tables_in c)
walked d c h m = record {
  vertex_entries = h.vertex_entries;
  edge_entries = h.edge_entries;
  vertex_list = h.vertex_list;
  edge_list = h.edge_list;
  vertices = h.vertices;
  edges = ends_placed c.schema.vertices h.edge_entries c.schema.edges m.vertices.names (all_named h.vertex_entries c.schema.vertices h.vertices) h.edges;
  files = h.files;
  few = m.few_tables;
  few_vertex_props = m.vertices.few_props;
  few_edge_props = m.edges.few_props;
}

fine : (d : Data) (c : ConfigData) → IsConfigOf d c → MakeSchema c.schema.vertices c.schema.edges → IsChecked (tables_in c)
fine d c h m =
    let vs = c.schema.vertices in
    let es = c.schema.edges in
    let none = faultless vs es m in
    record {
      names = nil_right (long_lists vs es) (repeated_names vs es) (nil_left (long_lists vs es ++ repeated_names vs es) (differing_kinds vs es) none);
      ends = ends_pass vs 0 h.edge_entries es h.edges;
      kinds = nil_right (long_lists vs es ++ repeated_names vs es) (differing_kinds vs es) none;
    }

backward : (d : Data) (c : ConfigData) → IsConfigOf d c → MakeSchema c.schema.vertices c.schema.edges → config_at d ≡ Ok c
unfolding config_at config_with
backward d c h m =
    rw (walk_reads d (tables_in c) c.schema.keys (walked d c h m) h.keys, checked_reads (tables_in c) (fine d c h m))
    (ap (λ keys. Ok (configured keys (tables_in c))) (keys_are d c.schema.keys h.keys))

pub accepted : AcceptedConfigurations
accepted = λ d c. (forward d c, λ h. backward d c h.0 h.1)
