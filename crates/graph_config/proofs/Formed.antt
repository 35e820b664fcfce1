-- The faults of the walk are those of the check of the document's form.
use Rattle.std.proofs.Common.{◌≡◌, ◌∙◌, refl, ap, sym, subst, ℕ, ◌+◌, ◌-◌, Bool, true, false, List, [], ◌∷◌, ◌++◌, length, length-append, Option, Some, None, Result, Ok, Err, codes, cond, arith}
use Rattle.std.specs.Prelude.{is_some, nat_lt, option_and_then}
use Rattle.serde_json.specs.Data.{Data, null, boolean, number, string, array, object, Items, no_items, item}
use Rattle.serde_json.specs.Find.{get, as_str, as_array, as_object}
use Rattle.serde_json.specs.View.{items_of}
use Rattle.graph_schema.specs.declared.schema.Prop.{Prop}
use Rattle.graph_schema.specs.declared.schema.VertexTable.{VertexTable}
use Rattle.graph_schema.specs.Name.{is_name}
use Rattle.graph_config.specs.declared.tables.Tables.{Tables}
use Rattle.graph_config.specs.Fault.{Fault, ◌>>=◌, required, allowed}
use Rattle.graph_config.specs.Field.{field_path, item_path, is_file_name, kind_of, items_len, passing, object_at, list_at, optional_list_at, string_at, name_at, file_at, kind_at, is_version, version_of, top_list_at}
use Rattle.graph_config.specs.Walk.{prop_at, props_from, props_at, head_at, vertex_at, vertices_from, end_at, ends_at, edge_at, edges_from, no_tables, vertices_at, edges_at, walk}
use Rattle.graph_config.specs.Document.{StatesVertexTable}
use Rattle.graph_config.specs.Form.{Form, Fields, text, version, list, fields, no_more, field, is_kind, prop_form, props_form, vertex_form, edge_form, top_fields, count_of, form_of, JsonPath, path_text, is_text}
use Rattle.graph_config.proofs.Steps.{bound_ok, list_of, items_back, items_length, passes}
use Rattle.graph_config.proofs.Fields.{zip_length}
use Rattle.graph_config.proofs.Entries.{with_vertices, vertex_ok, vertices_ok, edge_ok}
use Rattle.graph_config.proofs.Accepted.{top_ok}
use Rattle.graph_config.proofs.Found.{each, field_check, check, fields_check, Found, object_joined, IsProper, AreProper, fields_found}

-- ---- results without their values

abbrev pub forget : {A : Type 0} → Result A Fault → Result (Unit {0}) Fault
forget (Ok x) = Ok tt
forget (Err fault) = Err fault

forget_bind : {A B : Type 0} (r : Result A Fault) (f : A → Result B Fault) (s t : Result (Unit {0}) Fault) → forget r ≡ s → ((x : A) → r ≡ Ok x → forget (f x) ≡ t) → forget (r >>= f) ≡ (s >>= (λ u. t))
forget_bind (Ok x) f s t h k = k x refl ∙ ap (λ z. z >>= (λ u. t)) h
forget_bind (Err fault) f s t h k = ap (λ z. z >>= (λ u. t)) h

forget_same : {A B : Type 0} (r : Result A Fault) (f : A → Result B Fault) (g : A → Result (Unit {0}) Fault) → ((x : A) → forget (f x) ≡ g x) → forget (r >>= f) ≡ (r >>= g)
forget_same (Ok x) f g h = h x
forget_same (Err fault) f g h = refl

forget_unit : (r : Result (Unit {0}) Fault) → forget r ≡ r
forget_unit (Ok tt) = refl
forget_unit (Err fault) = refl

unit_right : (r : Result (Unit {0}) Fault) → (r >>= (λ u. Ok tt)) ≡ r
unit_right (Ok tt) = refl
unit_right (Err fault) = refl

assoc : (r s t : Result (Unit {0}) Fault) → ((r >>= (λ u. s)) >>= (λ u. t)) ≡ (r >>= (λ u. s >>= (λ v. t)))
assoc (Ok u) s t = refl
assoc (Err fault) s t = refl

-- ---- texts

some_passing : (b : Bool) (s : List ℕ) → is_some (cond b (Some s) None) ≡ b
some_passing true s = refl
some_passing false s = refl

allowed_passes : {A : Type 0} (path : List ℕ) (o : Option A) (b : Bool) → is_some o ≡ b → forget (allowed path o) ≡ passes b path
allowed_passes path None b h = ap (λ c. passes c path) h
allowed_passes path (Some x) b h = ap (λ c. passes c path) h

text_forget : {A : Type 0} (path : List ℕ) (v : Option Data) (test : List ℕ → Bool) (g : List ℕ → Option A) → ((s : List ℕ) → is_some (g s) ≡ test s)
    → forget ((required path v >>= (λ w. allowed path (as_str w))) >>= (λ s. allowed path (g s))) ≡ field_check (check (text test) path) true path v
text_forget path None test g h = refl
text_forget path (Some null) test g h = refl
text_forget path (Some (boolean b)) test g h = refl
text_forget path (Some (number n)) test g h = refl
text_forget path (Some (string s)) test g h = allowed_passes path (g s) (test s) (h s)
text_forget path (Some (array ds)) test g h = refl
text_forget path (Some (object ms)) test g h = refl

name_forget : (path f : List ℕ) (d : Data) → forget (name_at path f d) ≡ field_check (check (text is_name) (field_path path f)) true (field_path path f) (get f d)
unfolding name_at string_at
name_forget path f d = text_forget (field_path path f) (get f d) is_name (passing is_name) (λ s. some_passing (is_name s) s)

file_forget : (path f : List ℕ) (d : Data) → forget (file_at path f d) ≡ field_check (check (text is_file_name) (field_path path f)) true (field_path path f) (get f d)
unfolding file_at string_at
file_forget path f d = text_forget (field_path path f) (get f d) is_file_name (passing is_file_name) (λ s. some_passing (is_file_name s) s)

kind_forget : (path f : List ℕ) (d : Data) → forget (kind_at path f d) ≡ field_check (check (text is_kind) (field_path path f)) true (field_path path f) (get f d)
unfolding kind_at string_at
kind_forget path f d = text_forget (field_path path f) (get f d) is_kind kind_of (λ s. refl)

-- ---- properties

prop_forget : (path : List ℕ) (d : Data) → forget (prop_at path d) ≡ check prop_form path d
unfolding prop_at
prop_forget path d =
    forget_bind (object_at path d) _ (object_at path d) _ (forget_unit (object_at path d)) (λ o is.
    forget_bind (name_at path (codes "name") d) _ _ _ (name_forget path (codes "name") d) (λ name found.
    forget_bind (kind_at path (codes "type") d) _ _ _ (kind_forget path (codes "type") d) (λ kind also. refl)))

props_forget : (path : List ℕ) (ps : List Prop) (n : ℕ) (ds : Items) → n ≡ length ps → forget (props_from path ps ds) ≡ each (λ i. check prop_form (item_path path i)) n ds
unfolding props_from
props_forget path ps n no_items h = refl
props_forget path ps n (item d ds) h =
    forget_bind (prop_at (item_path path (length ps)) d) _ _ _ (prop_forget (item_path path (length ps)) d ∙ ap (λ i. check prop_form (item_path path i) d) (sym h))
    (λ p found. props_forget path (ps ++ p ∷ []) (n + 1) ds (omega (arith, h, length-append ps (p ∷ []))))

listed_forget : (path : List ℕ) (v : Option Data) → forget (optional_list_at path 64 v >>= props_from path []) ≡ field_check (check props_form path) false path v
unfolding optional_list_at props_from
listed_forget path None = refl
listed_forget path (Some v) = forget_same (list_at path 64 v) (props_from path []) (each (λ i. check prop_form (item_path path i)) 0) (λ ds. props_forget path [] 0 ds refl)

props_at_forget : (path : List ℕ) (d : Data) → forget (props_at path d) ≡ field_check (check props_form (field_path path (codes "props"))) false (field_path path (codes "props")) (get (codes "props") d)
unfolding props_at
props_at_forget path d = listed_forget (field_path path (codes "props")) (get (codes "props") d)

-- ---- tables

-- the check of a field of a table
abbrev named : List ℕ → List ℕ → (List ℕ → Bool) → Data → Result (Unit {0}) Fault
named path f test d = field_check (check (text test) (field_path path f)) true (field_path path f) (get f d)

abbrev listed : List ℕ → Data → Result (Unit {0}) Fault
listed path d = field_check (check props_form (field_path path (codes "props"))) false (field_path path (codes "props")) (get (codes "props") d)

abbrev fine : Result (Unit {0}) Fault
fine = Ok tt

head_forget : (path : List ℕ) (d : Data) → forget (head_at path d) ≡ (object_at path d >>= (λ u. named path (codes "name") is_name d >>= (λ v. named path (codes "file") is_file_name d >>= (λ w. fine))))
unfolding head_at
head_forget path d =
    forget_bind (object_at path d) _ (object_at path d) _ (forget_unit (object_at path d)) (λ o is.
    forget_bind (name_at path (codes "name") d) _ _ _ (name_forget path (codes "name") d) (λ name found.
    forget_bind (file_at path (codes "file") d) _ _ _ (file_forget path (codes "file") d) (λ file also. refl)))

-- three steps and then the rest
three : (r s t rest : Result (Unit {0}) Fault) → ((r >>= (λ u. s >>= (λ v. t >>= (λ w. fine)))) >>= (λ u. rest)) ≡ (r >>= (λ u. s >>= (λ v. t >>= (λ w. rest))))
three (Ok u) (Ok v) (Ok w) rest = refl
three (Ok u) (Ok v) (Err fault) rest = refl
three (Ok u) (Err fault) t rest = refl
three (Err fault) s t rest = refl

two : (s t rest : Result (Unit {0}) Fault) → ((s >>= (λ v. t >>= (λ w. fine))) >>= (λ u. rest)) ≡ (s >>= (λ v. t >>= (λ w. rest)))
two (Ok v) (Ok w) rest = refl
two (Ok v) (Err fault) rest = refl
two (Err fault) t rest = refl

vertex_forget : (path : List ℕ) (t : Tables) (d : Data) → forget (vertex_at path t d) ≡ check vertex_form path d
unfolding vertex_at
vertex_forget path t d =
    forget_bind (head_at path d) _ _ (listed path d >>= (λ w. fine)) (head_forget path d)
    (λ head found. forget_bind (props_at path d) _ (listed path d) fine (props_at_forget path d) (λ props also. refl))
    ∙ three (object_at path d) (named path (codes "name") is_name d) (named path (codes "file") is_file_name d) (listed path d >>= (λ w. fine))

vertices_forget : (t : Tables) (n : ℕ) (ds : Items) → n ≡ length t.vertices → forget (vertices_from t ds) ≡ each (λ i. check vertex_form (item_path (codes "vertex_providers") i)) n ds
unfolding vertices_from
vertices_forget t n no_items h = refl
vertices_forget t n (item d ds) h =
    let path = item_path (codes "vertex_providers") (length t.vertices) in
    forget_bind (vertex_at path t d) _ _ _ (vertex_forget path t d ∙ ap (λ i. check vertex_form (item_path (codes "vertex_providers") i) d) (sym h))
    (λ u found. vertices_forget u (n + 1) ds (let one = vertex_ok path t d u found in
    let e : length u.vertices ≡ length t.vertices + 1 = ap (λ x. length x.vertices) one.grown ∙ length-append t.vertices (one.table ∷ []) in omega (arith, h, e)))

end_forget : (path f : List ℕ) (vs : List VertexTable) (d : Data) → forget (end_at path f vs d) ≡ named path f is_name d
unfolding end_at
end_forget path f vs d = forget_bind (name_at path f d) _ _ fine (name_forget path f d) (λ name found. refl) ∙ unit_right (named path f is_name d)

ends_forget : (path : List ℕ) (vs : List VertexTable) (d : Data) → forget (ends_at path vs d) ≡ (named path (codes "source_vertex_provider") is_name d >>= (λ v. named path (codes "destination_vertex_provider") is_name d >>= (λ w. fine)))
unfolding ends_at
ends_forget path vs d =
    forget_bind (end_at path (codes "source_vertex_provider") vs d) _ _ _ (end_forget path (codes "source_vertex_provider") vs d) (λ source found.
    forget_bind (end_at path (codes "destination_vertex_provider") vs d) _ _ _ (end_forget path (codes "destination_vertex_provider") vs d) (λ destination also. refl))

edge_forget : (path : List ℕ) (t : Tables) (d : Data) → forget (edge_at path t d) ≡ check edge_form path d
unfolding edge_at
edge_forget path t d =
    let last = listed path d >>= (λ w. fine) in
    let source = named path (codes "source_vertex_provider") is_name d in
    let destination = named path (codes "destination_vertex_provider") is_name d in
    forget_bind (head_at path d) _ _ (source >>= (λ v. destination >>= (λ w. last))) (head_forget path d) (λ head found.
    forget_bind (ends_at path t.vertices d) _ _ last (ends_forget path t.vertices d)
    (λ ends also. forget_bind (props_at path d) _ (listed path d) fine (props_at_forget path d) (λ props are. refl))
    ∙ two source destination last)
    ∙ three (object_at path d) (named path (codes "name") is_name d) (named path (codes "file") is_file_name d) (source >>= (λ v. destination >>= (λ w. last)))

edges_forget : (t : Tables) (n : ℕ) (ds : Items) → n ≡ length t.edges → forget (edges_from t ds) ≡ each (λ i. check edge_form (item_path (codes "edge_providers") i)) n ds
unfolding edges_from
edges_forget t n no_items h = refl
edges_forget t n (item d ds) h =
    let path = item_path (codes "edge_providers") (length t.edges) in
    forget_bind (edge_at path t d) _ _ _ (edge_forget path t d ∙ ap (λ i. check edge_form (item_path (codes "edge_providers") i) d) (sym h))
    (λ u found. edges_forget u (n + 1) ds (let one = edge_ok path t d u found in
    let e : length u.edges ≡ length t.edges + 1 = ap (λ x. length x.edges) one.grown ∙ length-append t.edges (one.table ∷ []) in omega (arith, h, e)))

-- ---- the whole

version_forget : (v : Option Data) → forget (version_of v) ≡ field_check (check version (codes "version")) false (codes "version") v
unfolding version_of
version_forget None = refl
version_forget (Some v) = forget_unit (passes (is_version v) (codes "version"))

vertex_list_forget : (v : Option Data) → forget ((required (codes "vertex_providers") v >>= list_at (codes "vertex_providers") 32) >>= vertices_from no_tables) ≡ field_check (check (list 32 vertex_form) (codes "vertex_providers")) true (codes "vertex_providers") v
vertex_list_forget None = refl
vertex_list_forget (Some v) =
    forget_same (list_at (codes "vertex_providers") 32 v) (vertices_from no_tables) (each (λ i. check vertex_form (item_path (codes "vertex_providers") i)) 0) (λ ds. vertices_forget no_tables 0 ds refl)

vertices_at_forget : (d : Data) → forget (vertices_at d) ≡ field_check (check (list 32 vertex_form) (codes "vertex_providers")) true (codes "vertex_providers") (get (codes "vertex_providers") d)
unfolding vertices_at top_list_at
vertices_at_forget d = vertex_list_forget (get (codes "vertex_providers") d)

edge_list_forget : (t : Tables) (most : ℕ) (v : Option Data) → t.edges ≡ [] → forget ((required (codes "edge_providers") v >>= list_at (codes "edge_providers") most) >>= edges_from t) ≡ field_check (check (list most edge_form) (codes "edge_providers")) true (codes "edge_providers") v
edge_list_forget t most None none = refl
edge_list_forget t most (Some v) none =
    forget_same (list_at (codes "edge_providers") most v) (edges_from t) (each (λ i. check edge_form (item_path (codes "edge_providers") i)) 0) (λ ds. edges_forget t 0 ds (sym (ap length none)))

edges_at_forget : (t : Tables) (n : ℕ) (d : Data) → t.edges ≡ [] → length t.vertices ≡ n → forget (edges_at t d) ≡ field_check (check (list (32 - n) edge_form) (codes "edge_providers")) true (codes "edge_providers") (get (codes "edge_providers") d)
unfolding edges_at top_list_at
edges_at_forget t n d none many =
    edge_list_forget t (32 - length t.vertices) (get (codes "edge_providers") d) none
    ∙ ap (λ k. field_check (check (list (32 - k) edge_form) (codes "edge_providers")) true (codes "edge_providers") (get (codes "edge_providers") d)) many

abbrev count_in : Data → ℕ
count_in d = count_of (option_and_then as_array (get (codes "vertex_providers") d))

record Counted (d : Data) (t : Tables) : Type 0 where
  none : t.edges ≡ []
  many : length t.vertices ≡ count_in d

vertices_counted : (d : Data) (t : Tables) → vertices_at d ≡ Ok t → Counted d t
unfolding vertices_at
vertices_counted d t h =
    let l = bound_ok (top_list_at (codes "vertex_providers") 32 d) (vertices_from no_tables) t h in
    let has = top_ok (codes "vertex_providers") 32 d l.0 l.1 in
    let vs = vertices_ok no_tables (list_of l.0) t (subst (λ x. vertices_from no_tables x ≡ Ok t) (sym (items_back l.0)) l.2) in
    let counted : count_in d ≡ items_len (items_of (list_of l.0)) = ap (λ o. count_of (option_and_then as_array o)) has.has in
    record {
      none = ap (λ x. x.edges) vs.grown;
      many = ap (λ x. length x.vertices) vs.grown ∙ sym (zip_length StatesVertexTable (list_of l.0) vs.tables vs.states) ∙ sym (items_length (list_of l.0)) ∙ sym counted;
    }

walk_forget : (d : Data) → forget (walk d) ≡ (object_at (codes "$") d >>= (λ u. fields_check (top_fields (count_in d)) (λ f. f) d))
unfolding walk
walk_forget d =
    forget_bind (object_at (codes "$") d) _ (object_at (codes "$") d) _ (forget_unit (object_at (codes "$") d)) (λ o is.
    forget_bind (version_of (get (codes "version") d)) _ _ _ (version_forget (get (codes "version") d)) (λ v fits.
    forget_bind (vertices_at d) _ _ _ (vertices_at_forget d) (λ t are.
    (let c = vertices_counted d t are in edges_at_forget t (count_in d) d c.none c.many) ∙ sym (unit_right _))))

proper_props : IsProper props_form
proper_props = (refl, tt, (refl, tt, tt))

proper_vertex : IsProper vertex_form
proper_vertex = (refl, tt, (refl, tt, (refl, proper_props, tt)))

proper_edge : IsProper edge_form
proper_edge = (refl, tt, (refl, tt, (refl, tt, (refl, tt, (refl, proper_props, tt)))))

proper_top : (n : ℕ) → AreProper (top_fields n)
proper_top n = (refl, tt, (refl, proper_vertex, (refl, proper_edge, tt)))

pub walk_found : (d : Data) → Found (form_of d) d path_text (forget (walk d))
unfolding object_at
walk_found d =
    let top = top_fields (count_in d) in
    subst (Found (form_of d) d path_text) (sym (walk_forget d))
    (object_joined top d (codes "$") (λ f. f) path_text (is_some (as_object d)) (fields_check top (λ f. f) d) refl (λ name rest. refl) refl (fields_found top (proper_top (count_in d)) (λ f. f) d))
