-- Tables are read exactly where the entries of the lists state them.
use Rattle.std.proofs.Common.{◌≡◌, ◌∙◌, refl, ap, sym, subst, ℕ, ◌+◌, ◌<◌, ◌≤◌, Bool, true, false, IsTrue, List, [], ◌∷◌, ◌++◌, length, get_or, slice_get, append_assoc, append-nil, Option, Some, None, Result, Ok, Err, codes, cond, arith}
use Rattle.std.specs.Prelude.{◌≢◌, nat_lt, unwrap_or}
use Rattle.std.specs.List.{All, AllPairs, AllZip, position, position_or_len}
use Rattle.std.specs.Cmp.Lexicographic.{bytes_decides}
use Rattle.std.proofs.lemmas.Bool.{ltb-true, lt-ltb}
use Rattle.std.proofs.lemmas.Option.{slice_get-get_or, get_or_from_slice_get}
use Rattle.std.proofs.lemmas.List.Elements.{All-cons, All-head, All-tail}
use Rattle.std.proofs.lemmas.List.Sums.{position_or_len_is, passes_at_first}
use Rattle.serde_json.specs.Data.{Data, string}
use Rattle.serde_json.specs.View.{items_of}
use Rattle.graph_schema.specs.declared.schema.Prop.{Prop}
use Rattle.graph_schema.specs.declared.schema.VertexTable.{VertexTable}
use Rattle.graph_schema.specs.declared.schema.EdgeTable.{EdgeTable}
use Rattle.graph_schema.specs.Name.{is_name}
use Rattle.graph_schema.proofs.Nothing.{false_unless_true}
use Rattle.graph_config.specs.declared.tables.Tables.{Tables}
use Rattle.graph_config.specs.Fault.{Fault, ◌>>=◌}
use Rattle.graph_config.specs.Field.{item_path, same, object_at, name_at, file_at}
use Rattle.graph_config.specs.Walk.{props_at, head_at, vertex_at, vertices_from, place_of, end_at, ends_at, edge_at, edges_from}
use Rattle.graph_config.specs.Document.{HasText, HasName, HasFile, StatesProps, StatesVertexTable, NamesTable, StatesEdgeTable}
use Rattle.graph_config.proofs.Steps.{bound_ok, the_same, has_field, object_reads}
use Rattle.graph_config.proofs.Fields.{name_ok, name_reads, file_ok, file_reads, FewProps, props_at_ok, props_at_reads}

-- ---- the name and the file of a table

record IsHead (d : Data) (head : List ℕ × List ℕ) : Type 0 where
  name : HasName d head.0
  file : HasFile d head.1

head_ok : (path : List ℕ) (d : Data) (head : List ℕ × List ℕ) → head_at path d ≡ Ok head → IsHead d head
unfolding head_at
head_ok path d head h =
    let o = bound_ok (object_at path d) _ head h in
    let n = bound_ok (name_at path (codes "name") d) _ head o.2 in
    let f = bound_ok (file_at path (codes "file") d) _ head n.2 in
    let name = name_ok path (codes "name") d n.0 n.1 in
    subst (IsHead d) (the_same _ head _ refl f.2) (record { name = record { text = name.0; valid = name.1 }; file = file_ok path d f.0 f.1 })

head_reads : (path : List ℕ) (d : Data) (name file : List ℕ) → HasName d name → HasFile d file → head_at path d ≡ Ok (name, file)
unfolding head_at
head_reads path d name file n f =
    rw (object_reads path d (has_field (codes "name") d _ n.text), name_reads path (codes "name") d name n.text n.valid, file_reads path d file f) refl

-- ---- vertex tables

abbrev pub with_vertices : Tables → List VertexTable → List (List ℕ) → Tables
with_vertices t vs fs = record t { vertices = t.vertices ++ vs; files = t.files ++ fs }

pub record OneVertex (t : Tables) (d : Data) (u : Tables) : Type 0 where
  pub table : VertexTable
  pub file : List ℕ
  pub grown : u ≡ with_vertices t (table ∷ []) (file ∷ [])
  pub states : StatesVertexTable d table
  pub has : HasFile d file
  pub few : length table.props ≤ 64

pub vertex_ok : (path : List ℕ) (t : Tables) (d : Data) (u : Tables) → vertex_at path t d ≡ Ok u → OneVertex t d u
unfolding vertex_at
vertex_ok path t d u h =
    let k = bound_ok (head_at path d) _ u h in
    let p = bound_ok (props_at path d) _ u k.2 in
    let head = head_ok path d k.0 k.1 in
    let props = props_at_ok path d p.0 p.1 in
    record {
      table = record { name = k.0.0; props = p.0 };
      file = k.0.1;
      grown = sym (the_same _ u _ refl p.2);
      states = record { name = head.name; props = props.states };
      has = head.file;
      few = props.few;
    }

vertex_reads : (path : List ℕ) (t : Tables) (d : Data) (v : VertexTable) (file : List ℕ) → StatesVertexTable d v → HasFile d file → length v.props ≤ 64 → vertex_at path t d ≡ Ok (with_vertices t (v ∷ []) (file ∷ []))
unfolding vertex_at
vertex_reads path t d v file h f few = rw (head_reads path d v.name file h.name f, props_at_reads path d v.props h.props few) refl

pub record VerticesRead (t : Tables) (es : List Data) (u : Tables) : Type 0 where
  pub tables : List VertexTable
  pub files : List (List ℕ)
  pub grown : u ≡ with_vertices t tables files
  pub states : AllZip StatesVertexTable es tables
  pub has : AllZip HasFile es files
  pub few : All (λ v. length v.props ≤ 64) tables

pub vertices_ok : (t : Tables) (es : List Data) (u : Tables) → vertices_from t (items_of es) ≡ Ok u → VerticesRead t es u
unfolding vertices_from
vertices_ok t [] u h = record {
  tables = [];
  files = [];
  grown = sym (the_same t u _ refl h) ∙ sym (ap (λ vs. record t { vertices = vs; files = t.files ++ [] }) (append-nil t.vertices) ∙ ap (λ fs. record t { files = fs }) (append-nil t.files));
  states = tt;
  has = tt;
  few = λ k d within. absurd (omega arith);
}
vertices_ok t (e ∷ es) u h =
    let k = bound_ok (vertex_at (item_path (codes "vertex_providers") (length t.vertices)) t e) _ u h in
    let one = vertex_ok _ t e k.0 k.1 in
    let more = vertices_ok k.0 es u k.2 in
    record {
      tables = one.table ∷ more.tables;
      files = one.file ∷ more.files;
      grown = more.grown ∙ ap (λ x. with_vertices x more.tables more.files) one.grown
          ∙ ap (λ vs. record t { vertices = vs; files = (t.files ++ one.file ∷ []) ++ more.files }) (append_assoc t.vertices (one.table ∷ []) more.tables)
          ∙ ap (λ fs. record t { vertices = t.vertices ++ one.table ∷ more.tables; files = fs }) (append_assoc t.files (one.file ∷ []) more.files);
      states = (one.states, more.states);
      has = (one.has, more.has);
      few = All-cons (λ v. length v.props ≤ 64) one.table more.tables one.few more.few;
    }

pub vertices_read : (t : Tables) (es : List Data) (vs : List VertexTable) (fs : List (List ℕ)) → AllZip StatesVertexTable es vs → AllZip HasFile es fs → All (λ v. length v.props ≤ 64) vs → vertices_from t (items_of es) ≡ Ok (with_vertices t vs fs)
unfolding vertices_from
vertices_read t [] [] [] s h few = ap Ok (sym (ap (λ vs. record t { vertices = vs; files = t.files ++ [] }) (append-nil t.vertices) ∙ ap (λ fs. record t { files = fs }) (append-nil t.files)))
vertices_read t [] [] (f ∷ fs) s h few = absurd h
vertices_read t [] (v ∷ vs) fs s h few = absurd s
vertices_read t (e ∷ es) [] fs s h few = absurd s
vertices_read t (e ∷ es) (v ∷ vs) [] s h few = absurd h
vertices_read t (e ∷ es) (v ∷ vs) (f ∷ fs) s h few =
    rw (vertex_reads (item_path (codes "vertex_providers") (length t.vertices)) t e v f s.0 h.0 (All-head (λ x. length x.props ≤ 64) v vs few))
    (vertices_read (with_vertices t (v ∷ []) (f ∷ [])) es vs fs s.1 h.1 (All-tail (λ x. length x.props ≤ 64) v vs few)
    ∙ ap Ok (ap (λ xs. record t { vertices = xs; files = (t.files ++ f ∷ []) ++ fs }) (append_assoc t.vertices (v ∷ []) vs)
    ∙ ap (λ xs. record t { vertices = t.vertices ++ v ∷ vs; files = xs }) (append_assoc t.files (f ∷ []) fs)))

-- ---- ends of edge tables

-- the field is a name, and this is the place of the first vertex table of the name
pub record ReadsEnd (vs : List VertexTable) (field : List ℕ) (d : Data) (place : ℕ) : Type 0 where
  pub name : List ℕ
  pub text : HasText field d name
  pub valid : IsTrue (is_name name)
  pub is : place ≡ place_of vs name

end_ok : (path field : List ℕ) (vs : List VertexTable) (d : Data) (place : ℕ) → end_at path field vs d ≡ Ok place → ReadsEnd vs field d place
unfolding end_at
end_ok path field vs d place h =
    let k = bound_ok (name_at path field d) _ place h in
    let n = name_ok path field d k.0 k.1 in
    record { name = k.0; text = n.0; valid = n.1; is = sym (the_same _ place _ refl k.2) }

end_reads : (path field : List ℕ) (vs : List VertexTable) (d : Data) (place : ℕ) → ReadsEnd vs field d place → end_at path field vs d ≡ Ok place
unfolding end_at
end_reads path field vs d place h = rw (name_reads path field d h.name h.text h.valid) (ap Ok (sym h.is))

-- ---- edge tables

pub record ReadsEdge (vs : List VertexTable) (d : Data) (e : EdgeTable) : Type 0 where
  pub name : HasName d e.name
  pub source : ReadsEnd vs (codes "source_vertex_provider") d e.source
  pub destination : ReadsEnd vs (codes "destination_vertex_provider") d e.destination
  pub props : StatesProps d e.props

abbrev pub with_edges : Tables → List EdgeTable → List (List ℕ) → Tables
with_edges t es fs = record t { edges = t.edges ++ es; files = t.files ++ fs }

pub record OneEdge (t : Tables) (d : Data) (u : Tables) : Type 0 where
  pub table : EdgeTable
  pub file : List ℕ
  pub grown : u ≡ with_edges t (table ∷ []) (file ∷ [])
  pub states : ReadsEdge t.vertices d table
  pub has : HasFile d file
  pub few : length table.props ≤ 64

pub edge_ok : (path : List ℕ) (t : Tables) (d : Data) (u : Tables) → edge_at path t d ≡ Ok u → OneEdge t d u
unfolding edge_at ends_at
edge_ok path t d u h =
    let k = bound_ok (head_at path d) _ u h in
    let l = bound_ok (ends_at path t.vertices d) _ u k.2 in
    let s = bound_ok (end_at path (codes "source_vertex_provider") t.vertices d) _ l.0 l.1 in
    let r = bound_ok (end_at path (codes "destination_vertex_provider") t.vertices d) _ l.0 s.2 in
    let p = bound_ok (props_at path d) _ u l.2 in
    let head = head_ok path d k.0 k.1 in
    let props = props_at_ok path d p.0 p.1 in
    let ends : (s.0, r.0) ≡ l.0 = the_same _ l.0 _ refl r.2 in
    record {
      table = record { name = k.0.0; source = l.0.0; destination = l.0.1; props = p.0 };
      file = k.0.1;
      grown = sym (the_same _ u _ refl p.2);
      states = record {
        name = head.name;
        source = subst (λ x. ReadsEnd t.vertices (codes "source_vertex_provider") d x.0) ends (end_ok path (codes "source_vertex_provider") t.vertices d s.0 s.1);
        destination = subst (λ x. ReadsEnd t.vertices (codes "destination_vertex_provider") d x.1) ends (end_ok path (codes "destination_vertex_provider") t.vertices d r.0 r.1);
        props = props.states;
      };
      has = head.file;
      few = props.few;
    }

edge_reads : (path : List ℕ) (t : Tables) (d : Data) (e : EdgeTable) (file : List ℕ) → ReadsEdge t.vertices d e → HasFile d file → length e.props ≤ 64 → edge_at path t d ≡ Ok (with_edges t (e ∷ []) (file ∷ []))
unfolding edge_at ends_at
edge_reads path t d e file h f few =
    rw (head_reads path d e.name file h.name f, end_reads path (codes "source_vertex_provider") t.vertices d e.source h.source, end_reads path (codes "destination_vertex_provider") t.vertices d e.destination h.destination, props_at_reads path d e.props h.props few) refl

pub record EdgesRead (t : Tables) (es : List Data) (u : Tables) : Type 0 where
  pub tables : List EdgeTable
  pub files : List (List ℕ)
  pub grown : u ≡ with_edges t tables files
  pub states : AllZip (ReadsEdge t.vertices) es tables
  pub has : AllZip HasFile es files
  pub few : All (λ e. length e.props ≤ 64) tables

pub edges_ok : (t : Tables) (es : List Data) (u : Tables) → edges_from t (items_of es) ≡ Ok u → EdgesRead t es u
unfolding edges_from
edges_ok t [] u h = record {
  tables = [];
  files = [];
  grown = sym (the_same t u _ refl h) ∙ sym (ap (λ xs. record t { edges = xs; files = t.files ++ [] }) (append-nil t.edges) ∙ ap (λ fs. record t { files = fs }) (append-nil t.files));
  states = tt;
  has = tt;
  few = λ k d within. absurd (omega arith);
}
edges_ok t (e ∷ es) u h =
    let k = bound_ok (edge_at (item_path (codes "edge_providers") (length t.edges)) t e) _ u h in
    let one = edge_ok _ t e k.0 k.1 in
    let more = edges_ok k.0 es u k.2 in
    record {
      tables = one.table ∷ more.tables;
      files = one.file ∷ more.files;
      grown = more.grown ∙ ap (λ x. with_edges x more.tables more.files) one.grown
          ∙ ap (λ xs. record t { edges = xs; files = (t.files ++ one.file ∷ []) ++ more.files }) (append_assoc t.edges (one.table ∷ []) more.tables)
          ∙ ap (λ fs. record t { edges = t.edges ++ one.table ∷ more.tables; files = fs }) (append_assoc t.files (one.file ∷ []) more.files);
      states = (one.states, subst (λ x. AllZip (ReadsEdge x.vertices) es more.tables) one.grown more.states);
      has = (one.has, more.has);
      few = All-cons (λ x. length x.props ≤ 64) one.table more.tables one.few more.few;
    }

pub edges_read : (t : Tables) (ds : List Data) (es : List EdgeTable) (fs : List (List ℕ)) → AllZip (ReadsEdge t.vertices) ds es → AllZip HasFile ds fs → All (λ e. length e.props ≤ 64) es → edges_from t (items_of ds) ≡ Ok (with_edges t es fs)
unfolding edges_from
edges_read t [] [] [] s h few = ap Ok (sym (ap (λ xs. record t { edges = xs; files = t.files ++ [] }) (append-nil t.edges) ∙ ap (λ fs. record t { files = fs }) (append-nil t.files)))
edges_read t [] [] (f ∷ fs) s h few = absurd h
edges_read t [] (v ∷ vs) fs s h few = absurd s
edges_read t (e ∷ es) [] fs s h few = absurd s
edges_read t (e ∷ es) (v ∷ vs) [] s h few = absurd h
edges_read t (e ∷ es) (v ∷ vs) (f ∷ fs) s h few =
    rw (edge_reads (item_path (codes "edge_providers") (length t.edges)) t e v f s.0 h.0 (All-head (λ x. length x.props ≤ 64) v vs few))
    (edges_read (with_edges t (v ∷ []) (f ∷ [])) es vs fs s.1 h.1 (All-tail (λ x. length x.props ≤ 64) v vs few)
    ∙ ap Ok (ap (λ xs. record t { edges = xs; files = (t.files ++ f ∷ []) ++ fs }) (append_assoc t.edges (v ∷ []) vs)
    ∙ ap (λ xs. record t { edges = t.edges ++ v ∷ vs; files = xs }) (append_assoc t.files (f ∷ []) fs)))

-- ---- ends, and the tables that they name

abbrev no_table : VertexTable
no_table = record { name = []; props = [] }

abbrev named : List ℕ → VertexTable → Bool
named name = λ t. same t.name name

by_place : (b : Bool) (i n place : ℕ) → (b ≡ true → i < n) → place ≡ unwrap_or (cond b (Some i) None) n → place < n → (place ≡ i) × (i < n)
by_place true i n place f h within = (h, f refl)
by_place false i n place f h within = let e : place ≡ n = h in absurd (omega arith)

pub end_named : (vs : List VertexTable) (field : List ℕ) (d : Data) (place : ℕ) → ReadsEnd vs field d place → place < length vs → NamesTable vs field d place
unfolding place_of
end_named vs field d place h within =
    let first = position_or_len (named h.name) vs in
    let at = by_place (nat_lt first (length vs)) first (length vs) place (ltb-true first (length vs)) h.is within in
    let passes : same (get_or vs first no_table).name h.name ≡ true = passes_at_first (named h.name) vs no_table at.1 in
    let here : same (get_or vs place no_table).name h.name ≡ true = subst (λ i. same (get_or vs i no_table).name h.name ≡ true) (sym at.0) passes in
    record {
      table = get_or vs place no_table;
      there = slice_get-get_or vs place no_table within;
      text = h.text ∙ ap (λ n. Some (string n)) (sym ((bytes_decides (get_or vs place no_table).name h.name).0 here));
    }

found : (i n place : ℕ) → i ≡ place → place < n → place ≡ unwrap_or (cond (nat_lt i n) (Some i) None) n
found i n place e within = let less : i < n = omega arith in rw (lt-ltb i n less) (sym e)

pub end_placed : (vs : List VertexTable) (field : List ℕ) (d : Data) (place : ℕ) → NamesTable vs field d place → AllPairs (λ s t. s.name ≢ t.name) vs → All (λ v. IsTrue (is_name v.name)) vs → place < length vs → ReadsEnd vs field d place
unfolding place_of
end_placed vs field d place h differ names within =
    let is : get_or vs place no_table ≡ h.table = get_or_from_slice_get vs place h.table no_table h.there in
    let own : same (get_or vs place no_table).name h.table.name ≡ true = (bytes_decides (get_or vs place no_table).name h.table.name).1 (ap (λ t. t.name) is) in
    let first : position_or_len (named h.table.name) vs ≡ place =
    position_or_len_is (named h.table.name) vs place no_table (omega arith)
    (λ k below. false_unless_true _ (λ t. differ k place no_table below within ((bytes_decides (get_or vs k no_table).name h.table.name).0 t ∙ sym (ap (λ x. x.name) is))))
    (λ lt. own) in
    record {
      name = h.table.name;
      text = h.text;
      valid = subst (λ x. is_name x.name ≡ true) is (names place no_table within);
      is = found _ (length vs) place first within;
    }
