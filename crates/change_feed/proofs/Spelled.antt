-- A row is read as a change exactly where its fields write it.
use Rattle.std.proofs.Common.{◌≡◌, ◌∙◌, refl, sym, ap, subst, ℕ, ◌+◌, ℤ, Bool, true, false, not, ◌==◌, List, [], ◌∷◌, length, drop, slice_get, Option, Some, None, Result, Ok, Err, arith}
use Rattle.std.specs.Prelude.{if◌then◌else◌, option_map, option_and_then, codes, position}
use Rattle.std.specs.Str.{bytes_eq}
use Rattle.std.specs.Cmp.Lexicographic.{bytes_decides}
use Rattle.std.proofs.lemmas.Bool.Decides.{nat_tests}
use Rattle.csv.specs.Records.{field_at}
use Rattle.column_types.specs.declared.kind.Kind.TheVariants as kind
use Rattle.column_types.specs.declared.value.Value.{Value}
use Rattle.column_types.specs.declared.value.Value.TheVariants.{Null, Integer, Long, Boolean, Text, Date}
use Rattle.column_types.specs.Reading.{read_value}
use Rattle.graph_schema.specs.declared.schema.Prop.{Prop}
use Rattle.graph_schema.specs.declared.schema.VertexTable.{VertexTable}
use Rattle.graph_schema.specs.declared.schema.EdgeTable.{EdgeTable}
use Rattle.graph_schema.specs.Schema.{SchemaData, IsSchema}
use Rattle.graph_schema.proofs.Sound.{made}
use Rattle.graph_model.specs.Graph.{vertex_props_at, edge_props_at, vertex_table_props, edge_table_props}
use Rattle.graph_model.specs.declared.change.Change.{Change}
use Rattle.graph_model.specs.declared.change.Change.TheVariants.{InsertVertex, DeleteVertex, InsertEdge, DeleteEdge, SetVertex, SetEdge}
use Rattle.graph_model.proofs.Rows.{got}
use Rattle.change_feed.specs.declared.fault.RowCause.{RowCause}
use Rattle.change_feed.specs.declared.fault.RowCause.TheVariants as cause
use Rattle.change_feed.specs.declared.verb.Verb.{Verb}
use Rattle.change_feed.specs.declared.verb.Verb.TheVariants as verb
use Rattle.change_feed.specs.declared.setting.Setting.{Setting}
use Rattle.change_feed.specs.Fault.{◌>>=◌}
use Rattle.csv_records.specs.Texts.{are_texts}
use Rattle.change_feed.specs.Row.{or_cause, texts_checked, verb_of, verb_at, is_vertex_table, is_edge_table, table_named, table_at, props_of, fields_due, count_checked, value_at, long_in, key_at, values_of, values_from, is_prop, prop_at, value_of_prop, setting_of, inserted_vertex, inserted_edge, change_in, change_of}
use Rattle.change_feed.specs.Law.{WritesKey, InsertsVertex, DeletesVertex, InsertsEdge, DeletesEdge, SetsVertex, SetsEdge, Writes, IsRow, RowsWriteChanges}
use Rattle.change_feed.proofs.Named.{position_is, found_by_name}

-- ---- steps one after another

chain : {A B : Type 0} (r : Result A RowCause) (f : A → Result B RowCause) (x : B) → (r >>= f) ≡ Ok x → (a : A) × (r ≡ Ok a) × (f a ≡ Ok x)
chain (Err e) f x h = cc
chain (Ok a) f x h = (a, refl, h)

link : {A B : Type 0} (r : Result A RowCause) (f : A → Result B RowCause) (a : A) (x : B) → r ≡ Ok a → f a ≡ Ok x → (r >>= f) ≡ Ok x
link r f a x e h = ap (λ q. q >>= f) e ∙ h

known : {A : Type 0} (why : RowCause) (o : Option A) (x : A) → or_cause why o ≡ Ok x → o ≡ Some x
known why None x e = cc
known why (Some y) x e = cc

of_some : {A B : Type 0} (f : A → Option B) (o : Option A) (y : B) → option_and_then f o ≡ Some y → (x : A) × (o ≡ Some x) × (f x ≡ Some y)
of_some f None y e = cc
of_some f (Some x) y e = (x, refl, e)

same_change : (c d : Change) → ◌≡◌ {A = Result Change RowCause} (Ok c) (Ok d) → c ≡ d
same_change c d e = cc

same_count : (a b : ℕ) → a ≡ b → (a == b) ≡ true
same_count a b e = grind (arith, nat_tests, e)

count_is : (a b : ℕ) → (a == b) ≡ true → a ≡ b
count_is a b e = grind (arith, nat_tests, e)

nil_of : {A : Type 0} (xs : List A) → length xs ≡ 0 → xs ≡ []
nil_of [] e = refl
nil_of (x ∷ xs) e = absurd (omega (arith, e))

-- ---- the words

abbrev word : Verb → List ℕ
word verb.InsertVertex = codes "iv"
word verb.DeleteVertex = codes "dv"
word verb.InsertEdge = codes "ie"
word verb.DeleteEdge = codes "de"
word verb.SetVertex = codes "sv"
word verb.SetEdge = codes "se"

same_verb : (x v : Verb) → Some x ≡ Some v → x ≡ v
same_verb x v e = cc

pick : (w : List ℕ) (x v : Verb) (o : Option Verb) (b : Bool) → bytes_eq w (word x) ≡ b → (if b then Some x else o) ≡ Some v → (o ≡ Some v → w ≡ word v) → w ≡ word v
pick w x v o true is e later = (bytes_decides w (word x)).0 is ∙ ap word (same_verb x v e)
pick w x v o false is e later = later e

no_verb : (w : List ℕ) (v : Verb) → ◌≡◌ {A = Option Verb} None (Some v) → w ≡ word v
no_verb w v e = cc

word_is : (w : List ℕ) (v : Verb) → verb_of w ≡ Some v → w ≡ word v
word_is w v e =
    pick w verb.InsertVertex v _ (bytes_eq w (codes "iv")) refl e
    (λ f. pick w verb.DeleteVertex v _ (bytes_eq w (codes "dv")) refl f
    (λ g. pick w verb.InsertEdge v _ (bytes_eq w (codes "ie")) refl g
    (λ h. pick w verb.DeleteEdge v _ (bytes_eq w (codes "de")) refl h
    (λ i. pick w verb.SetVertex v _ (bytes_eq w (codes "sv")) refl i
    (λ j. pick w verb.SetEdge v _ (bytes_eq w (codes "se")) refl j (no_verb w v))))))

verb_of_word : (v : Verb) → verb_of (word v) ≡ Some v
verb_of_word verb.InsertVertex = refl
verb_of_word verb.DeleteVertex = refl
verb_of_word verb.InsertEdge = refl
verb_of_word verb.DeleteEdge = refl
verb_of_word verb.SetVertex = refl
verb_of_word verb.SetEdge = refl

-- ---- keys and values

is_long : (v : Value) (k : ℤ) → long_in v ≡ Some k → v ≡ Long k
is_long Null k e = cc
is_long (Integer n) k e = cc
is_long (Long n) k e = cc
is_long (Boolean b) k e = cc
is_long (Text bs) k e = cc
is_long (Date d) k e = cc

record KeyAt (fields : List (List ℕ)) (place : ℕ) (k : ℤ) : Type 0 where
  field : List ℕ
  at : field_at fields place ≡ Some field
  writes : WritesKey field k

key_is : (fields : List (List ℕ)) (place : ℕ) (k : ℤ) → key_at fields place ≡ Ok k → KeyAt fields place k
unfolding key_at value_at
key_is fields place k e =
    let a = chain (or_cause cause.Field (option_and_then (read_value kind.Long) (field_at fields place))) (λ v. or_cause cause.Field (long_in v)) k e in
    let b = of_some (read_value kind.Long) (field_at fields place) a.0 (known cause.Field (option_and_then (read_value kind.Long) (field_at fields place)) a.0 a.1) in
    record { field = b.0; at = b.1; writes = b.2 ∙ ap (λ v. Some v) (is_long a.0 k (known cause.Field (long_in a.0) k a.2)) }

key_written : (fields : List (List ℕ)) (place : ℕ) (f : List ℕ) (k : ℤ) → field_at fields place ≡ Some f → WritesKey f k → key_at fields place ≡ Ok k
unfolding key_at value_at
key_written fields place f k at writes =
    link (or_cause cause.Field (option_and_then (read_value kind.Long) (field_at fields place))) (λ v. or_cause cause.Field (long_in v)) (Long k) k
    (ap (λ o. or_cause cause.Field (option_and_then (read_value kind.Long) o)) at ∙ ap (or_cause cause.Field) writes) refl

mapped : (v : Value) (o : Option (List Value)) (vs : List Value) → option_map (λ ws. v ∷ ws) o ≡ Some vs → (ws : List Value) × (o ≡ Some ws) × (v ∷ ws ≡ vs)
mapped v None vs e = cc
mapped v (Some ws) vs e = (ws, refl, cc)

-- there is a field for each property
fields_of_values : (props : List Prop) (fields : List (List ℕ)) (vs : List Value) → values_of props fields ≡ Some vs → length fields ≡ length props
unfolding values_of
fields_of_values [] [] vs e = refl
fields_of_values [] (f ∷ fs) vs e = cc
fields_of_values (p ∷ ps) [] vs e = cc
fields_of_values (p ∷ ps) (f ∷ fs) vs e =
    let a = of_some (λ v. option_map (λ ws. v ∷ ws) (values_of ps fs)) (read_value p.kind f) vs e in
    let b = mapped a.0 (values_of ps fs) vs a.2 in
    omega (arith, fields_of_values ps fs b.0 b.1)

-- ---- the parts of a row

record Parts (s : SchemaData) (fields : List (List ℕ)) (c : Change) (v : Verb) (t : ℕ) : Type 0 where
  texts : are_texts fields ≡ true
  first : field_at fields 0 ≡ Some (word v)
  name : List ℕ
  second : field_at fields 1 ≡ Some name
  named : table_named s v name ≡ Some t
  count : length fields ≡ fields_due v (length (props_of s v t))
  change : change_in v t (props_of s v t) fields ≡ Ok c

texts_are : (b : Bool) (u : Unit {0}) → ◌≡◌ {A = Result (Unit {0}) RowCause} (if not b then Err cause.Utf8 else Ok tt) (Ok u) → b ≡ true
texts_are true u e = refl
texts_are false u e = cc

count_holds : (b : Bool) (u : Unit {0}) → ◌≡◌ {A = Result (Unit {0}) RowCause} (if not b then Err cause.Count else Ok tt) (Ok u) → b ≡ true
count_holds true u e = refl
count_holds false u e = cc

parts_of : (s : SchemaData) (fields : List (List ℕ)) (c : Change) → change_of s fields ≡ Ok c → (v : Verb) × (t : ℕ) × Parts s fields c v t
unfolding change_of texts_checked verb_at table_at count_checked
parts_of s fields c e =
    let a = chain (texts_checked fields) _ c e in
    let w = chain (verb_at fields) _ c a.2 in
    let first = of_some verb_of (field_at fields 0) w.0 (known cause.Word (option_and_then verb_of (field_at fields 0)) w.0 w.1) in
    let n = chain (table_at s w.0 fields) _ c w.2 in
    let second = of_some (table_named s w.0) (field_at fields 1) n.0 (known cause.Table (option_and_then (table_named s w.0) (field_at fields 1)) n.0 n.1) in
    let m = chain (count_checked w.0 (length (props_of s w.0 n.0)) fields) _ c n.2 in (
      w.0,
      n.0,
      record {
        texts = texts_are (are_texts fields) a.0 a.1;
        first = first.1 ∙ ap (λ x. Some x) (word_is first.0 w.0 first.2);
        name = second.0;
        second = second.1;
        named = second.2;
        count = count_is (length fields) (fields_due w.0 (length (props_of s w.0 n.0))) (count_holds (length fields == fields_due w.0 (length (props_of s w.0 n.0))) m.0 m.1);
        change = m.2;
      },
    )

texts_hold : (b : Bool) → b ≡ true → ◌≡◌ {A = Result (Unit {0}) RowCause} (if not b then Err cause.Utf8 else Ok tt) (Ok tt)
texts_hold true e = refl
texts_hold false e = cc

count_fits : (b : Bool) → b ≡ true → ◌≡◌ {A = Result (Unit {0}) RowCause} (if not b then Err cause.Count else Ok tt) (Ok tt)
count_fits true e = refl
count_fits false e = cc

of_parts : (s : SchemaData) (fields : List (List ℕ)) (c : Change) (v : Verb) (t : ℕ) → Parts s fields c v t → change_of s fields ≡ Ok c
unfolding change_of texts_checked verb_at table_at count_checked
of_parts s fields c v t p =
    link (texts_checked fields) _ tt c (texts_hold (are_texts fields) p.texts)
    (link (verb_at fields) _ v c (ap (λ o. or_cause cause.Word (option_and_then verb_of o)) p.first ∙ ap (or_cause cause.Word) (verb_of_word v))
    (link (table_at s v fields) _ t c (ap (λ o. or_cause cause.Table (option_and_then (table_named s v) o)) p.second ∙ ap (or_cause cause.Table) p.named)
    (link (count_checked v (length (props_of s v t)) fields) _ tt c (count_fits (length fields == fields_due v (length (props_of s v t))) (same_count _ _ p.count)) p.change)))

-- ---- fields one by one

three_by : (fields : List (List ℕ)) (a b c : List ℕ) → field_at fields 0 ≡ Some a → field_at fields 1 ≡ Some b → field_at fields 2 ≡ Some c → (rest : List (List ℕ)) × (fields ≡ a ∷ b ∷ c ∷ rest)
unfolding field_at
three_by [] a b c p q r = cc
three_by (x ∷ []) a b c p q r = cc
three_by (x ∷ y ∷ []) a b c p q r = cc
three_by (x ∷ y ∷ z ∷ rest) a b c p q r = (rest, cc)

five_by : (fields : List (List ℕ)) (a b c d e : List ℕ) → field_at fields 0 ≡ Some a → field_at fields 1 ≡ Some b → field_at fields 2 ≡ Some c → field_at fields 3 ≡ Some d → field_at fields 4 ≡ Some e → (rest : List (List ℕ)) × (fields ≡ a ∷ b ∷ c ∷ d ∷ e ∷ rest)
unfolding field_at
five_by [] a b c d e p q r s t = cc
five_by (v ∷ []) a b c d e p q r s t = cc
five_by (v ∷ w ∷ []) a b c d e p q r s t = cc
five_by (v ∷ w ∷ x ∷ []) a b c d e p q r s t = cc
five_by (v ∷ w ∷ x ∷ y ∷ []) a b c d e p q r s t = cc
five_by (v ∷ w ∷ x ∷ y ∷ z ∷ rest) a b c d e p q r s t = (rest, cc)

-- fields with their first and second named as they are written
named_as : (fields rest : List (List ℕ)) (w name other key : List ℕ) → fields ≡ w ∷ name ∷ key ∷ rest → other ≡ name → fields ≡ w ∷ other ∷ key ∷ rest
named_as fields rest w name other key e same = e ∙ ap (λ n. w ∷ n ∷ key ∷ rest) (sym same)

-- ---- tables

vertex_there : (s : SchemaData) (t : ℕ) (name : List ℕ) → position (is_vertex_table name) s.vertices ≡ Some t → (x : VertexTable) × (slice_get s.vertices t ≡ Some x) × (x.name ≡ name)
vertex_there s t name e =
    let q = position_is (is_vertex_table name) s.vertices t e in
    (q.0, q.1, (bytes_decides q.0.name name).0 q.2)

edge_there : (s : SchemaData) (t : ℕ) (name : List ℕ) → position (is_edge_table name) s.edges ≡ Some t → (x : EdgeTable) × (slice_get s.edges t ≡ Some x) × (x.name ≡ name)
edge_there s t name e =
    let q = position_is (is_edge_table name) s.edges t e in
    (q.0, q.1, (bytes_decides q.0.name name).0 q.2)

vertex_found : (s : SchemaData) (t : ℕ) (x : VertexTable) → IsSchema s → slice_get s.vertices t ≡ Some x → position (is_vertex_table x.name) s.vertices ≡ Some t
vertex_found s t x is at = found_by_name (λ (y : VertexTable). y.name) s.vertices t x (made s is).vertices.names at

edge_found : (s : SchemaData) (t : ℕ) (x : EdgeTable) → IsSchema s → slice_get s.edges t ≡ Some x → position (is_edge_table x.name) s.edges ≡ Some t
edge_found s t x is at = found_by_name (λ (y : EdgeTable). y.name) s.edges t x (made s is).edges.names at

vertex_prop_found : (s : SchemaData) (t : ℕ) (x : VertexTable) (p : ℕ) (q : Prop) → IsSchema s → slice_get s.vertices t ≡ Some x → slice_get x.props p ≡ Some q → position (is_prop q.name) x.props ≡ Some p
vertex_prop_found s t x p q is at here =
    let seat = got s.vertices t x x at in
    let differ = (made s is).vertices.prop_names t x seat.0 in
    found_by_name (λ (y : Prop). y.name) x.props p q (rw seat.1 at differ) here

edge_prop_found : (s : SchemaData) (t : ℕ) (x : EdgeTable) (p : ℕ) (q : Prop) → IsSchema s → slice_get s.edges t ≡ Some x → slice_get x.props p ≡ Some q → position (is_prop q.name) x.props ≡ Some p
edge_prop_found s t x p q is at here =
    let seat = got s.edges t x x at in
    let differ = (made s is).edges.prop_names t x seat.0 in
    found_by_name (λ (y : Prop). y.name) x.props p q (rw seat.1 at differ) here

-- ---- settings

record SettingAt (props : List Prop) (fields : List (List ℕ)) (set : Setting) : Type 0 where
  prop : Prop
  name : List ℕ
  at_name : field_at fields 3 ≡ Some name
  has_prop : slice_get props set.prop ≡ Some prop
  is_named : prop.name ≡ name
  key : KeyAt fields 2 set.key
  value : List ℕ
  at_value : field_at fields 4 ≡ Some value
  writes : read_value prop.kind value ≡ Some set.value

set_value : (o : Option Prop) (q : Prop) (fields : List (List ℕ)) (v : Value) → o ≡ Some q → value_of_prop o fields ≡ Ok v → (f : List ℕ) × (field_at fields 4 ≡ Some f) × (read_value q.kind f ≡ Some v)
unfolding value_at
set_value None q fields v same e = cc
set_value (Some r) q fields v same e =
    let is : r ≡ q = cc (same) in
    let b = of_some (read_value r.kind) (field_at fields 4) v (known cause.Field (option_and_then (read_value r.kind) (field_at fields 4)) v e) in
    (b.0, b.1, ap (λ (x : Prop). read_value x.kind b.0) (sym is) ∙ b.2)

same_setting : (a b : Setting) → ◌≡◌ {A = Result Setting RowCause} (Ok a) (Ok b) → a ≡ b
same_setting a b e = cc

setting_is : (props : List Prop) (fields : List (List ℕ)) (set : Setting) → setting_of props fields ≡ Ok set → SettingAt props fields set
unfolding setting_of prop_at
setting_is props fields set e =
    let a = chain (prop_at props fields) _ set e in
    let name = of_some (λ n. position (is_prop n) props) (field_at fields 3) a.0 (known cause.Prop (option_and_then (λ n. position (is_prop n) props) (field_at fields 3)) a.0 a.1) in
    let found = position_is (is_prop name.0) props a.0 name.2 in
    let k = chain (key_at fields 2) _ set a.2 in
    let v = chain (value_of_prop (slice_get props a.0) fields) _ set k.2 in
    let value = set_value (slice_get props a.0) found.0 fields v.0 found.1 v.1 in
    subst (SettingAt props fields) (same_setting (record { key = k.0; prop = a.0; value = v.0 }) set v.2)
    (record {
      prop = found.0;
      name = name.0;
      at_name = name.1;
      has_prop = found.1;
      is_named = (bytes_decides found.0.name name.0).0 found.2;
      key = key_is fields 2 k.0 k.1;
      value = value.0;
      at_value = value.1;
      writes = value.2;
    })

setting_written : (props : List Prop) (fields : List (List ℕ)) (k : ℤ) (p : ℕ) (v : Value) (q : Prop) (key value : List ℕ)
    → field_at fields 2 ≡ Some key → field_at fields 3 ≡ Some q.name → field_at fields 4 ≡ Some value
    → position (is_prop q.name) props ≡ Some p → slice_get props p ≡ Some q → WritesKey key k → read_value q.kind value ≡ Some v
    → setting_of props fields ≡ Ok (record { key = k; prop = p; value = v })
unfolding setting_of prop_at value_at
setting_written props fields k p v q key value at_key at_name at_value found has writes_key writes_value =
    let made : Setting = record { key = k; prop = p; value = v } in
    let a : prop_at props fields ≡ Ok p = ap (λ o. or_cause cause.Prop (option_and_then (λ n. position (is_prop n) props) o)) at_name ∙ ap (or_cause cause.Prop) found in
    let b : value_of_prop (slice_get props p) fields ≡ Ok v =
    ap (λ o. value_of_prop o fields) has ∙ (ap (λ o. or_cause cause.Field (option_and_then (read_value q.kind) o)) at_value ∙ ap (or_cause cause.Field) writes_value) in
    link (prop_at props fields) _ p made a (link (key_at fields 2) _ k made (key_written fields 2 key k at_key writes_key) (link (value_of_prop (slice_get props p) fields) _ v made b refl))

-- ---- what is read is written

iv_written : (s : SchemaData) (fields : List (List ℕ)) (c : Change) (t : ℕ) → Parts s fields c verb.InsertVertex t → Writes s fields c
unfolding change_in inserted_vertex values_from
iv_written s fields c t p =
    let props = vertex_props_at s t in
    let x = vertex_there s t p.name p.named in
    let k = chain (key_at fields 2) _ c p.change in
    let vs = chain (values_from props fields 3) _ c k.2 in
    let key = key_is fields 2 k.0 k.1 in
    let shape = three_by fields (codes "iv") p.name key.field p.first p.second key.at in
    let wide : values_of props (drop 3 fields) ≡ Some vs.0 = known cause.Field (values_of props (drop 3 fields)) vs.0 vs.1 in
    let rest : drop 3 fields ≡ shape.0 = ap (drop 3) shape.1 in
    let own : props ≡ x.0.props = ap vertex_table_props x.1 in
    let row : InsertsVertex s fields t k.0 vs.0 = record {
      table = x.0;
      there = x.1;
      key = key.field;
      values = shape.0;
      spelled = named_as fields shape.0 (codes "iv") p.name x.0.name key.field shape.1 x.2;
      writes_key = key.writes;
      write_values = ap (λ fs. values_of x.0.props fs) (sym rest) ∙ ap (λ ps. values_of ps (drop 3 fields)) (sym own) ∙ wide;
    } in
    subst (Writes s fields) (same_change (InsertVertex t k.0 vs.0) c vs.2) row

dv_written : (s : SchemaData) (fields : List (List ℕ)) (c : Change) (t : ℕ) → Parts s fields c verb.DeleteVertex t → Writes s fields c
unfolding change_in
dv_written s fields c t p =
    let x = vertex_there s t p.name p.named in
    let k = chain (key_at fields 2) _ c p.change in
    let key = key_is fields 2 k.0 k.1 in
    let shape = three_by fields (codes "dv") p.name key.field p.first p.second key.at in
    let three : length fields ≡ 3 = p.count in
    let none : shape.0 ≡ [] = nil_of shape.0 (omega (arith, ap length shape.1, three)) in
    let row : DeletesVertex s fields t k.0 = record {
      table = x.0;
      there = x.1;
      key = key.field;
      spelled = named_as fields [] (codes "dv") p.name x.0.name key.field (shape.1 ∙ ap (λ r. codes "dv" ∷ p.name ∷ key.field ∷ r) none) x.2;
      writes_key = key.writes;
    } in
    subst (Writes s fields) (same_change (DeleteVertex t k.0) c k.2) row

ie_written : (s : SchemaData) (fields : List (List ℕ)) (c : Change) (t : ℕ) → Parts s fields c verb.InsertEdge t → Writes s fields c
unfolding change_in inserted_edge values_from
ie_written s fields c t p =
    let props = edge_props_at s t in
    let x = edge_there s t p.name p.named in
    let k = chain (key_at fields 2) _ c p.change in
    let f = chain (key_at fields 3) _ c k.2 in
    let d = chain (key_at fields 4) _ c f.2 in
    let vs = chain (values_from props fields 5) _ c d.2 in
    let key = key_is fields 2 k.0 k.1 in
    let from = key_is fields 3 f.0 f.1 in
    let to = key_is fields 4 d.0 d.1 in
    let shape = five_by fields (codes "ie") p.name key.field from.field to.field p.first p.second key.at from.at to.at in
    let wide : values_of props (drop 5 fields) ≡ Some vs.0 = known cause.Field (values_of props (drop 5 fields)) vs.0 vs.1 in
    let rest : drop 5 fields ≡ shape.0 = ap (drop 5) shape.1 in
    let own : props ≡ x.0.props = ap edge_table_props x.1 in
    let row : InsertsEdge s fields t k.0 f.0 d.0 vs.0 = record {
      table = x.0;
      there = x.1;
      key = key.field;
      source = from.field;
      destination = to.field;
      values = shape.0;
      spelled = named_as fields (from.field ∷ to.field ∷ shape.0) (codes "ie") p.name x.0.name key.field shape.1 x.2;
      writes_key = key.writes;
      writes_source = from.writes;
      writes_destination = to.writes;
      write_values = ap (λ fs. values_of x.0.props fs) (sym rest) ∙ ap (λ ps. values_of ps (drop 5 fields)) (sym own) ∙ wide;
    } in
    subst (Writes s fields) (same_change (InsertEdge t k.0 f.0 d.0 vs.0) c vs.2) row

de_written : (s : SchemaData) (fields : List (List ℕ)) (c : Change) (t : ℕ) → Parts s fields c verb.DeleteEdge t → Writes s fields c
unfolding change_in
de_written s fields c t p =
    let x = edge_there s t p.name p.named in
    let k = chain (key_at fields 2) _ c p.change in
    let key = key_is fields 2 k.0 k.1 in
    let shape = three_by fields (codes "de") p.name key.field p.first p.second key.at in
    let three : length fields ≡ 3 = p.count in
    let none : shape.0 ≡ [] = nil_of shape.0 (omega (arith, ap length shape.1, three)) in
    let row : DeletesEdge s fields t k.0 = record {
      table = x.0;
      there = x.1;
      key = key.field;
      spelled = named_as fields [] (codes "de") p.name x.0.name key.field (shape.1 ∙ ap (λ r. codes "de" ∷ p.name ∷ key.field ∷ r) none) x.2;
      writes_key = key.writes;
    } in
    subst (Writes s fields) (same_change (DeleteEdge t k.0) c k.2) row

-- the five fields of a row that sets a value
set_fields : (fields : List (List ℕ)) (w name other key prop prop_name value : List ℕ) → length fields ≡ 5
    → field_at fields 0 ≡ Some w → field_at fields 1 ≡ Some name → field_at fields 2 ≡ Some key → field_at fields 3 ≡ Some prop → field_at fields 4 ≡ Some value
    → other ≡ name → prop_name ≡ prop → fields ≡ w ∷ other ∷ key ∷ prop_name ∷ value ∷ []
set_fields fields w name other key prop prop_name value five first second third at_prop at_value same same_prop =
    let shape = five_by fields w name key prop value first second third at_prop at_value in
    let none : shape.0 ≡ [] = nil_of shape.0 (omega (arith, ap length shape.1, five)) in
    let told : fields ≡ w ∷ name ∷ key ∷ prop ∷ value ∷ [] = shape.1 ∙ ap (λ r. w ∷ name ∷ key ∷ prop ∷ value ∷ r) none in
    let named : fields ≡ w ∷ other ∷ key ∷ prop ∷ value ∷ [] = told ∙ ap (λ n. w ∷ n ∷ key ∷ prop ∷ value ∷ []) (sym same) in
    named ∙ ap (λ n. w ∷ other ∷ key ∷ n ∷ value ∷ []) (sym same_prop)

sv_written : (s : SchemaData) (fields : List (List ℕ)) (c : Change) (t : ℕ) → Parts s fields c verb.SetVertex t → Writes s fields c
unfolding change_in
sv_written s fields c t p =
    let x = vertex_there s t p.name p.named in
    let set = chain (setting_of (vertex_props_at s t) fields) _ c p.change in
    let at = setting_is (vertex_props_at s t) fields set.0 set.1 in
    let own : vertex_props_at s t ≡ x.0.props = ap vertex_table_props x.1 in
    let row : SetsVertex s fields t set.0.key set.0.prop set.0.value = record {
      table = x.0;
      there = x.1;
      prop = at.prop;
      has_prop = ap (λ ps. slice_get ps set.0.prop) (sym own) ∙ at.has_prop;
      key = at.key.field;
      value = at.value;
      spelled = set_fields fields (codes "sv") p.name x.0.name at.key.field at.name at.prop.name at.value p.count p.first p.second at.key.at at.at_name at.at_value x.2 at.is_named;
      writes_key = at.key.writes;
      writes_value = at.writes;
    } in
    subst (Writes s fields) (same_change (SetVertex t set.0.key set.0.prop set.0.value) c set.2) row

se_written : (s : SchemaData) (fields : List (List ℕ)) (c : Change) (t : ℕ) → Parts s fields c verb.SetEdge t → Writes s fields c
unfolding change_in
se_written s fields c t p =
    let x = edge_there s t p.name p.named in
    let set = chain (setting_of (edge_props_at s t) fields) _ c p.change in
    let at = setting_is (edge_props_at s t) fields set.0 set.1 in
    let own : edge_props_at s t ≡ x.0.props = ap edge_table_props x.1 in
    let row : SetsEdge s fields t set.0.key set.0.prop set.0.value = record {
      table = x.0;
      there = x.1;
      prop = at.prop;
      has_prop = ap (λ ps. slice_get ps set.0.prop) (sym own) ∙ at.has_prop;
      key = at.key.field;
      value = at.value;
      spelled = set_fields fields (codes "se") p.name x.0.name at.key.field at.name at.prop.name at.value p.count p.first p.second at.key.at at.at_name at.at_value x.2 at.is_named;
      writes_key = at.key.writes;
      writes_value = at.writes;
    } in
    subst (Writes s fields) (same_change (SetEdge t set.0.key set.0.prop set.0.value) c set.2) row

by_verb : (s : SchemaData) (fields : List (List ℕ)) (c : Change) (v : Verb) (t : ℕ) → Parts s fields c v t → Writes s fields c
by_verb s fields c verb.InsertVertex t p = iv_written s fields c t p
by_verb s fields c verb.DeleteVertex t p = dv_written s fields c t p
by_verb s fields c verb.InsertEdge t p = ie_written s fields c t p
by_verb s fields c verb.DeleteEdge t p = de_written s fields c t p
by_verb s fields c verb.SetVertex t p = sv_written s fields c t p
by_verb s fields c verb.SetEdge t p = se_written s fields c t p

pub row_written : (s : SchemaData) (fields : List (List ℕ)) (c : Change) → change_of s fields ≡ Ok c → IsRow s fields c
row_written s fields c e =
    let p = parts_of s fields c e in
    (p.2.texts, by_verb s fields c p.0 p.1 p.2)

-- ---- what is written is read

iv_read : (s : SchemaData) (fields : List (List ℕ)) (t : ℕ) (k : ℤ) (vs : List Value) → IsSchema s → are_texts fields ≡ true → InsertsVertex s fields t k vs → change_of s fields ≡ Ok (InsertVertex t k vs)
unfolding field_at change_in inserted_vertex values_from
iv_read s fields t k vs is texts r =
    let own : vertex_props_at s t ≡ r.table.props = ap vertex_table_props r.there in
    let count : length fields ≡ length (vertex_props_at s t) + 3 = omega (arith, ap length r.spelled, fields_of_values r.table.props r.values vs r.write_values, ap length own) in
    let values : values_from (vertex_props_at s t) fields 3 ≡ Ok vs =
    ap (λ fs. or_cause cause.Field (values_of (vertex_props_at s t) (drop 3 fs))) r.spelled
    ∙ ap (λ ps. or_cause cause.Field (values_of ps r.values)) own
    ∙ ap (or_cause cause.Field) r.write_values in
    of_parts s fields (InsertVertex t k vs) verb.InsertVertex t (record {
      texts = texts;
      first = ap (λ fs. field_at fs 0) r.spelled;
      name = r.table.name;
      second = ap (λ fs. field_at fs 1) r.spelled;
      named = vertex_found s t r.table is r.there;
      count = count;
      change = link (key_at fields 2) _ k (InsertVertex t k vs) (key_written fields 2 r.key k (ap (λ fs. field_at fs 2) r.spelled) r.writes_key)
          (link (values_from (vertex_props_at s t) fields 3) _ vs (InsertVertex t k vs) values refl);
    })

dv_read : (s : SchemaData) (fields : List (List ℕ)) (t : ℕ) (k : ℤ) → IsSchema s → are_texts fields ≡ true → DeletesVertex s fields t k → change_of s fields ≡ Ok (DeleteVertex t k)
unfolding field_at change_in
dv_read s fields t k is texts r =
    of_parts s fields (DeleteVertex t k) verb.DeleteVertex t (record {
      texts = texts;
      first = ap (λ fs. field_at fs 0) r.spelled;
      name = r.table.name;
      second = ap (λ fs. field_at fs 1) r.spelled;
      named = vertex_found s t r.table is r.there;
      count = ap length r.spelled;
      change = link (key_at fields 2) _ k (DeleteVertex t k) (key_written fields 2 r.key k (ap (λ fs. field_at fs 2) r.spelled) r.writes_key) refl;
    })

ie_read : (s : SchemaData) (fields : List (List ℕ)) (t : ℕ) (k from to : ℤ) (vs : List Value) → IsSchema s → are_texts fields ≡ true → InsertsEdge s fields t k from to vs → change_of s fields ≡ Ok (InsertEdge t k from to vs)
unfolding field_at change_in inserted_edge values_from
ie_read s fields t k from to vs is texts r =
    let made = InsertEdge t k from to vs in
    let own : edge_props_at s t ≡ r.table.props = ap edge_table_props r.there in
    let count : length fields ≡ length (edge_props_at s t) + 5 = omega (arith, ap length r.spelled, fields_of_values r.table.props r.values vs r.write_values, ap length own) in
    let values : values_from (edge_props_at s t) fields 5 ≡ Ok vs =
    ap (λ fs. or_cause cause.Field (values_of (edge_props_at s t) (drop 5 fs))) r.spelled
    ∙ ap (λ ps. or_cause cause.Field (values_of ps r.values)) own
    ∙ ap (or_cause cause.Field) r.write_values in
    of_parts s fields made verb.InsertEdge t (record {
      texts = texts;
      first = ap (λ fs. field_at fs 0) r.spelled;
      name = r.table.name;
      second = ap (λ fs. field_at fs 1) r.spelled;
      named = edge_found s t r.table is r.there;
      count = count;
      change = link (key_at fields 2) _ k made (key_written fields 2 r.key k (ap (λ fs. field_at fs 2) r.spelled) r.writes_key)
          (link (key_at fields 3) _ from made (key_written fields 3 r.source from (ap (λ fs. field_at fs 3) r.spelled) r.writes_source)
          (link (key_at fields 4) _ to made (key_written fields 4 r.destination to (ap (λ fs. field_at fs 4) r.spelled) r.writes_destination)
          (link (values_from (edge_props_at s t) fields 5) _ vs made values refl)));
    })

de_read : (s : SchemaData) (fields : List (List ℕ)) (t : ℕ) (k : ℤ) → IsSchema s → are_texts fields ≡ true → DeletesEdge s fields t k → change_of s fields ≡ Ok (DeleteEdge t k)
unfolding field_at change_in
de_read s fields t k is texts r =
    of_parts s fields (DeleteEdge t k) verb.DeleteEdge t (record {
      texts = texts;
      first = ap (λ fs. field_at fs 0) r.spelled;
      name = r.table.name;
      second = ap (λ fs. field_at fs 1) r.spelled;
      named = edge_found s t r.table is r.there;
      count = ap length r.spelled;
      change = link (key_at fields 2) _ k (DeleteEdge t k) (key_written fields 2 r.key k (ap (λ fs. field_at fs 2) r.spelled) r.writes_key) refl;
    })

sv_read : (s : SchemaData) (fields : List (List ℕ)) (t : ℕ) (k : ℤ) (p : ℕ) (v : Value) → IsSchema s → are_texts fields ≡ true → SetsVertex s fields t k p v → change_of s fields ≡ Ok (SetVertex t k p v)
unfolding field_at change_in
sv_read s fields t k p v is texts r =
    let own : r.table.props ≡ vertex_props_at s t = sym (ap vertex_table_props r.there) in
    let found = subst (λ ps. position (is_prop r.prop.name) ps ≡ Some p) own (vertex_prop_found s t r.table p r.prop is r.there r.has_prop) in
    let has = subst (λ ps. slice_get ps p ≡ Some r.prop) own r.has_prop in
    of_parts s fields (SetVertex t k p v) verb.SetVertex t (record {
      texts = texts;
      first = ap (λ fs. field_at fs 0) r.spelled;
      name = r.table.name;
      second = ap (λ fs. field_at fs 1) r.spelled;
      named = vertex_found s t r.table is r.there;
      count = ap length r.spelled;
      change = link (setting_of (vertex_props_at s t) fields) _ (record { key = k; prop = p; value = v }) (SetVertex t k p v)
          (setting_written (vertex_props_at s t) fields k p v r.prop r.key r.value (ap (λ fs. field_at fs 2) r.spelled) (ap (λ fs. field_at fs 3) r.spelled) (ap (λ fs. field_at fs 4) r.spelled) found has r.writes_key r.writes_value)
          refl;
    })

se_read : (s : SchemaData) (fields : List (List ℕ)) (t : ℕ) (k : ℤ) (p : ℕ) (v : Value) → IsSchema s → are_texts fields ≡ true → SetsEdge s fields t k p v → change_of s fields ≡ Ok (SetEdge t k p v)
unfolding field_at change_in
se_read s fields t k p v is texts r =
    let own : r.table.props ≡ edge_props_at s t = sym (ap edge_table_props r.there) in
    let found = subst (λ ps. position (is_prop r.prop.name) ps ≡ Some p) own (edge_prop_found s t r.table p r.prop is r.there r.has_prop) in
    let has = subst (λ ps. slice_get ps p ≡ Some r.prop) own r.has_prop in
    of_parts s fields (SetEdge t k p v) verb.SetEdge t (record {
      texts = texts;
      first = ap (λ fs. field_at fs 0) r.spelled;
      name = r.table.name;
      second = ap (λ fs. field_at fs 1) r.spelled;
      named = edge_found s t r.table is r.there;
      count = ap length r.spelled;
      change = link (setting_of (edge_props_at s t) fields) _ (record { key = k; prop = p; value = v }) (SetEdge t k p v)
          (setting_written (edge_props_at s t) fields k p v r.prop r.key r.value (ap (λ fs. field_at fs 2) r.spelled) (ap (λ fs. field_at fs 3) r.spelled) (ap (λ fs. field_at fs 4) r.spelled) found has r.writes_key r.writes_value)
          refl;
    })

pub row_read : (s : SchemaData) (fields : List (List ℕ)) (c : Change) → IsSchema s → IsRow s fields c → change_of s fields ≡ Ok c
row_read s fields (InsertVertex t k vs) is r = iv_read s fields t k vs is r.0 r.1
row_read s fields (DeleteVertex t k) is r = dv_read s fields t k is r.0 r.1
row_read s fields (InsertEdge t k from to vs) is r = ie_read s fields t k from to vs is r.0 r.1
row_read s fields (DeleteEdge t k) is r = de_read s fields t k is r.0 r.1
row_read s fields (SetVertex t k p v) is r = sv_read s fields t k p v is r.0 r.1
row_read s fields (SetEdge t k p v) is r = se_read s fields t k p v is r.0 r.1

pub rows_write : RowsWriteChanges
rows_write = λ s fields c is. (row_written s fields c, row_read s fields c is)
