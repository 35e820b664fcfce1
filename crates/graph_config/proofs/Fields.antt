-- The fields of a table or property are read exactly where the document states them.
use Rattle.std.proofs.Common.{◌≡◌, ◌∙◌, refl, ap, sym, subst, ℕ, suc, ◌+◌, ◌≤◌, Bool, true, false, IsTrue, inl, inr, List, [], ◌∷◌, ◌++◌, length, append_assoc, append-nil, Option, Some, None, Result, Ok, Err, codes, cond, arith}
use Rattle.std.specs.Prelude.{nat_lt}
use Rattle.std.specs.List.{AllZip}
use Rattle.std.specs.Cmp.Lexicographic.{bytes_decides}
use Rattle.std.proofs.lemmas.Bool.{ltb-false, le-ltb}
use Rattle.serde_json.specs.Data.{Data, string, array, Items}
use Rattle.serde_json.specs.Find.{get, as_str}
use Rattle.serde_json.specs.View.{items_of}
use Rattle.column_types.specs.declared.kind.Kind.{Kind}
use Rattle.column_types.specs.declared.kind.Kind.TheVariants as kind
use Rattle.graph_schema.specs.declared.schema.Prop.{Prop}
use Rattle.graph_schema.specs.Name.{is_name}
use Rattle.graph_config.specs.Fault.{Fault, ◌>>=◌, required, allowed}
use Rattle.graph_config.specs.Field.{field_path, item_path, same, is_file_name, kind_of, object_at, items_len, optional_list_at, string_at, name_at, file_at, kind_at}
use Rattle.graph_config.specs.Walk.{prop_at, props_from, props_at}
use Rattle.graph_config.specs.Document.{HasText, HasList, HasName, HasFile, kind_word, StatesProp, StatesProps}
use Rattle.graph_config.proofs.Steps.{bound_ok, the_same, allowed_ok, required_ok, string_is, has_field, list_of, items_back, list_length, items_length, object_reads, IsShort, list_ok, list_reads}

-- ---- texts

string_ok : (path field : List ℕ) (d : Data) (s : List ℕ) → string_at path field d ≡ Ok s → HasText field d s
unfolding string_at
string_ok path field d s h =
    let k = bound_ok (required (field_path path field) (get field d)) _ s h in
    required_ok (field_path path field) (get field d) k.0 k.1 ∙ ap Some (string_is k.0 s (allowed_ok (field_path path field) (as_str k.0) s k.2))

string_reads : (path field : List ℕ) (d : Data) (s : List ℕ) → HasText field d s → string_at path field d ≡ Ok s
unfolding string_at
string_reads path field d s h = rw h refl

passing_ok : (b : Bool) (text s : List ℕ) → cond b (Some text) None ≡ Some s → (text ≡ s) × (b ≡ true)
passing_ok true text s h = (cc, refl)
passing_ok false text s h = cc

passing_reads : (path : List ℕ) (b : Bool) (s : List ℕ) → b ≡ true → allowed path (cond b (Some s) None) ≡ Ok s
passing_reads path b s h = rw h refl

pub name_ok : (path field : List ℕ) (d : Data) (s : List ℕ) → name_at path field d ≡ Ok s → HasText field d s × IsTrue (is_name s)
unfolding name_at
name_ok path field d s h =
    let k = bound_ok (string_at path field d) _ s h in
    let t = passing_ok (is_name k.0) k.0 s (allowed_ok (field_path path field) _ s k.2) in
    (string_ok path field d k.0 k.1 ∙ ap (λ x. Some (string x)) t.0, subst (λ x. is_name x ≡ true) t.0 t.1)

pub name_reads : (path field : List ℕ) (d : Data) (s : List ℕ) → HasText field d s → IsTrue (is_name s) → name_at path field d ≡ Ok s
unfolding name_at
name_reads path field d s h k = rw (string_reads path field d s h) (passing_reads (field_path path field) (is_name s) s k)

pub file_ok : (path : List ℕ) (d : Data) (s : List ℕ) → file_at path (codes "file") d ≡ Ok s → HasFile d s
unfolding file_at
file_ok path d s h =
    let k = bound_ok (string_at path (codes "file") d) _ s h in
    let t = passing_ok (is_file_name k.0) k.0 s (allowed_ok (field_path path (codes "file")) _ s k.2) in
    record {
      text = string_ok path (codes "file") d k.0 k.1 ∙ ap (λ x. Some (string x)) t.0;
      valid = subst (λ x. is_file_name x ≡ true) t.0 t.1;
    }

pub file_reads : (path : List ℕ) (d : Data) (s : List ℕ) → HasFile d s → file_at path (codes "file") d ≡ Ok s
unfolding file_at
file_reads path d s h = rw (string_reads path (codes "file") d s h.text) (passing_reads (field_path path (codes "file")) (is_file_name s) s h.valid)

-- ---- kinds

by_tests : (w : List ℕ) (k : Kind) (a b c d e : Bool) → (a ≡ true → w ≡ codes "integer") → (b ≡ true → w ≡ codes "long") → (c ≡ true → w ≡ codes "boolean") → (d ≡ true → w ≡ codes "string") → (e ≡ true → w ≡ codes "local_date")
    → cond a (Some kind.Integer) (cond b (Some kind.Long) (cond c (Some kind.Boolean) (cond d (Some kind.Text) (cond e (Some kind.Date) None)))) ≡ Some k → w ≡ kind_word k
by_tests w k true b c d e f g i j l h = let s : kind.Integer ≡ k = cc in f refl ∙ ap kind_word s
by_tests w k false true c d e f g i j l h = let s : kind.Long ≡ k = cc in g refl ∙ ap kind_word s
by_tests w k false false true d e f g i j l h = let s : kind.Boolean ≡ k = cc in i refl ∙ ap kind_word s
by_tests w k false false false true e f g i j l h = let s : kind.Text ≡ k = cc in j refl ∙ ap kind_word s
by_tests w k false false false false true f g i j l h = let s : kind.Date ≡ k = cc in l refl ∙ ap kind_word s
by_tests w k false false false false false f g i j l h = cc

word_is : (w : List ℕ) (k : Kind) → kind_of w ≡ Some k → w ≡ kind_word k
word_is w k h =
    by_tests w k (same w (codes "integer")) (same w (codes "long")) (same w (codes "boolean")) (same w (codes "string")) (same w (codes "local_date"))
    ((bytes_decides w (codes "integer")).0) ((bytes_decides w (codes "long")).0) ((bytes_decides w (codes "boolean")).0) ((bytes_decides w (codes "string")).0) ((bytes_decides w (codes "local_date")).0) h

word_reads : (k : Kind) → kind_of (kind_word k) ≡ Some k
word_reads kind.Integer = refl
word_reads kind.Long = refl
word_reads kind.Boolean = refl
word_reads kind.Text = refl
word_reads kind.Date = refl

kind_ok : (path field : List ℕ) (d : Data) (k : Kind) → kind_at path field d ≡ Ok k → HasText field d (kind_word k)
unfolding kind_at
kind_ok path field d k h =
    let s = bound_ok (string_at path field d) _ k h in
    string_ok path field d s.0 s.1 ∙ ap (λ x. Some (string x)) (word_is s.0 k (allowed_ok (field_path path field) (kind_of s.0) k s.2))

kind_reads : (path field : List ℕ) (d : Data) (k : Kind) → HasText field d (kind_word k) → kind_at path field d ≡ Ok k
unfolding kind_at
kind_reads path field d k h = rw (string_reads path field d (kind_word k) h) (ap (allowed (field_path path field)) (word_reads k))

-- ---- properties

prop_ok : (path : List ℕ) (d : Data) (p : Prop) → prop_at path d ≡ Ok p → StatesProp d p
unfolding prop_at
prop_ok path d p h =
    let o = bound_ok (object_at path d) _ p h in
    let n = bound_ok (name_at path (codes "name") d) _ p o.2 in
    let k = bound_ok (kind_at path (codes "type") d) _ p n.2 in
    let name = name_ok path (codes "name") d n.0 n.1 in
    subst (StatesProp d) (the_same _ p _ refl k.2) (record { name = record { text = name.0; valid = name.1 }; kind = kind_ok path (codes "type") d k.0 k.1 })

prop_reads : (path : List ℕ) (d : Data) (p : Prop) → StatesProp d p → prop_at path d ≡ Ok p
unfolding prop_at
prop_reads path d p h =
    rw (object_reads path d (has_field (codes "name") d _ h.name.text), name_reads path (codes "name") d p.name h.name.text h.name.valid, kind_reads path (codes "type") d p.kind h.kind) refl

-- the properties that the items state, behind those so far
record PropsFrom (ps : List Prop) (es : List Data) (qs : List Prop) : Type 0 where
  more : List Prop
  grown : qs ≡ ps ++ more
  states : AllZip StatesProp es more

props_ok : (path : List ℕ) (ps : List Prop) (es : List Data) (qs : List Prop) → props_from path ps (items_of es) ≡ Ok qs → PropsFrom ps es qs
unfolding props_from
props_ok path ps [] qs h = record { more = []; grown = sym (the_same ps qs _ refl h) ∙ sym (append-nil ps); states = tt }
props_ok path ps (e ∷ es) qs h =
    let k = bound_ok (prop_at (item_path path (length ps)) e) _ qs h in
    let r = props_ok path (ps ++ k.0 ∷ []) es qs k.2 in
    record { more = k.0 ∷ r.more; grown = r.grown ∙ append_assoc ps (k.0 ∷ []) r.more; states = (prop_ok (item_path path (length ps)) e k.0 k.1, r.states) }

props_read : (path : List ℕ) (ps : List Prop) (es : List Data) (more : List Prop) → AllZip StatesProp es more → props_from path ps (items_of es) ≡ Ok (ps ++ more)
unfolding props_from
props_read path ps [] [] h = ap Ok (sym (append-nil ps))
props_read path ps [] (r ∷ rs) h = absurd h
props_read path ps (e ∷ es) [] h = absurd h
props_read path ps (e ∷ es) (r ∷ rs) h =
    rw (prop_reads (item_path path (length ps)) e r h.0) (props_read path (ps ++ r ∷ []) es rs h.1 ∙ ap Ok (append_assoc ps (r ∷ []) rs))

pub zip_length : {A B : Type 0} (R : A → B → Type 0) (xs : List A) (ys : List B) → AllZip R xs ys → length xs ≡ length ys
zip_length R [] [] h = refl
zip_length R [] (y ∷ ys) h = absurd h
zip_length R (x ∷ xs) [] h = absurd h
zip_length R (x ∷ xs) (y ∷ ys) h = ap suc (zip_length R xs ys h.1)

-- what is stated, and not too long
pub record FewProps (d : Data) (ps : List Prop) : Type 0 where
  pub states : StatesProps d ps
  pub few : length ps ≤ 64

by_option : (path : List ℕ) (d : Data) (o : Option Data) (ds : Items) (ps : List Prop) → get (codes "props") d ≡ o → optional_list_at path 64 o ≡ Ok ds → props_from path [] ds ≡ Ok ps → FewProps d ps
unfolding optional_list_at props_from
by_option path d None ds ps here h k =
    let none : ps ≡ [] = sym (the_same _ ps _ refl (subst (λ x. props_from path [] x ≡ Ok ps) (sym (the_same _ ds _ refl h)) k)) in
    record { states = inl (here, none); few = rw none (omega arith) }
by_option path d (Some v) ds ps here h k =
    let l = list_ok path 64 v ds h in
    let r = props_ok path [] (list_of ds) ps (subst (λ x. props_from path [] x ≡ Ok ps) (sym (items_back ds)) k) in
    let all = zip_length StatesProp (list_of ds) r.more r.states in
    record {
      states = inr (list_of ds, here ∙ ap Some (l.is ∙ ap array (sym (items_back ds))), subst (AllZip StatesProp (list_of ds)) (sym r.grown) r.states);
      few = omega (arith, ap length r.grown, all, list_length ds, ltb-false 64 (items_len ds) l.short);
    }

pub props_at_ok : (path : List ℕ) (d : Data) (ps : List Prop) → props_at path d ≡ Ok ps → FewProps d ps
unfolding props_at
props_at_ok path d ps h =
    let k = bound_ok (optional_list_at (field_path path (codes "props")) 64 (get (codes "props") d)) _ ps h in
    by_option (field_path path (codes "props")) d (get (codes "props") d) k.0 ps refl k.1 k.2

some_read : (path : List ℕ) (es : List Data) (ps : List Prop) → AllZip StatesProp es ps → length ps ≤ 64 → (optional_list_at path 64 (Some (array (items_of es))) >>= props_from path []) ≡ Ok ps
unfolding optional_list_at
some_read path es ps h few =
    let n : items_len (items_of es) ≤ 64 = omega (arith, items_length es, zip_length StatesProp es ps h) in
    rw (list_reads path 64 (items_of es) (le-ltb 64 (items_len (items_of es)) n)) (props_read path [] es ps h)

pub props_at_reads : (path : List ℕ) (d : Data) (ps : List Prop) → StatesProps d ps → length ps ≤ 64 → props_at path d ≡ Ok ps
unfolding props_at optional_list_at props_from
props_at_reads path d ps (inl h) few = rw h.0 (ap Ok (sym h.1))
props_at_reads path d ps (inr h) few = rw h.1 (some_read (field_path path (codes "props")) h.0 ps h.2 few)
