-- Checking a document against a form, place by place, finds the first fault.
use Rattle.std.proofs.Common.{◌≡◌, ◌∙◌, refl, ap, sym, subst, ℕ, zero, suc, ◌+◌, ◌<◌, inl, inr, Bool, true, false, ◌&&◌, List, [], ◌∷◌, length, Option, Some, None, Result, Ok, Err, cond, arith}
use Rattle.std.specs.Prelude.{is_some, nat_lt, ⊤}
use Rattle.std.specs.Cmp.Lexicographic.{bytes_decides}
use Rattle.serde_json.specs.Data.{Data, null, boolean, number, string, array, object, Items, no_items, item}
use Rattle.serde_json.specs.Find.{get, get_item, at, as_str, as_array, as_object}
use Rattle.graph_config.specs.Fault.{Fault, ◌>>=◌, allowed}
use Rattle.graph_config.specs.Field.{field_path, item_path, same, items_len, is_version, object_at, list_at}
use Rattle.graph_config.specs.Form.{Form, Fields, text, version, list, fields, no_more, field, Step, in_field, in_item, JsonPath, text_from, part, part_form, field_named, is_text, five_unless, list_fault, fault_here, is_end, part_fault, fault_at, field_place, step_place, places_in, places, IsBefore}
use Rattle.graph_config.proofs.Steps.{passes, sized, array_is}

-- ---- the check

-- the items in order, the first of which has this place
abbrev pub each : (ℕ → Data → Result (Unit {0}) Fault) → ℕ → Items → Result (Unit {0}) Fault
each check place no_items = Ok tt
each check place (item d ds) = check place d >>= (λ u. each check (place + 1) ds)

-- the value of a field, or 4 where it must be there
abbrev pub field_check : (Data → Result (Unit {0}) Fault) → Bool → List ℕ → Option Data → Result (Unit {0}) Fault
field_check check must path None = cond must (Err (4, path)) (Ok tt)
field_check check must path (Some d) = check d

abbrev mutual
  pub check : Form → List ℕ → Data → Result (Unit {0}) Fault
  check (text test) path d = passes (is_text test (as_str d)) path
  check version path d = passes (is_version d) path
  check (list most form) path d = list_at path most d >>= each (λ i. check form (item_path path i)) 0
  check (fields fs) path d = object_at path d >>= (λ u. fields_check fs (field_path path) d)

  pub fields_check : Fields → (List ℕ → List ℕ) → Data → Result (Unit {0}) Fault
  fields_check no_more path d = Ok tt
  fields_check (field name must form more) path d = field_check (check form (path name)) must (path name) (get name d) >>= (λ u. fields_check more path d)

-- ---- what is found

not_before_nil : (xs : List ℕ) → IsBefore xs [] → ⊥
not_before_nil [] h = h
not_before_nil (x ∷ xs) h = h

-- neither a number nor what stands behind it
tail_before : (i : ℕ) (xs ys : List ℕ) → IsBefore (i ∷ xs) (i ∷ ys) → IsBefore xs ys
tail_before i xs ys (inl h) = absurd (omega (arith, h))
tail_before i xs ys (inr h) = h.1

later_before : (i : ℕ) (xs ys : List ℕ) → IsBefore (suc i ∷ xs) (0 ∷ ys) → ⊥
later_before i xs ys (inl h) = omega (arith, h)
later_before i xs ys (inr h) = omega (arith, h.0)

less_before : (i j : ℕ) (xs ys : List ℕ) → IsBefore (suc i ∷ xs) (suc j ∷ ys) → IsBefore (i ∷ xs) (j ∷ ys)
less_before i j xs ys (inl h) = inl (omega (arith, h))
less_before i j xs ys (inr h) = inr (omega (arith, h.0), h.1)

-- the fault, its text told by that of the path, with no fault before it
pub record First (form : Form) (d : Data) (told : JsonPath → List ℕ) (fault : Fault) : Type 0 where
  pub path : JsonPath
  pub is : fault.1 ≡ told path
  pub here : fault_at path form d ≡ Some fault.0
  pub first : (other : JsonPath) (also : ℕ) → fault_at other form d ≡ Some also → IsBefore (places other form) (places path form) → ⊥

abbrev pub Found : Form → Data → (JsonPath → List ℕ) → Result (Unit {0}) Fault → Type 0
Found form d told (Ok u) = (path : JsonPath) → fault_at path form d ≡ None
Found form d told (Err fault) = First form d told fault

no_some : {A : Type 0} (o : Option A) (x : A) → o ≡ None → o ≡ Some x → ⊥
no_some o x h k = cc

-- ---- values without parts

by_end : (form : Form) (d : Data) → fault_here form d ≡ None → ((step : Step) (rest : JsonPath) → fault_at (step ∷ rest) form d ≡ None) → (path : JsonPath) → fault_at path form d ≡ None
by_end form d h k [] = h
by_end form d h k (step ∷ rest) = k step rest

-- a fault of the value itself is the first
itself : (form : Form) (d : Data) (told : JsonPath → List ℕ) (n : ℕ) → fault_here form d ≡ Some n → First form d told (n, told [])
itself form d told n h = record { path = []; is = refl; here = h; first = λ other also k before. not_before_nil (places other form) before }

leaf : (form : Form) (d : Data) (path : List ℕ) (b : Bool) → fault_here form d ≡ five_unless b → ((step : Step) (rest : JsonPath) → fault_at (step ∷ rest) form d ≡ None) → Found form d (text_from path) (passes b path)
leaf form d path true h k = by_end form d h k
leaf form d path false h k = itself form d (text_from path) 5 h

text_parts : (test : List ℕ → Bool) (d : Data) (step : Step) (rest : JsonPath) → fault_at (step ∷ rest) (text test) d ≡ None
text_parts test d (in_field name) rest = refl
text_parts test d (in_item i) rest = refl

version_parts : (d : Data) (step : Step) (rest : JsonPath) → fault_at (step ∷ rest) version d ≡ None
version_parts d (in_field name) rest = refl
version_parts d (in_item i) rest = refl

-- ---- lists

pub record FirstItem (form : Form) (ds : Items) (path : List ℕ) (place : ℕ) (fault : Fault) : Type 0 where
  pub i : ℕ
  pub d : Data
  pub rest : JsonPath
  pub there : get_item i ds ≡ Some d
  pub is : fault.1 ≡ text_from (item_path path (place + i)) rest
  pub here : fault_at rest form d ≡ Some fault.0
  pub first : (j : ℕ) (e : Data) (other : JsonPath) (also : ℕ) → get_item j ds ≡ Some e → fault_at other form e ≡ Some also → IsBefore (j ∷ places other form) (i ∷ places rest form) → ⊥

abbrev pub ItemsFound : Form → Items → List ℕ → ℕ → Result (Unit {0}) Fault → Type 0
ItemsFound form ds path place (Ok u) = (i : ℕ) (d : Data) (rest : JsonPath) → get_item i ds ≡ Some d → fault_at rest form d ≡ None
ItemsFound form ds path place (Err fault) = FirstItem form ds path place fault

some_is : {A : Type 0} (x y : A) → Some x ≡ Some y → x ≡ y
some_is x y h = cc

none_in_items : (form : Form) (d : Data) (ds : Items) → ((path : JsonPath) → fault_at path form d ≡ None) → ((i : ℕ) (e : Data) (rest : JsonPath) → get_item i ds ≡ Some e → fault_at rest form e ≡ None)
    → (i : ℕ) (e : Data) (rest : JsonPath) → get_item i (item d ds) ≡ Some e → fault_at rest form e ≡ None
none_in_items form d ds h k zero e rest there = subst (λ x. fault_at rest form x ≡ None) (some_is d e there) (h rest)
none_in_items form d ds h k (suc i) e rest there = k i e rest there

none_before_head : (form : Form) (d : Data) (ds : Items) (path : JsonPath) → ((other : JsonPath) (also : ℕ) → fault_at other form d ≡ Some also → IsBefore (places other form) (places path form) → ⊥)
    → (j : ℕ) (e : Data) (other : JsonPath) (also : ℕ) → get_item j (item d ds) ≡ Some e → fault_at other form e ≡ Some also → IsBefore (j ∷ places other form) (0 ∷ places path form) → ⊥
none_before_head form d ds path h zero e other also there has before =
    h other also (subst (λ x. fault_at other form x ≡ Some also) (sym (some_is d e there)) has) (tail_before 0 (places other form) (places path form) before)
none_before_head form d ds path h (suc j) e other also there has before = later_before j (places other form) (places path form) before

none_before_later : (form : Form) (d : Data) (ds : Items) (i : ℕ) (path : JsonPath) → ((rest : JsonPath) → fault_at rest form d ≡ None)
    → ((j : ℕ) (e : Data) (other : JsonPath) (also : ℕ) → get_item j ds ≡ Some e → fault_at other form e ≡ Some also → IsBefore (j ∷ places other form) (i ∷ places path form) → ⊥)
    → (j : ℕ) (e : Data) (other : JsonPath) (also : ℕ) → get_item j (item d ds) ≡ Some e → fault_at other form e ≡ Some also → IsBefore (j ∷ places other form) (suc i ∷ places path form) → ⊥
none_before_later form d ds i path h k zero e other also there has before =
    no_some (fault_at other form d) also (h other) (subst (λ x. fault_at other form x ≡ Some also) (sym (some_is d e there)) has)
none_before_later form d ds i path h k (suc j) e other also there has before =
    k j e other also there has (less_before j i (places other form) (places path form) before)

items_joined : (form : Form) (d : Data) (ds : Items) (path : List ℕ) (place : ℕ) (r s : Result (Unit {0}) Fault) → Found form d (text_from (item_path path place)) r → ItemsFound form ds path (place + 1) s → ItemsFound form (item d ds) path place (r >>= (λ u. s))
items_joined form d ds path place (Err fault) s h k =
    let zero_on : place ≡ place + 0 = omega arith in
    record {
      i = 0;
      d = d;
      rest = h.path;
      there = refl;
      is = h.is ∙ ap (λ n. text_from (item_path path n) h.path) zero_on;
      here = h.here;
      first = none_before_head form d ds h.path h.first;
    }
items_joined form d ds path place (Ok u) (Ok v) h k = none_in_items form d ds h k
items_joined form d ds path place (Ok u) (Err fault) h k =
    let on : (place + 1) + k.i ≡ place + suc k.i = omega arith in
    record {
      i = suc k.i;
      d = k.d;
      rest = k.rest;
      there = k.there;
      is = k.is ∙ ap (λ n. text_from (item_path path n) k.rest) on;
      here = k.here;
      first = none_before_later form d ds k.i k.rest h k.first;
    }

items_found : (form : Form) (path : List ℕ) → ((i : ℕ) (d : Data) → Found form d (text_from (item_path path i)) (check form (item_path path i) d)) → (place : ℕ) (ds : Items) → ItemsFound form ds path place (each (λ i. check form (item_path path i)) place ds)
items_found form path h place no_items = λ i d rest there. absurd (no_some None d refl there)
items_found form path h place (item d ds) =
    items_joined form d ds path place (check form (item_path path place) d) (each (λ i. check form (item_path path i)) (place + 1) ds) (h place d) (items_found form path h (place + 1) ds)

-- the parts of a list are its items
none_in_item : (form : Form) (rest : JsonPath) (o : Option Data) → ((d : Data) → o ≡ Some d → fault_at rest form d ≡ None) → part_fault (fault_at rest) rest false (Some (false, form)) o ≡ None
none_in_item form rest None h = refl
none_in_item form rest (Some d) h = h d refl

some_in_item : (form : Form) (rest : JsonPath) (o : Option Data) (also : ℕ) → part_fault (fault_at rest) rest false (Some (false, form)) o ≡ Some also → (d : Data) × (o ≡ Some d) × (fault_at rest form d ≡ Some also)
some_in_item form rest None also h = cc
some_in_item form rest (Some d) also h = (d, refl, h)

list_parts : (most : ℕ) (form : Form) (ds : Items) → ((i : ℕ) (d : Data) (rest : JsonPath) → get_item i ds ≡ Some d → fault_at rest form d ≡ None) → (step : Step) (rest : JsonPath) → fault_at (step ∷ rest) (list most form) (array ds) ≡ None
list_parts most form ds h (in_field name) rest = refl
list_parts most form ds h (in_item i) rest = none_in_item form rest (get_item i ds) (λ d there. h i d rest there)

list_first : (most : ℕ) (form : Form) (ds : Items) (path : List ℕ) (fault : Fault) (h : FirstItem form ds path 0 fault) → fault_here (list most form) (array ds) ≡ None
    → (other : JsonPath) (also : ℕ) → fault_at other (list most form) (array ds) ≡ Some also → IsBefore (places other (list most form)) (h.i ∷ places h.rest form) → ⊥
list_first most form ds path fault h short [] also has before = no_some (fault_here (list most form) (array ds)) also short has
list_first most form ds path fault h short (in_field name ∷ rest) also has before = absurd (no_some None also refl has)
list_first most form ds path fault h short (in_item i ∷ rest) also has before =
    let k = some_in_item form rest (get_item i ds) also has in
    h.first i k.0 rest also k.1 k.2 before

there_fault : (form : Form) (rest : JsonPath) (o : Option Data) (d : Data) (n : ℕ) → o ≡ Some d → fault_at rest form d ≡ Some n → part_fault (fault_at rest) rest false (Some (false, form)) o ≡ Some n
there_fault form rest o d n there h = rw there h

list_read : (most : ℕ) (form : Form) (ds : Items) (path : List ℕ) (r : Result (Unit {0}) Fault) → fault_here (list most form) (array ds) ≡ None → ItemsFound form ds path 0 r → Found (list most form) (array ds) (text_from path) r
list_read most form ds path (Ok u) h k = by_end (list most form) (array ds) h (list_parts most form ds k)
list_read most form ds path (Err fault) h k =
    let on : 0 + k.i ≡ k.i = omega arith in
    record {
      path = in_item k.i ∷ k.rest;
      is = k.is ∙ ap (λ n. text_from (item_path path n) k.rest) on;
      here = there_fault form k.rest (get_item k.i ds) k.d fault.0 k.there k.here;
      first = list_first most form ds path fault k h;
    }

list_joined : (most : ℕ) (form : Form) (ds : Items) (path : List ℕ) (b : Bool) (r : Items → Result (Unit {0}) Fault) → fault_here (list most form) (array ds) ≡ cond b (Some 52) None → ItemsFound form ds path 0 (r ds) → Found (list most form) (array ds) (text_from path) (sized path ds b >>= r)
list_joined most form ds path true r h k = itself (list most form) (array ds) (text_from path) 52 h
list_joined most form ds path false r h k = list_read most form ds path (r ds) h k

-- ---- objects

-- the fault behind a field of these
abbrev pub field_fault : Fields → Data → List ℕ → JsonPath → Option ℕ
field_fault fs d name rest = part_fault (fault_at rest) rest true (field_named name fs) (get name d)

abbrev pub field_places : Fields → List ℕ → JsonPath → List ℕ
field_places fs name rest = field_place name fs ∷ places_in (places rest) (field_named name fs)

-- of one field, whose value is there or not
pub record FirstInField (must : Bool) (form : Form) (o : Option Data) (path : List ℕ) (fault : Fault) : Type 0 where
  pub rest : JsonPath
  pub is : fault.1 ≡ text_from path rest
  pub here : part_fault (fault_at rest) rest true (Some (must, form)) o ≡ Some fault.0
  pub first : (other : JsonPath) (also : ℕ) → part_fault (fault_at other) other true (Some (must, form)) o ≡ Some also → IsBefore (places other form) (places rest form) → ⊥

abbrev pub FieldFound : Bool → Form → Option Data → List ℕ → Result (Unit {0}) Fault → Type 0
FieldFound must form o path (Ok u) = (rest : JsonPath) → part_fault (fault_at rest) rest true (Some (must, form)) o ≡ None
FieldFound must form o path (Err fault) = FirstInField must form o path fault

as_field : (must : Bool) (form : Form) (d : Data) (path : List ℕ) (r : Result (Unit {0}) Fault) → Found form d (text_from path) r → FieldFound must form (Some d) path r
as_field must form d path (Ok u) h = h
as_field must form d path (Err fault) h = record { rest = h.path; is = h.is; here = h.here; first = h.first }

field_found : (must : Bool) (form : Form) (o : Option Data) (path : List ℕ) → ((d : Data) → Found form d (text_from path) (check form path d)) → FieldFound must form o path (field_check (check form path) must path o)
field_found must form (Some d) path h = as_field must form d path (check form path d) (h d)
field_found false form None path h = λ rest. refl
field_found true form None path h = record { rest = []; is = refl; here = refl; first = λ other also has before. not_before_nil (places other form) before }

pub record FirstField (fs : Fields) (d : Data) (path : List ℕ → List ℕ) (fault : Fault) : Type 0 where
  pub name : List ℕ
  pub rest : JsonPath
  pub is : fault.1 ≡ text_from (path name) rest
  pub here : field_fault fs d name rest ≡ Some fault.0
  pub first : (other : List ℕ) (more : JsonPath) (also : ℕ) → field_fault fs d other more ≡ Some also → IsBefore (field_places fs other more) (field_places fs name rest) → ⊥

abbrev pub FieldsFound : Fields → Data → (List ℕ → List ℕ) → Result (Unit {0}) Fault → Type 0
FieldsFound fs d path (Ok u) = (name : List ℕ) (rest : JsonPath) → field_fault fs d name rest ≡ None
FieldsFound fs d path (Err fault) = FirstField fs d path fault

-- the field in front, or one behind it
abbrev pub one_of : Bool → Option (Bool × Form) → Option (Bool × Form) → Option (Bool × Form)
one_of b o p = cond b o p

none_by : (b : Bool) (must : Bool) (form : Form) (more : Option (Bool × Form)) (o p : Option Data) (rest : JsonPath) → (b ≡ true → o ≡ p) → part_fault (fault_at rest) rest true (Some (must, form)) o ≡ None → part_fault (fault_at rest) rest true more p ≡ None
    → part_fault (fault_at rest) rest true (one_of b (Some (must, form)) more) p ≡ None
none_by true must form more o p rest e h k = subst (λ x. part_fault (fault_at rest) rest true (Some (must, form)) x ≡ None) (e refl) h
none_by false must form more o p rest e h k = k

none_before_field : (b : Bool) (must : Bool) (form : Form) (more : Option (Bool × Form)) (o p : Option Data) (place : ℕ) (path other : JsonPath) (also : ℕ) → (b ≡ true → o ≡ p)
    → ((rest : JsonPath) (n : ℕ) → part_fault (fault_at rest) rest true (Some (must, form)) o ≡ Some n → IsBefore (places rest form) (places path form) → ⊥)
    → part_fault (fault_at other) other true (one_of b (Some (must, form)) more) p ≡ Some also
    → IsBefore (cond b 0 (suc place) ∷ places_in (places other) (one_of b (Some (must, form)) more)) (0 ∷ places path form) → ⊥
none_before_field true must form more o p place path other also e h has before =
    h other also (subst (λ x. part_fault (fault_at other) other true (Some (must, form)) x ≡ Some also) (sym (e refl)) has) (tail_before 0 (places other form) (places path form) before)
none_before_field false must form more o p place path other also e h has before = later_before place (places_in (places other) more) (places path form) before

none_before_more : (b : Bool) (must : Bool) (form : Form) (more : Option (Bool × Form)) (o p : Option Data) (place last : ℕ) (behind : List ℕ) (other : JsonPath) (also : ℕ) → (b ≡ true → o ≡ p)
    → ((rest : JsonPath) → part_fault (fault_at rest) rest true (Some (must, form)) o ≡ None)
    → ((n : ℕ) → part_fault (fault_at other) other true more p ≡ Some n → IsBefore (place ∷ places_in (places other) more) (last ∷ behind) → ⊥)
    → part_fault (fault_at other) other true (one_of b (Some (must, form)) more) p ≡ Some also
    → IsBefore (cond b 0 (suc place) ∷ places_in (places other) (one_of b (Some (must, form)) more)) (suc last ∷ behind) → ⊥
none_before_more true must form more o p place last behind other also e h k has before =
    no_some _ also (h other) (subst (λ x. part_fault (fault_at other) other true (Some (must, form)) x ≡ Some also) (sym (e refl)) has)
none_before_more false must form more o p place last behind other also e h k has before =
    k also has (less_before place last (places_in (places other) more) behind before)

same_value : (d : Data) (name other : List ℕ) → same name other ≡ true → get name d ≡ get other d
same_value d name other h = ap (λ n. get n d) ((bytes_decides name other).0 h)

same_name : (name : List ℕ) → same name name ≡ true
same_name name = (bytes_decides name name).1 refl

-- a fault behind the fields that are left is behind no field of the name in front
behind_other : (b : Bool) (more : Option (Bool × Form)) (p : Option Data) (rest : JsonPath) (n : ℕ) → (b ≡ true → more ≡ None) → part_fault (fault_at rest) rest true more p ≡ Some n → b ≡ false
behind_other false more p rest n h k = refl
behind_other true more p rest n h k = absurd (no_some None n refl (subst (λ x. part_fault (fault_at rest) rest true x p ≡ Some n) (h refl) k))

named_alike : (more : Fields) (name other : List ℕ) → field_named name more ≡ None → same name other ≡ true → field_named other more ≡ None
named_alike more name other h k = subst (λ n. field_named n more ≡ None) ((bytes_decides name other).0 k) h

here_first : (b : Bool) (o more : Option (Bool × Form)) (p : Option Data) (rest : JsonPath) (n : ℕ) → b ≡ true → part_fault (fault_at rest) rest true o p ≡ Some n → part_fault (fault_at rest) rest true (one_of b o more) p ≡ Some n
here_first true o more p rest n e h = h
here_first false o more p rest n e h = cc

here_later : (b : Bool) (o more : Option (Bool × Form)) (p : Option Data) (rest : JsonPath) (n : ℕ) → b ≡ false → part_fault (fault_at rest) rest true more p ≡ Some n → part_fault (fault_at rest) rest true (one_of b o more) p ≡ Some n
here_later true o more p rest n e h = cc
here_later false o more p rest n e h = h

places_first : (b : Bool) (must : Bool) (form : Form) (more : Option (Bool × Form)) (place : ℕ) (rest : JsonPath) → b ≡ true → cond b 0 (suc place) ∷ places_in (places rest) (one_of b (Some (must, form)) more) ≡ 0 ∷ places rest form
places_first true must form more place rest e = refl
places_first false must form more place rest e = cc

places_later : (b : Bool) (o more : Option (Bool × Form)) (place : ℕ) (rest : JsonPath) → b ≡ false → cond b 0 (suc place) ∷ places_in (places rest) (one_of b o more) ≡ suc place ∷ places_in (places rest) more
places_later true o more place rest e = cc
places_later false o more place rest e = refl

fields_joined : (name : List ℕ) (must : Bool) (form : Form) (more : Fields) (d : Data) (path : List ℕ → List ℕ) (r s : Result (Unit {0}) Fault) → field_named name more ≡ None → FieldFound must form (get name d) (path name) r → FieldsFound more d path s
    → FieldsFound (field name must form more) d path (r >>= (λ u. s))
fields_joined name must form more d path (Err fault) s fresh h k = record {
  name = name;
  rest = h.rest;
  is = h.is;
  here = here_first (same name name) (Some (must, form)) (field_named name more) (get name d) h.rest fault.0 (same_name name) h.here;
  first = λ other next also has before.
      none_before_field (same name other) must form (field_named other more) (get name d) (get other d) (field_place other more) h.rest next also (same_value d name other) h.first has
      (subst (λ x. IsBefore (field_places (field name must form more) other next) x) (places_first (same name name) must form (field_named name more) (field_place name more) h.rest (same_name name)) before);
}
fields_joined name must form more d path (Ok u) (Ok v) fresh h k = λ other rest.
    none_by (same name other) must form (field_named other more) (get name d) (get other d) rest (same_value d name other) (h rest) (k other rest)
fields_joined name must form more d path (Ok u) (Err fault) fresh h k =
    let apart : same name k.name ≡ false = behind_other (same name k.name) (field_named k.name more) (get k.name d) k.rest fault.0 (named_alike more name k.name fresh) k.here in
    record {
      name = k.name;
      rest = k.rest;
      is = k.is;
      here = here_later (same name k.name) (Some (must, form)) (field_named k.name more) (get k.name d) k.rest fault.0 apart k.here;
      first = λ other next also has before.
          none_before_more (same name other) must form (field_named other more) (get name d) (get other d) (field_place other more) (field_place k.name more) (places_in (places k.rest) (field_named k.name more)) next also (same_value d name other) h
          (λ n. k.first other next n) has
          (subst (λ x. IsBefore (field_places (field name must form more) other next) x) (places_later (same name k.name) (Some (must, form)) (field_named k.name more) (field_place k.name more) k.rest apart) before);
    }

object_steps : (fs : Fields) (d : Data) → is_some (as_object d) ≡ true → ((name : List ℕ) (rest : JsonPath) → field_fault fs d name rest ≡ None) → (step : Step) (rest : JsonPath) → fault_at (step ∷ rest) (fields fs) d ≡ None
object_steps fs d is h (in_field name) rest = subst (λ b. part_fault (fault_at rest) rest b (field_named name fs) (get name d) ≡ None) (sym is) (h name rest)
object_steps fs d is h (in_item i) rest = refl

object_first : (fs : Fields) (d : Data) (path : List ℕ → List ℕ) (fault : Fault) (h : FirstField fs d path fault) → is_some (as_object d) ≡ true
    → (other : JsonPath) (also : ℕ) → fault_at other (fields fs) d ≡ Some also → IsBefore (places other (fields fs)) (field_places fs h.name h.rest) → ⊥
object_first fs d path fault h is [] also has before = no_some (five_unless (is_some (as_object d))) also (ap five_unless is) has
object_first fs d path fault h is (in_field name ∷ rest) also has before =
    h.first name rest also (subst (λ b. part_fault (fault_at rest) rest b (field_named name fs) (get name d) ≡ Some also) is has) before
object_first fs d path fault h is (in_item i ∷ rest) also has before = no_some None also refl has

pub object_joined : (fs : Fields) (d : Data) (start : List ℕ) (path : List ℕ → List ℕ) (told : JsonPath → List ℕ) (b : Bool) (r : Result (Unit {0}) Fault) → start ≡ told [] → ((name : List ℕ) (rest : JsonPath) → text_from (path name) rest ≡ told (in_field name ∷ rest)) → is_some (as_object d) ≡ b → FieldsFound fs d path r
    → Found (fields fs) d told (passes b start >>= (λ u. r))
object_joined fs d start path told false r root below is h = record { path = []; is = root; here = ap five_unless is; first = λ other also has before. not_before_nil (places other (fields fs)) before }
object_joined fs d start path told true (Ok u) root below is h = by_end (fields fs) d (ap five_unless is) (object_steps fs d is h)
object_joined fs d start path told true (Err fault) root below is h = record {
  path = in_field h.name ∷ h.rest;
  is = h.is ∙ below h.name h.rest;
  here = subst (λ b. part_fault (fault_at h.rest) h.rest b (field_named h.name fs) (get h.name d) ≡ Some fault.0) (sym is) h.here;
  first = object_first fs d path fault h is;
}

-- ---- every form

list_found : (most : ℕ) (form : Form) (path : List ℕ) (d : Data) → ((ds : Items) → ItemsFound form ds path 0 (each (λ i. check form (item_path path i)) 0 ds)) → Found (list most form) d (text_from path) (list_at path most d >>= each (λ i. check form (item_path path i)) 0)
unfolding list_at
list_found most form path null h = itself (list most form) null (text_from path) 5 refl
list_found most form path (boolean b) h = itself (list most form) (boolean b) (text_from path) 5 refl
list_found most form path (number n) h = itself (list most form) (number n) (text_from path) 5 refl
list_found most form path (string s) h = itself (list most form) (string s) (text_from path) 5 refl
list_found most form path (object ms) h = itself (list most form) (object ms) (text_from path) 5 refl
list_found most form path (array ds) h = list_joined most form ds path (nat_lt most (items_len ds)) (each (λ i. check form (item_path path i)) 0) refl (h ds)

-- the names of an object's fields differ
abbrev mutual
  pub IsProper : Form → Type 0
  IsProper (text test) = ⊤
  IsProper version = ⊤
  IsProper (list most form) = IsProper form
  IsProper (fields fs) = AreProper fs

  pub AreProper : Fields → Type 0
  AreProper no_more = ⊤
  AreProper (field name must form more) = (field_named name more ≡ None) × IsProper form × AreProper more

mutual
  unfolding object_at

  pub found : (form : Form) → IsProper form → (path : List ℕ) (d : Data) → Found form d (text_from path) (check form path d)
  found (text test) h path d = leaf (text test) d path (is_text test (as_str d)) refl (text_parts test d)
  found version h path d = leaf version d path (is_version d) refl (version_parts d)
  found (list most form) h path d = list_found most form path d (items_found form path (λ i. found form h (item_path path i)) 0)
  found (fields fs) h path d = object_joined fs d path (field_path path) (text_from path) (is_some (as_object d)) (fields_check fs (field_path path) d) refl (λ name rest. refl) refl (fields_found fs h (field_path path) d)

  pub fields_found : (fs : Fields) → AreProper fs → (path : List ℕ → List ℕ) (d : Data) → FieldsFound fs d path (fields_check fs path d)
  fields_found no_more h path d = λ name rest. refl
  fields_found (field name must form more) h path d =
      fields_joined name must form more d path (field_check (check form (path name)) must (path name) (get name d)) (fields_check more path d) h.0
      (field_found must form (get name d) (path name) (found form h.1 (path name))) (fields_found more h.2 path d)
