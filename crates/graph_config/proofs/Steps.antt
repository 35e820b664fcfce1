-- Steps that found no fault, and what they were given.
use Rattle.std.proofs.Common.{◌≡◌, ◌∙◌, refl, ap, sym, ℕ, suc, Bool, true, false, List, [], ◌∷◌, length, Option, Some, None, Result, Ok, Err, cond}
use Rattle.std.specs.Prelude.{is_some, nat_lt, ⊤}
use Rattle.serde_json.specs.Data.{Data, null, boolean, number, string, array, object, Items, no_items, item}
use Rattle.serde_json.specs.Find.{get, as_str, as_array, as_object}
use Rattle.serde_json.specs.View.{items_of}
use Rattle.graph_config.specs.Fault.{Fault, ◌>>=◌, required, allowed}
use Rattle.graph_config.specs.Field.{items_len, object_at, list_at}

-- ---- results

pub bound_ok : {A B : Type 0} (r : Result A Fault) (f : A → Result B Fault) (y : B) → (r >>= f) ≡ Ok y → (x : A) × (r ≡ Ok x) × (f x ≡ Ok y)
bound_ok (Ok x) f y h = (x, refl, h)
bound_ok (Err fault) f y h = cc

pub the_same : {A : Type 0} (x y : A) (r : Result A Fault) → r ≡ Ok x → r ≡ Ok y → x ≡ y
the_same x y r h k = cc

pub allowed_ok : {A : Type 0} (path : List ℕ) (o : Option A) (x : A) → allowed path o ≡ Ok x → o ≡ Some x
allowed_ok path None x h = cc
allowed_ok path (Some y) x h = cc

pub required_ok : {A : Type 0} (path : List ℕ) (o : Option A) (x : A) → required path o ≡ Ok x → o ≡ Some x
required_ok path None x h = cc
required_ok path (Some y) x h = cc

-- ---- values

pub array_is : (v : Data) (ds : Items) → as_array v ≡ Some ds → v ≡ array ds
array_is null ds h = cc
array_is (boolean b) ds h = cc
array_is (number n) ds h = cc
array_is (string s) ds h = cc
array_is (array es) ds h = cc
array_is (object ms) ds h = cc

pub string_is : (v : Data) (s : List ℕ) → as_str v ≡ Some s → v ≡ string s
string_is null s h = cc
string_is (boolean b) s h = cc
string_is (number n) s h = cc
string_is (string t) s h = cc
string_is (array es) s h = cc
string_is (object ms) s h = cc

-- what has a field is an object
pub has_field : (field : List ℕ) (d v : Data) → get field d ≡ Some v → is_some (as_object d) ≡ true
has_field field null v h = cc
has_field field (boolean b) v h = cc
has_field field (number n) v h = cc
has_field field (string s) v h = cc
has_field field (array es) v h = cc
has_field field (object ms) v h = refl

-- ---- items as a list

abbrev pub list_of : Items → List Data
list_of no_items = []
list_of (item d ds) = d ∷ list_of ds

pub items_back : (ds : Items) → items_of (list_of ds) ≡ ds
items_back no_items = refl
items_back (item d ds) = ap (item d) (items_back ds)

pub list_length : (ds : Items) → length (list_of ds) ≡ items_len ds
list_length no_items = refl
list_length (item d ds) = ap suc (list_length ds)

pub items_length : (es : List Data) → items_len (items_of es) ≡ length es
items_length [] = refl
items_length (e ∷ es) = ap suc (items_length es)

-- ---- objects and lists

-- nothing where the test passes, else 5
abbrev pub passes : Bool → List ℕ → Result (Unit {0}) Fault
passes b path = cond b (Ok tt) (Err (5, path))

pub passes_ok : (path : List ℕ) (b : Bool) (u : Unit {0}) → passes b path ≡ Ok u → b ≡ true
passes_ok path true u h = refl
passes_ok path false u h = cc

pub object_ok : (path : List ℕ) (v : Data) (u : Unit {0}) → object_at path v ≡ Ok u → is_some (as_object v) ≡ true
unfolding object_at
object_ok path v u h = passes_ok path (is_some (as_object v)) u h

pub object_reads : (path : List ℕ) (v : Data) → is_some (as_object v) ≡ true → object_at path v ≡ Ok tt
unfolding object_at
object_reads path v h = rw h refl

-- the items, or 52
abbrev pub sized : List ℕ → Items → Bool → Result Items Fault
sized path ds b = cond b (Err (52, path)) (Ok ds)

sized_ok : (path : List ℕ) (ds es : Items) (b : Bool) → sized path ds b ≡ Ok es → (ds ≡ es) × (b ≡ false)
sized_ok path ds es true h = cc
sized_ok path ds es false h = (cc, refl)

-- a list that was read is one, and is not too long
pub record IsShort (most : ℕ) (v : Data) (ds : Items) : Type 0 where
  pub is : v ≡ array ds
  pub short : nat_lt most (items_len ds) ≡ false

pub list_ok : (path : List ℕ) (most : ℕ) (v : Data) (ds : Items) → list_at path most v ≡ Ok ds → IsShort most v ds
unfolding list_at
list_ok path most v ds h =
    let k = bound_ok (allowed path (as_array v)) _ ds h in
    let s = sized_ok path k.0 ds (nat_lt most (items_len k.0)) k.2 in
    record {
      is = array_is v k.0 (allowed_ok path (as_array v) k.0 k.1) ∙ ap array s.0;
      short = ap (λ es. nat_lt most (items_len es)) (sym s.0) ∙ s.1;
    }

pub list_reads : (path : List ℕ) (most : ℕ) (ds : Items) → nat_lt most (items_len ds) ≡ false → list_at path most (array ds) ≡ Ok ds
unfolding list_at
list_reads path most ds h = ap (sized path ds) h
