-- What a file is read as, told by its rows one by one.
use Rattle.std.proofs.Common.{◌≡◌, ◌∙◌, refl, ap, subst, ℕ, suc, ◌+◌, List, [], ◌∷◌, take, slice_get, Result, Ok, Err, Some, arith}
use Rattle.std.specs.List.{AllZip}
use Rattle.graph_schema.specs.Schema.{SchemaData}
use Rattle.graph_model.specs.declared.change.Change.{Change}
use Rattle.change_feed.specs.declared.fault.RowCause.{RowCause}
use Rattle.change_feed.specs.declared.fault.FeedFault.{FeedFault}
use Rattle.change_feed.specs.declared.fault.FeedFault.TheVariants.{BadRow}
use Rattle.change_feed.specs.Fault.{◌>>=◌, at_row}
use Rattle.csv_records.specs.Reading.{records_of}
use Rattle.change_feed.specs.Row.{change_of}
use Rattle.change_feed.specs.Changes.{changes_from}
use Rattle.change_feed.specs.Law.{FirstRow, FaultsAreFirst}

chain : {A B : Type 0} (r : Result A FeedFault) (f : A → Result B FeedFault) (x : B) → (r >>= f) ≡ Ok x → (a : A) × (r ≡ Ok a) × (f a ≡ Ok x)
chain (Err e) f x h = cc
chain (Ok a) f x h = (a, refl, h)

same_list : (a b : List Change) → ◌≡◌ {A = Result (List Change) FeedFault} (Ok a) (Ok b) → a ≡ b
same_list a b e = cc

-- ---- what is accepted

module _ (R : List (List ℕ) → Change → Type 0) (s : SchemaData) where
  module _ (told : (fields : List (List ℕ)) (c : Change) → change_of s fields ≡ Ok c → R fields c) where
    one_by : (row : ℕ) (fields : List (List ℕ)) (rest : List (List (List ℕ))) (changes : List Change) (q : Result Change RowCause) → change_of s fields ≡ q
        → (at_row row q >>= (λ c. changes_from (row + 1) s rest >>= (λ cs. Ok (c ∷ cs)))) ≡ Ok changes
        → ((cs : List Change) → changes_from (row + 1) s rest ≡ Ok cs → AllZip R rest cs) → AllZip R (fields ∷ rest) changes
    one_by row fields rest changes (Err why) is e later = cc
    one_by row fields rest changes (Ok c) is e later =
        let p = chain (changes_from (row + 1) s rest) (λ cs. Ok (c ∷ cs)) changes e in
        subst (AllZip R (fields ∷ rest)) (same_list (c ∷ p.0) changes p.2) (told fields c is, later p.0 p.1)

    nothing_by : (changes : List Change) → ◌≡◌ {A = Result (List Change) FeedFault} (Ok []) (Ok changes) → AllZip R [] changes
    nothing_by changes e = subst (AllZip R []) (same_list [] changes e) tt

    pub rows_told : (row : ℕ) (rows : List (List (List ℕ))) (changes : List Change) → changes_from row s rows ≡ Ok changes → AllZip R rows changes
    unfolding changes_from
    rows_told row [] changes e = nothing_by changes e
    rows_told row (fields ∷ rest) changes e = one_by row fields rest changes (change_of s fields) refl e (λ cs h. rows_told (row + 1) rest cs h)

  module _ (tells : (fields : List (List ℕ)) (c : Change) → R fields c → change_of s fields ≡ Ok c) where
    pub rows_tell : (row : ℕ) (rows : List (List (List ℕ))) (changes : List Change) → AllZip R rows changes → changes_from row s rows ≡ Ok changes
    unfolding changes_from
    rows_tell row [] [] h = refl
    rows_tell row [] (c ∷ changes) h = absurd h
    rows_tell row (fields ∷ rest) [] h = absurd h
    rows_tell row (fields ∷ rest) (c ∷ changes) h =
        ap (λ q. at_row row q >>= (λ x. changes_from (row + 1) s rest >>= (λ cs. Ok (x ∷ cs)))) (tells fields c h.0)
        ∙ ap (λ q. q >>= (λ cs. Ok (c ∷ cs))) (rows_tell (row + 1) rest changes h.1)

-- ---- the first fault

record AtRow (s : SchemaData) (first : ℕ) (rows : List (List (List ℕ))) (fault : FeedFault) : Type 0 where
  place : ℕ
  row : ℕ
  why : RowCause
  is : fault ≡ BadRow row why
  counted : row ≡ first + place
  before : List Change
  taken : AllZip (λ fields c. change_of s fields ≡ Ok c) (take place rows) before
  fields : List (List ℕ)
  there : slice_get rows place ≡ Some fields
  cause : change_of s fields ≡ Err why

failed : (r : Result (List Change) FeedFault) (c : Change) (fault : FeedFault) → (r >>= (λ cs. Ok (c ∷ cs))) ≡ Err fault → r ≡ Err fault
failed (Ok cs) c fault e = cc
failed (Err x) c fault e = e

at_by : (s : SchemaData) (first : ℕ) (fields : List (List ℕ)) (rest : List (List (List ℕ))) (fault : FeedFault) (q : Result Change RowCause) → change_of s fields ≡ q
    → (at_row first q >>= (λ c. changes_from (first + 1) s rest >>= (λ cs. Ok (c ∷ cs)))) ≡ Err fault
    → (changes_from (first + 1) s rest ≡ Err fault → AtRow s (first + 1) rest fault) → AtRow s first (fields ∷ rest) fault
at_by s first fields rest fault (Err why) is e later = record {
  place = 0;
  row = first;
  why = why;
  is = cc;
  counted = omega arith;
  before = [];
  taken = tt;
  fields = fields;
  there = refl;
  cause = is;
}
at_by s first fields rest fault (Ok c) is e later =
    let q = later (failed (changes_from (first + 1) s rest) c fault e) in
    record {
      place = suc q.place;
      row = q.row;
      why = q.why;
      is = q.is;
      counted = omega (arith, q.counted);
      before = c ∷ q.before;
      taken = (is, q.taken);
      fields = q.fields;
      there = q.there;
      cause = q.cause;
    }

at_row_of : (s : SchemaData) (first : ℕ) (rows : List (List (List ℕ))) (fault : FeedFault) → changes_from first s rows ≡ Err fault → AtRow s first rows fault
unfolding changes_from
at_row_of s first [] fault e = cc
at_row_of s first (fields ∷ rest) fault e = at_by s first fields rest fault (change_of s fields) refl e (λ h. at_row_of s (first + 1) rest fault h)

named : (s : SchemaData) (bytes : List ℕ) (row : ℕ) (cause : RowCause) → AtRow s 1 (records_of bytes) (BadRow row cause) → FirstRow s bytes row cause
named s bytes row cause q =
    let same_row : row ≡ q.row = cc (q.is) in
    let same_cause : cause ≡ q.why = cc (q.is) in
    record {
      place = q.place;
      counted = omega (arith, same_row, q.counted);
      before = q.before;
      taken = q.taken;
      fields = q.fields;
      there = q.there;
      fault = rw same_cause q.cause;
    }

pub faults_first : FaultsAreFirst
faults_first = λ s bytes row cause e. named s bytes row cause (at_row_of s 1 (records_of bytes) (BadRow row cause) e)
