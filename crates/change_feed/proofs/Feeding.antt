-- One row after another is read.
use Rattle.std.proofs.Common.{◌≡◌, ◌∙◌, refl, sym, ap, ℕ, ◌+◌, List, [], ◌∷◌, ◌++◌, Result, Ok, Err, append_assoc}
use Rattle.std.proofs.lemmas.List.{append-nil}
use Rattle.graph_schema.specs.Schema.{SchemaData}
use Rattle.graph_model.specs.declared.change.Change.{Change}
use Rattle.change_feed.specs.declared.fault.FeedFault.{FeedFault}
use Rattle.change_feed.specs.declared.fault.RowCause.{RowCause}
use Rattle.change_feed.specs.declared.fault.RowFault.{RowFault}
use Rattle.change_feed.specs.declared.fault.RowFault.TheVariants as one
use Rattle.change_feed.specs.Fault.{◌>>=◌, FeedCause, IsCause, at_row, place_fault}
use Rattle.change_feed.specs.Row.{change_of}
use Rattle.change_feed.specs.Changes.{changes_from, with_row}

-- changes that were read before others
abbrev pub behind : List Change → Result (List Change) FeedFault → Result (List Change) FeedFault
behind done rest = rest >>= (λ changes. Ok (done ++ changes))

more : (done : List Change) (c : Change) (rest : Result (List Change) FeedFault) → behind (done ++ c ∷ []) rest ≡ behind done (rest >>= (λ changes. Ok (c ∷ changes)))
more done c (Ok changes) = ap (λ x. Ok x) (append_assoc done (c ∷ []) changes)
more done c (Err e) = refl

same_list : (a b : List Change) → ◌≡◌ {A = Result (List Change) RowCause} (Ok a) (Ok b) → b ≡ a
same_list a b e = cc

added : (done : List Change) (row : Result Change RowCause) (next : List Change) → with_row done row ≡ Ok next → (c : Change) × (row ≡ Ok c) × (next ≡ done ++ c ∷ [])
added done (Ok c) next e = (c, refl, same_list (done ++ c ∷ []) next e)
added done (Err why) next e = cc

-- nothing was read before
pub behind_nothing : (rest : Result (List Change) FeedFault) → behind [] rest ≡ rest
behind_nothing (Ok changes) = refl
behind_nothing (Err e) = refl

-- a row that is a change: the others are read behind it
pub goes_on : (row : ℕ) (s : SchemaData) (fields : List (List ℕ)) (rest : List (List (List ℕ))) (done next : List Change) (whole : Result (List Change) FeedFault)
    → with_row done (change_of s fields) ≡ Ok next → behind done (changes_from row s (fields ∷ rest)) ≡ whole → behind next (changes_from (row + 1) s rest) ≡ whole
unfolding changes_from
goes_on row s fields rest done next whole this so =
    let made = added done (change_of s fields) next this in
    ap (λ front. behind front (changes_from (row + 1) s rest)) made.2
    ∙ more done made.0 (changes_from (row + 1) s rest)
    ∙ sym (ap (λ r. behind done (at_row row r >>= (λ x. changes_from (row + 1) s rest >>= (λ changes. Ok (x ∷ changes))))) made.1)
    ∙ so

-- a row with a fault decides
pub stops : (row : ℕ) (s : SchemaData) (fields : List (List ℕ)) (rest : List (List (List ℕ))) (done : List Change) (fault : RowFault) (whole : Result (List Change) FeedFault)
    → IsCause (change_of s fields) fault → behind done (changes_from row s (fields ∷ rest)) ≡ whole → FeedCause whole (place_fault row fault)
unfolding changes_from
stops row s fields rest done (one.Bad cause) whole this so =
    sym so ∙ ap (λ r. behind done (at_row row r >>= (λ x. changes_from (row + 1) s rest >>= (λ changes. Ok (x ∷ changes))))) this
stops row s fields rest done one.NoMemory whole this so = tt

pub ends : (row : ℕ) (s : SchemaData) (done : List Change) → behind done (changes_from row s []) ≡ Ok done
unfolding changes_from
ends row s done = ap (λ x. Ok x) (append-nil done)
