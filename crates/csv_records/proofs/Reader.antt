-- What one read of a reader does to the records that are left.
use Rattle.std.proofs.Common.{◌≡◌, ◌∙◌, refl, ap, ℕ, ◌+◌, Bool, true, false, Bor, List, [], ◌∷◌, length, Option, Some, None, IsSome, is_some, inl, subst}
use Rattle.std.proofs.lemmas.Bool.{false≢true}
use Rattle.csv.specs.Machine.{Read, next_record, ends_at_end}
use Rattle.csv.specs.Reading.{ReadRecord, Reached, default_config, records_from}
use Rattle.csv.specs.declared.parser.State.{State}
use Rattle.csv.specs.declared.reader.Reader.{Reader}
use Rattle.csv.proofs.ReadFacts.{rows-end, rows-more}
use Rattle.csv_records.specs.Reading.{bytes_left, records_in, records_left, IsReading, TakesRecord}
use Rattle.csv_records.proofs.Taking.{taken, none_taken}

some_of : (o : Option (List ℕ)) → IsSome o → (xs : List ℕ) × (o ≡ Some xs)
some_of None h = absurd (false≢true h)
some_of (Some xs) h = (xs, refl)

-- the one record that was read
one_read : (s s2 : State) (xs ys : List ℕ) (fields : List (List ℕ)) → Reached default_config s xs (fields ∷ []) s2 ys
    → (p : Read) × (next_record default_config s [] [] xs ≡ Some p) × (fields ≡ p.0) × (p.1 ≡ s2) × (p.2 ≡ ys)
unfolding Reached
one_read s s2 xs ys fields r = (r.0, r.1, r.2, r.3.0, r.3.1)

-- and the records that are left behind it
again : (fields f : List (List ℕ)) (s s2 : State) (xs ys : List ℕ) (left : Option (List ℕ)) → fields ≡ f → s ≡ s2 → xs ≡ ys → left ≡ Some ys
    → f ∷ records_from default_config (length xs + 1) s xs ≡ fields ∷ records_in s2 left
again fields f s s2 xs ys left a b c d = rw (a, b, c, d) refl

reads_more : (old new : Reader (Bor (List ℕ))) (fields : List (List ℕ)) (bytes rest : List ℕ) (p : Read) → IsReading old → new.first ≡ true
    → ReadRecord (λ source. Some source.now) old new true fields → bytes_left old ≡ Some bytes → bytes_left new ≡ Some rest
    → next_record default_config old.state [] [] bytes ≡ Some p → fields ≡ p.0 → p.1 ≡ new.state → p.2 ≡ rest → TakesRecord old true fields new
reads_more old new fields bytes rest p is first read old_left new_left this same state behind =
    let next = taken old.state bytes p is.clean this in
    let all : records_left old ≡ records_from default_config (length bytes + 1) old.state bytes = ap (records_in old.state) old_left in
    let left : p.0 ∷ records_from default_config (length p.2 + 1) p.1 p.2 ≡ fields ∷ records_left new = again fields p.0 p.1 new.state p.2 rest (bytes_left new) same state behind new_left in (
      record {
        trim = read.3 ∙ is.trim;
        ready = inl first;
        config = read.2 ∙ is.config;
        clean = subst (λ s. ends_at_end s ≡ false) state next.0;
        known = ap is_some new_left;
      },
      all ∙ (next.1 ∙ left),
    )

pub reads_on : (old new : Reader (Bor (List ℕ))) (found : Bool) (fields : List (List ℕ)) → IsReading old → new.first ≡ true
    → ReadRecord (λ source. Some source.now) old new found fields → TakesRecord old found fields new
unfolding Reached
reads_on old new true fields is first read =
    let bytes = some_of (bytes_left old) is.known in
    let more = rows-more (λ (source : Bor (List ℕ)). Some source.now) old new fields default_config old.state bytes.0 bytes.0 [] is.config bytes.1 (refl, refl) read in
    let one = one_read old.state new.state bytes.0 more.0 fields more.2 in
    reads_more old new fields bytes.0 more.0 one.0 is first read bytes.1 more.1 one.1 one.2 one.3 one.4
reads_on old new false fields is first read =
    let bytes = some_of (bytes_left old) is.known in
    ap (records_in old.state) bytes.1
    ∙ none_taken old.state bytes.0 (rows-end (λ (source : Bor (List ℕ)). Some source.now) old new fields default_config bytes.0 is.config bytes.1 read)

-- what an answer tells of the records that were left
pub was_taken : (old new : Reader (Bor (List ℕ))) (found : Bool) (fields : List (List ℕ)) → found ≡ true → TakesRecord old found fields new → IsReading new × (records_left old ≡ fields ∷ records_left new)
was_taken old new true fields e takes = takes
was_taken old new false fields e takes = cc

pub was_last : (old new : Reader (Bor (List ℕ))) (found : Bool) (fields : List (List ℕ)) → found ≡ false → TakesRecord old found fields new → records_left old ≡ []
was_last old new true fields e takes = cc
was_last old new false fields e takes = takes
