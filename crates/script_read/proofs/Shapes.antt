-- What the lines of one shape spell.
use Rattle.std.proofs.Common.{◌≡◌, ◌∙◌, ap, ℕ, ◌∷◌, List, ◌++◌, true, Ok}
use Rattle.std.specs.Prelude.{◌==◌, not}
use Rattle.script_read.specs.declared.fault.LineWhy.TheVariants as why
use Rattle.script_read.specs.Meaning.{IsName}
use Rattle.script_read.specs.Words.{same, word_at, word_count, alone, one_name}
use Rattle.script_read.proofs.Inversions.{passed, named, one_spelled, two_spelled, same_is}

-- the line's first word is this
abbrev pub Begins : List ℕ → List ℕ → Type 0
Begins line word = same (word_at line 0) word ≡ true

-- the rest behind the first word
pub behind : (line word rest : List ℕ) → Begins line word → line ≡ word_at line 0 ++ rest → line ≡ word ++ rest
behind line word rest w e = e ∙ ap (λ (x : List ℕ). x ++ rest) (same_is (word_at line 0) word w)

pub alone_is : (line word : List ℕ) (u : Unit {0}) → Begins line word → alone line ≡ Ok u → line ≡ word
unfolding alone
alone_is line word u w h = one_spelled line (passed (not (word_count line == 1)) why.Form _ u h).0 ∙ same_is (word_at line 0) word w

pub record OneName (line word n : List ℕ) : Type 0 where
  pub spells : line ≡ word ++ (32 ∷ n)
  pub is_name : IsName n

pub one_name_is : (line word n : List ℕ) → Begins line word → one_name line ≡ Ok n → OneName line word n
unfolding one_name
one_name_is line word n w h =
    let a = passed (not (word_count line == 2)) why.Form _ n h in
    let b = named _ _ a.1 in
    record { spells = behind line word _ w (two_spelled line a.0) ∙ ap (λ (x : List ℕ). word ++ (32 ∷ x)) b.0; is_name = b.1 }
