-- Facts about lists, tests and the bytes of tokens.
use Rattle.std.proofs.Common.{◌≡◌, ℕ, ◌+◌, ◌<◌, arith, Bool, true, false, cond, [], ◌∷◌, ◌++◌, length, take, drop, slice_index, refl, ap, ◌∙◌}
use Rattle.std.specs.List.{prefix_len, AllByRecursion}
use Rattle.pgql_lex.specs.Bytes.{Text, next}

-- what stands behind the bytes that pass
abbrev pub Passes : (ℕ → Bool) → Text → Type 0
Passes p w = AllByRecursion (λ b. p b ≡ true) w

-- the bytes that pass, and what stands behind them
pub record Split (p : ℕ → Bool) (z : Text) : Type 0 where
  pub front : Text
  pub behind : Text
  pub parts : z ≡ front ++ behind
  pub len : prefix_len p z ≡ length front
  pub passes : Passes p front
  pub ends : p (next behind) ≡ false

pub split : (p : ℕ → Bool) → p 0 ≡ false → (z : Text) → Split p z
split p none [] = record { front = []; behind = []; parts = refl; len = refl; passes = tt; ends = none }
split p none (b ∷ z) =
    let more : Split p z = split p none z in
    let at_test : (v : Bool) → p b ≡ v → Split p (b ∷ z) = λ v. elim v as (λ u. p b ≡ u → Split p (b ∷ z)) [
      | true ↦ λ e. record {
        front = b ∷ more.front;
        behind = more.behind;
        parts = ap (λ (l : Text). b ∷ l) more.parts;
        len = ap (λ u. cond u (1 + prefix_len p z) 0) e ∙ ap (λ n. 1 + n) more.len ∙ omega arith;
        passes = (e, more.passes);
        ends = more.ends;
      }
      | false ↦ λ e. record {
        front = [];
        behind = b ∷ z;
        parts = refl;
        len = ap (λ u. cond u (1 + prefix_len p z) 0) e;
        passes = tt;
        ends = e;
      }
    ] in
    at_test (p b) refl

pub prefix_len-parts : (p : ℕ → Bool) (w behind : Text) → Passes p w → p (next behind) ≡ false → prefix_len p (w ++ behind) ≡ length w
prefix_len-parts p [] [] h e = refl
prefix_len-parts p [] (c ∷ behind) h e = ap (λ u. cond u (1 + prefix_len p behind) 0) e
prefix_len-parts p (b ∷ w) behind h e =
    ap (λ u. cond u (1 + prefix_len p (w ++ behind)) 0) h.0 ∙ ap (λ n. 1 + n) (prefix_len-parts p w behind h.1 e) ∙ omega arith

pub take-parts : (w behind : Text) → take (length w) (w ++ behind) ≡ w
take-parts [] behind = refl
take-parts (b ∷ w) behind = ap (λ (l : Text). b ∷ l) (take-parts w behind)

pub drop-parts : (w behind : Text) → drop (length w) (w ++ behind) ≡ behind
drop-parts [] behind = refl
drop-parts (b ∷ w) behind = drop-parts w behind

pub index-parts : (w behind : Text) → slice_index (w ++ behind) (length w) ≡ next behind
index-parts [] behind = refl
index-parts (b ∷ w) behind = index-parts w behind

pub next-parts : (w behind : Text) → 0 < length w → next (w ++ behind) ≡ next w
next-parts [] behind h = absurd (omega arith)
next-parts (b ∷ w) behind h = refl

pub next-true : (p : ℕ → Bool) → p 0 ≡ false → (w : Text) → p (next w) ≡ true → 0 < length w
next-true p none [] e = cc
next-true p none (b ∷ w) e = omega arith
