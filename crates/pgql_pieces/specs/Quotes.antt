-- Words in quotes.
use Rattle.std.specs.Prelude.{◌≡◌, ◌<◌, ℕ, List, [], ◌∷◌, ◌++◌}

-- The first and the last byte are ASCII, as quotes are.
pub record IsQuoted (w : List ℕ) : Type 0 where
  pub first : ℕ
  pub text : List ℕ
  pub last : ℕ
  pub whole : w ≡ first ∷ (text ++ last ∷ [])
  pub begins : first < 128
  pub ends : last < 128
