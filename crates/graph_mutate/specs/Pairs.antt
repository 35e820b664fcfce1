-- Pairs of numbers.
use Rattle.std.specs.Prelude.{ℤ, Bool, ◌&&◌}
use Rattle.std.specs.Ordering.{int_eq}

-- two pairs are one
abbrev pub same_pair : ℤ × ℤ → ℤ × ℤ → Bool
same_pair a b = int_eq a.0 b.0 && int_eq a.1 b.1
