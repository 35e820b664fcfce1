-- Marks in four bytes each.
use Rattle.std.specs.Prelude.{ℕ, ◌==◌, if◌then◌else◌, List, Option, Some, None, map}

-- the mark that a number is kept for: the greatest number stands for none
abbrev pub mark_in : ℕ → Option ℕ
mark_in cell = if cell == 4294967295 then None else Some cell

abbrev pub marks_in : List ℕ → List (Option ℕ)
marks_in cells = map mark_in cells
