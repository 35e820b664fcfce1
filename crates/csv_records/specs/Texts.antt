-- Fields that are texts.
use Rattle.std.specs.Prelude.{ℕ, Bool, List}
use Rattle.std.specs.List.{list_all}
use Rattle.std.specs.Str.{is_utf8}

-- whether each field is UTF-8
abbrev pub are_texts : List (List ℕ) → Bool
are_texts fields = list_all is_utf8 fields
