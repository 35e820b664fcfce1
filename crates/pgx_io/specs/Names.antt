-- Which names lead out of a folder.
use Rattle.std.specs.Prelude.{◌==◌, ◌||◌, ℕ, Bool, false, List, [], ◌∷◌}
use Rattle.std.specs.List.{slice_split, list_any}
use Rattle.std.specs.Str.{bytes_eq}

-- a name that begins with a slash
abbrev pub is_absolute : List ℕ → Bool
is_absolute [] = false
is_absolute (byte ∷ bytes) = byte == 47

-- the parts of a name between its slashes
abbrev pub parts_of : List ℕ → List (List ℕ)
parts_of name = slice_split (λ byte. byte == 47) name

-- a part of a name is two dots
abbrev pub climbs : List ℕ → Bool
climbs name = list_any (λ part. bytes_eq part (46 ∷ 46 ∷ [])) (parts_of name)

-- a name that is absolute or climbs
abbrev pub leads_out : List ℕ → Bool
leads_out name = is_absolute name || climbs name
