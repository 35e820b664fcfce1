-- The names of the refusals that configurations and table files come to, by number.
use Rattle.std.specs.Prelude.{ℕ, List, [], codes, ◌==◌, if◌then◌else◌}

-- the names that faults of a configuration have
abbrev pub config_fault_name : ℕ → List ℕ
config_fault_name number =
    if number == 3 then codes "NotJson"
    else if number == 4 then codes "FieldMissing"
    else if number == 5 then codes "WrongType"
    else if number == 6 then codes "NameTwice"
    else if number == 7 then codes "UnknownTable"
    else if number == 50 then codes "KindClash"
    else if number == 52 then codes "TooManyTables"
    else []

-- the names that faults of a record have
abbrev pub table_fault_name : ℕ → List ℕ
table_fault_name number =
    if number == 8 then codes "NotUtf8"
    else if number == 9 then codes "FieldCount"
    else if number == 10 then codes "BadCell"
    else if number == 11 then codes "KeyTwice"
    else if number == 12 then codes "MissingEnd"
    else if number == 13 then codes "TooManyRows"
    else []
