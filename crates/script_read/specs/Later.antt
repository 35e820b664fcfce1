-- What the grammar allows and is not built yet, by the first word of a line.
use Rattle.std.specs.Prelude.{ℕ, Bool, false, List, codes}
use Rattle.script_read.specs.declared.reading.Section.{Section}
use Rattle.script_read.specs.declared.reading.Section.TheVariants as section
use Rattle.script_read.specs.Words.{has_word}

-- the commands that are not built yet
unfoldable pub later_commands : List ℕ
later_commands = codes "refresh tick feed hops components cores weights drop query"

-- whether a line that begins with this word is allowed in a section and not built yet
unfoldable pub comes_later : Section → List ℕ → Bool
comes_later section.Start word = false
comes_later section.Vertices word = false
comes_later section.Edges word = false
comes_later section.Phase word = false
comes_later section.Actor word = has_word later_commands word
