-- The lines that tell of published graphs.
use Rattle.std.specs.Prelude.{ℕ, List, [], ◌∷◌, ◌++◌, Option, Some, None, length, map, codes}
use Rattle.std.specs.List.{flat_map}
use Rattle.std.specs.Fmt.{decimal}
use Rattle.catalogue_state.specs.declared.reply.LineInfo.{LineInfo}
use Rattle.journal_text.specs.Lines.{reply_line, count_reply}
use Rattle.journal_text.specs.Names.{name_of}

-- `SID:FRONT`
abbrev pub snap_text : ℕ × ℕ → List ℕ
snap_text snap = decimal snap.0 ++ codes ":" ++ decimal snap.1

-- the source's name, or `none`
abbrev pub source_text : Option (List ℕ) → List ℕ
source_text (Some source) = source
source_text None = codes "none"

-- `owner A source S keep K threshold T snaps`
abbrev pub published_words : List (List ℕ) → LineInfo → List (List ℕ)
published_words names info =
    codes "owner" ∷ name_of names info.owner ∷ codes "source" ∷ source_text info.source ∷ codes "keep" ∷ decimal info.keep
    ∷ codes "threshold" ∷ decimal info.threshold ∷ codes "snaps" ∷ []

-- `L owner A source S keep K threshold T snaps` and the snapshots
abbrev pub published_line : List (List ℕ) → LineInfo → List ℕ
published_line names info = reply_line info.name (published_words names info ++ map snap_text info.snaps)

-- `ok N`, then a line for each published graph
abbrev pub lines_text : List (List ℕ) → List LineInfo → List ℕ
lines_text names infos = count_reply (length infos) ++ flat_map (published_line names) infos
