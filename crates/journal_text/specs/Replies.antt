-- The texts of replies and refusals.
use Rattle.std.specs.Prelude.{ℕ, List, [], ◌∷◌, map, codes}
use Rattle.std.specs.Fmt.{decimal}
use Rattle.catalogue_state.specs.declared.reply.Reply.{Reply}
use Rattle.catalogue_state.specs.declared.reply.Reply.TheVariants.{Done, Front, Sid, Columns, Lines, Refused}
use Rattle.catalogue_state.specs.declared.reply.Refusal.{Refusal}
use Rattle.catalogue_state.specs.declared.reply.Refusal.TheVariants.{TooBig, BadRow, BadChange, MixedEnds, KeysSpent, SessionsFull, NoSource, NameTaken, GraphsFull, NoName, NotPrivate, LineTaken, LinesFull, NoLine, NotOwner, NoSnapshot, Sourced, NotLatest, NotVisible, NotPinned, NotOpen, AlreadyOpen}
use Rattle.journal_text.specs.Causes.{cause_word, why_name}
use Rattle.journal_text.specs.Lines.{reply_line}
use Rattle.journal_text.specs.Published.{lines_text}

-- a refusal: its number, its name and its values
abbrev pub refused : ℕ → List ℕ → List (List ℕ) → List ℕ
refused number name values = reply_line (codes "refused") (decimal number ∷ name ∷ values)

abbrev pub refusal_text : Refusal → List ℕ
refusal_text TooBig = refused 2 (codes "TooBig") []
refusal_text (BadRow row cause) = refused 14 (codes "BadRow") (decimal row ∷ cause_word cause ∷ [])
refusal_text (BadChange place why) = refused 15 (codes "BadChange") (decimal place ∷ why_name why ∷ [])
refusal_text (MixedEnds table) = refused 16 (codes "MixedEnds") (table ∷ [])
refusal_text KeysSpent = refused 17 (codes "KeysSpent") []
refusal_text SessionsFull = refused 18 (codes "SessionsFull") []
refusal_text (NoSource name) = refused 19 (codes "NoSource") (name ∷ [])
refusal_text (NameTaken name) = refused 21 (codes "NameTaken") (name ∷ [])
refusal_text GraphsFull = refused 22 (codes "GraphsFull") []
refusal_text (NoName name) = refused 23 (codes "NoName") (name ∷ [])
refusal_text (NotPrivate name) = refused 24 (codes "NotPrivate") (name ∷ [])
refusal_text (LineTaken line) = refused 25 (codes "LineTaken") (line ∷ [])
refusal_text LinesFull = refused 26 (codes "LinesFull") []
refusal_text (NoLine line) = refused 27 (codes "NoLine") (line ∷ [])
refusal_text (NotOwner line) = refused 28 (codes "NotOwner") (line ∷ [])
refusal_text (NoSnapshot sid) = refused 29 (codes "NoSnapshot") (decimal sid ∷ [])
refusal_text (Sourced line) = refused 30 (codes "Sourced") (line ∷ [])
refusal_text (NotLatest sid) = refused 31 (codes "NotLatest") (decimal sid ∷ [])
refusal_text (NotVisible visible) = refused 32 (codes "NotVisible") (decimal visible ∷ [])
refusal_text (NotPinned name) = refused 33 (codes "NotPinned") (name ∷ [])
refusal_text NotOpen = refused 48 (codes "NotOpen") []
refusal_text AlreadyOpen = refused 49 (codes "AlreadyOpen") []

-- the lines of a reply; the actors have these names
abbrev pub reply_text : List (List ℕ) → Reply → List ℕ
reply_text names Done = reply_line (codes "ok") []
reply_text names (Front front) = reply_line (codes "ok") (codes "front" ∷ decimal front ∷ [])
reply_text names (Sid sid) = reply_line (codes "ok") (codes "sid" ∷ decimal sid ∷ [])
reply_text names (Columns columns) = reply_line (codes "ok") (map decimal columns)
reply_text names (Lines infos) = lines_text names infos
reply_text names (Refused refusal) = refusal_text refusal

-- the line of a call that found no memory
abbrev pub starved_text : List ℕ
starved_text = codes "  no memory\n"
