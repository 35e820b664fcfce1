-- The text of a journal.
use Rattle.std.specs.Prelude.{ℕ, List, [], ◌++◌, codes, Option, Some, None}
use Rattle.std.specs.List.{flat_map}
use Rattle.std.specs.Fmt.{decimal}
use Rattle.actor_records.specs.declared.record.Did.TheVariants.{Core, Local, Starved}
use Rattle.journal_text.specs.Asks.{ask_text}
use Rattle.journal_text.specs.Lines.{reply_line, count_reply}
use Rattle.journal_text.specs.Replies.{reply_text, refusal_text, starved_text}
use Rattle.journal_text.specs.Names.{name_of}
use Rattle.journal_text.specs.Graphs.{text_of}
use Rattle.session_run.specs.declared.record.LocalReply.{LocalReply}
use Rattle.session_run.specs.declared.record.LocalReply.TheVariants.{Done, Count, Rows, Refused}
use Rattle.session_run.specs.Record.{ActorDid, ActorRecord}

-- where a record stands: N, or N.J for one that is no core record
abbrev pub place_text : Option ℕ → ℕ → ℕ → List ℕ
place_text (Some number) after index = decimal number
place_text None after index = decimal after ++ codes "." ++ decimal index

-- `[N WHO] ` or `[N.J WHO] `
abbrev pub head_text : List (List ℕ) → ActorRecord → List ℕ
head_text names r = codes "[" ++ place_text r.number r.after r.index ++ codes " " ++ name_of names r.who ++ codes "] "

-- the reply lines of a local command
abbrev pub local_text : LocalReply → List ℕ
local_text Done = reply_line (codes "ok") []
local_text (Count n) = count_reply n
local_text (Rows graph) = text_of graph
local_text (Refused refusal) = refusal_text refusal

-- the call or the command, and the reply lines; the actors have these names
abbrev pub did_text : List (List ℕ) → ActorDid → List ℕ
did_text names (Core ask reply) = ask_text ask ++ codes "\n" ++ reply_text names reply
did_text names (Local command reply) = command.line ++ codes "\n" ++ local_text reply
did_text names (Starved head) = head ++ codes "\n" ++ starved_text

-- the head line and the reply lines of a record
abbrev pub record_text : List (List ℕ) → ActorRecord → List ℕ
record_text names r = head_text names r ++ did_text names r.did

abbrev pub journal_text : List (List ℕ) → List ActorRecord → List ℕ
journal_text names records = flat_map (record_text names) records
