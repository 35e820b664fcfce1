-- How a call of the program ends: what it says, the status, and why.
use Rattle.std.specs.Prelude.{◌≡◌, ◌⊎◌, ◌==◌, ℕ, List, [], ◌++◌, None, IsSome, IsSomeAnd, codes, if◌then◌else◌, ⊤}
use Rattle.std.specs.Fmt.{decimal}
use Rattle.std.specs.Io.KnownBytes.{Appends}
use Rattle.pgx_io.specs.Seen.{SinkSeen, SinkFailed}
use Rattle.pgx_io.specs.ReadWrite.{AppendsFront}
use Rattle.graph_config.specs.declared.fault.ConfigFault.{ConfigFault}
use Rattle.graph_config.specs.declared.fault.ConfigFault.TheVariants as config_fault
use Rattle.pgx_shell.specs.Causes.{CauseOf}
use Rattle.pgx_shell.specs.FaultNames.{config_fault_name, table_fault_name}
use Rattle.pgx_shell.specs.Outside.{Outside, ReadFailed}
use Rattle.pgx_shell.specs.Texts.{Outcome, ActionOutcome}
use Rattle.pgx_shell.specs.Words.{form_of, IsUsage}
use Rattle.script_read.specs.declared.fault.LineWhy.{LineWhy}
use Rattle.script_read.specs.declared.fault.LineWhy.TheVariants as why
use Rattle.pgx_shell.specs.declared.stop.Stop.{Stop}
use Rattle.pgx_shell.specs.declared.stop.Stop.TheVariants.{TooLong, BadLine, NoFile, BadConfig, BadTable, ReadFault, WriteFault, NoMemory}

-- the word of a line's fault
abbrev pub why_text : LineWhy → List ℕ
why_text why.Utf8 = codes "utf8"
why_text why.Word = codes "word"
why_text why.Later = codes "later"
why_text why.Form = codes "form"
why_text why.Name = codes "name"
why_text why.Number = codes "number"
why_text why.Twice = codes "twice"
why_text why.Many = codes "many"
why_text why.End = codes "end"

-- the path of a configuration's fault, behind a space; 3 has none
abbrev pub path_text : ℕ → List ℕ → List ℕ
path_text number path = if number == 3 then [] else codes " " ++ path

-- a configuration's fault; that of a stop has a number (`HasNumber`), so the last line is never written
abbrev pub config_fault_text : ConfigFault → List ℕ
config_fault_text (config_fault.At number path) = codes "fault " ++ decimal number ++ codes " " ++ config_fault_name number ++ path_text number path
config_fault_text config_fault.NoMemory = codes "no memory"

-- the line that is written for a stop
abbrev pub error_line : Stop → List ℕ
error_line TooLong = codes "error script longer than 16777216 bytes\n"
error_line (BadLine line why) = codes "error line " ++ decimal line ++ codes " fault 47 " ++ why_text why ++ codes "\n"
error_line (NoFile name) = codes "error no file " ++ name ++ codes "\n"
error_line (BadConfig file fault) = codes "error config " ++ file ++ codes " " ++ config_fault_text fault ++ codes "\n"
error_line (BadTable file row number) =
    codes "error table " ++ file ++ codes " record " ++ decimal row ++ codes " fault " ++ decimal number ++ codes " " ++ table_fault_name number
    ++ codes "\n"
error_line ReadFault = codes "error read fault\n"
error_line WriteFault = []
error_line NoMemory = codes "error no memory\n"

abbrev pub stop_status : Stop → ℕ
stop_status TooLong = 3
stop_status (BadLine line why) = 3
stop_status (NoFile name) = 4
stop_status (BadConfig file fault) = 4
stop_status (BadTable file row number) = 4
stop_status NoMemory = 5
stop_status ReadFault = 6
stop_status WriteFault = 7

-- what a call comes to: the words are no form, or a command did its work, or it stopped
pub data Ending : Type 0 where
  usage : ℕ → Ending
  done : Outcome → Ending
  stopped : Stop → Ending

abbrev pub ending_text : Ending → List ℕ
ending_text (usage place) = codes "usage " ++ decimal place ++ codes "\n"
ending_text (done outcome) = outcome.text
ending_text (stopped stop) = error_line stop

abbrev pub ending_status : Ending → ℕ
ending_status (usage place) = 2
ending_status (done outcome) = 0
ending_status (stopped stop) = stop_status stop

-- the words are a form, and the stop has its cause
abbrev pub FormStopped : List (List ℕ) → Outside → Outside → Stop → Type 0
FormStopped words before after stop = IsSome (form_of words) × CauseOf before.source.rest before.library.files (ReadFailed before after) ⊥ stop

-- When each stop ends a call: the words are a form, and the stop has its cause. A fault in writing ends none: it is told by the status
-- alone. Memory may run out at any time.
abbrev pub StoppedCause : List (List ℕ) → Outside → Outside → Stop → Type 0
StoppedCause words before after TooLong = FormStopped words before after TooLong
StoppedCause words before after (BadLine line why) = FormStopped words before after (BadLine line why)
StoppedCause words before after (NoFile name) = FormStopped words before after (NoFile name)
StoppedCause words before after (BadConfig file fault) = FormStopped words before after (BadConfig file fault)
StoppedCause words before after (BadTable file row number) = FormStopped words before after (BadTable file row number)
StoppedCause words before after ReadFault = FormStopped words before after ReadFault
StoppedCause words before after WriteFault = FormStopped words before after WriteFault
StoppedCause words before after NoMemory = ⊤

-- when each ending comes
abbrev pub EndingCause : List (List ℕ) → Outside → Outside → Ending → Type 0
EndingCause words before after (usage place) = (form_of words ≡ None) × IsUsage words place
EndingCause words before after (done outcome) = IsSomeAnd (form_of words) (λ action. ActionOutcome action before.source.rest before.library.files outcome)
EndingCause words before after (stopped stop) = StoppedCause words before after stop

-- The sink took the whole text and this is its status; or it took a prefix of it, failed, and the status is 7.
abbrev pub WritesOrFails : SinkSeen → SinkSeen → List ℕ → ℕ → ℕ → Type 0
WritesOrFails before after text status code =
    ((code ≡ status) × Appends before.taken after.taken text) ⊎ ((code ≡ 7) × SinkFailed before after × AppendsFront before.taken after.taken text)

-- every ending has its cause, its text and its status
abbrev pub EndsWell : List (List ℕ) → Outside → Outside → ℕ → Type 0
EndsWell words before after code =
    (ending : Ending) × EndingCause words before after ending × WritesOrFails before.sink after.sink (ending_text ending) (ending_status ending) code

-- The line of a stop is told, or, where there is no memory for it, that there is none.
abbrev pub LineTold : SinkSeen → SinkSeen → Stop → ℕ → Type 0
LineTold before after stop code =
    WritesOrFails before after (error_line stop) (stop_status stop) code ⊎ WritesOrFails before after (error_line NoMemory) (stop_status NoMemory) code

-- What ending a call does after a stop: nothing after a fault in writing, else it tells the line of the stop.
abbrev pub StopTold : SinkSeen → SinkSeen → Stop → ℕ → Type 0
StopTold before after TooLong code = LineTold before after TooLong code
StopTold before after (BadLine line why) code = LineTold before after (BadLine line why) code
StopTold before after (NoFile name) code = LineTold before after (NoFile name) code
StopTold before after (BadConfig file fault) code = LineTold before after (BadConfig file fault) code
StopTold before after (BadTable file row number) code = LineTold before after (BadTable file row number) code
StopTold before after ReadFault code = LineTold before after ReadFault code
StopTold before after WriteFault code = (code ≡ 7) × (after.taken ≡ before.taken)
StopTold before after NoMemory code = LineTold before after NoMemory code
