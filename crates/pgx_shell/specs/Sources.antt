-- The stop that a fault of a source is.
use Rattle.std.specs.Prelude.{Result, Ok, Err}
use Rattle.source_open.specs.declared.fault.SourceFault.{SourceFault}
use Rattle.source_open.specs.declared.fault.SourceFault.TheVariants as source
use Rattle.pgx_shell.specs.declared.stop.Stop.{Stop}
use Rattle.pgx_shell.specs.declared.stop.Stop.TheVariants.{NoFile, BadConfig, BadTable, ReadFault, NoMemory}

-- the stop has the name and the numbers of the fault
abbrev pub source_stop : SourceFault → Stop
source_stop (source.NoFile name) = NoFile name
source_stop (source.BadConfig file fault) = BadConfig file fault
source_stop (source.BadTable file row number) = BadTable file row number
source_stop source.ReadFault = ReadFault
source_stop source.NoMemory = NoMemory

-- what sources open to, or the stop that their fault is
abbrev pub or_stop : {A : Type 0} → Result A SourceFault → Result A Stop
or_stop (Ok x) = Ok x
or_stop (Err fault) = Err (source_stop fault)
