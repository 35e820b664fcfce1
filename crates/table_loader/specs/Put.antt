-- Records put into a graph one after another.
use Rattle.std.specs.Prelude.{ℕ, ◌+◌, List, [], ◌∷◌, Option, Some, None, Result, Ok, Err}
use Rattle.graph_model.specs.declared.change.Change.{Change}
use Rattle.graph_model.specs.declared.change.Why.{Why}
use Rattle.graph_model.specs.declared.change.Why.TheVariants.{KeyTaken, EndMissing}
use Rattle.graph_model.specs.declared.change.ApplyFault.{ApplyFault}
use Rattle.graph_model.specs.declared.change.ApplyFault.TheVariants as apply
use Rattle.graph_model.specs.Graph.{GraphData}
use Rattle.graph_model.specs.Change.{misfit, changed}
use Rattle.table_loader.specs.declared.fault.LoadFault.{LoadFault}
use Rattle.table_loader.specs.declared.fault.RecordFault.{RecordFault}
use Rattle.table_loader.specs.declared.fault.RecordFault.TheVariants as one
use Rattle.table_loader.specs.Fault.{◌>>=◌, at_record}

-- the fault of a row that does not fit: 11 for a key that is taken, 12 for an end that is missing, 13 for a limit that is
-- passed. A row that was read from a record of its table, or from a line, has no other cause.
abbrev pub fault_number : Why → ℕ
fault_number KeyTaken = 11
fault_number EndMissing = 12
fault_number why = 13

abbrev pub put_fault : ApplyFault → RecordFault
put_fault (apply.Misfit why) = one.Bad (fault_number why)
put_fault apply.NoMemory = one.NoMemory

abbrev pub unless_misfit : Option Why → GraphData → Result GraphData ℕ
unless_misfit (Some why) g = Err (fault_number why)
unless_misfit None g = Ok g

-- the graph after a change that fits, or the fault of one that does not
abbrev pub put : GraphData → Change → Result GraphData ℕ
put g c = unless_misfit (misfit g c) (changed g c)

-- the graph after a record, read as a change or with a fault
abbrev pub put_read : Result Change ℕ → GraphData → Result GraphData ℕ
put_read c g = c >>= put g

-- the graph after the records of a file, each read as a change or with a fault; the first of them has this number
unfoldable pub put_all : ℕ → ℕ → GraphData → List (Result Change ℕ) → Result GraphData LoadFault
put_all file row g [] = Ok g
put_all file row g (c ∷ cs) = at_record file row (put_read c g) >>= (λ h. put_all file (row + 1) h cs)
