-- What takes no memory gives all the more.
use Rattle.std.specs.Prelude.{Result, Ok, Err}
use Rattle.script_read.specs.declared.fault.LineFault.{LineFault}
use Rattle.script_read.specs.declared.fault.LineFault.TheVariants as fault
use Rattle.script_read.specs.declared.fault.LineWhy.{LineWhy}
use Rattle.script_read.specs.Faults.{Gives, GivesSurely, Writes, WritesSurely}

pub gives_surely : {A : Type 0} (result : Result A LineFault) (read : Result A LineWhy) → GivesSurely result read → Gives result read
gives_surely (Ok x) read h = h
gives_surely (Err (fault.Bad why)) read h = h
gives_surely (Err fault.NoMemory) read h = absurd h

pub writes_surely : {A B : Type 0} (result : Result B LineFault) (new : A) (read : Result A LineWhy) → WritesSurely result new read → Writes result new read
writes_surely (Ok done) new read h = h
writes_surely (Err (fault.Bad why)) new read h = h
writes_surely (Err fault.NoMemory) new read h = absurd h
