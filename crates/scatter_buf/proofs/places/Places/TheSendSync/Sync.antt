use denote.RattleType.{RattleType}
use denote.Param.Send.{IsSync}
use Rattle.std.specs.declared.alloc.Allocator.{Ghosts}
use Rattle.scatter_buf.proofs.Crossing.{Places-sync}
use Rattle.scatter_buf.specs.contracts.places.Places.{the_row}

pub sync : (R A : RattleType) (g : Ghosts A.Denot) → IsSync R → IsSync (the_row R A g)
sync = Places-sync
