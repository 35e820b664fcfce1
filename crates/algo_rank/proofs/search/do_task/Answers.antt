use Rattle.std.proofs.Common.{subst}
use Rattle.algo_rank.specs.Search.{IsTaken}
use Rattle.algo_rank.proofs.Moves.{going_along, vertex_along}
use Rattle.algo_rank.proofs.search.do_task.Goals as goal

pub go_to-requires-clause-vertex : goal.go_to-requires-clause-vertex
go_to-requires-clause-vertex c =
    vertex_along c.args.digraph.now c.args.search.now c.in-Follow.to (subst (IsTaken c.args.digraph.now c.args.search.now) c.in-Follow.is c.requires) c.sound.ensures

pub go_to-requires-clause-search : goal.go_to-requires-clause-search
go_to-requires-clause-search c = going_along c.args.digraph.now c.args.search.now c.in-Follow.to (subst (IsTaken c.args.digraph.now c.args.search.now) c.in-Follow.is c.requires)

pub leave-requires : goal.leave-requires
leave-requires c = subst (IsTaken c.args.digraph.now c.args.search.now) c.in-Leave.is c.requires
