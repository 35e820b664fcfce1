use Rattle.std.proofs.Common.{refl}
use Rattle.algo_rank.specs.declared.search.Search.{Search}
use Rattle.algo_rank.proofs.Moves.{going_first, task_taken}
use Rattle.algo_rank.proofs.search.search_from.Goals as goal

pub go_to-requires-clause-search : goal.go_to-requires-clause-search
go_to-requires-clause-search c = going_first c.args.digraph.now c.args.search.now c.args.v c.requires.search c.requires.tasks

pub do_task-requires : goal.do_task-requires
do_task-requires c =
    let s : Search = c.tasks.search in
    let t : Search = record { stages = s.stages; path = s.path; heads = s.heads; tasks = c.pop.new.self } in
    task_taken c.args.digraph.now s t c.in-Some.task c.tasks.invariant.search refl refl refl c.in-Some.ensures.items
