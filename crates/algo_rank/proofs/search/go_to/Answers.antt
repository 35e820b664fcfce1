use Rattle.std.proofs.Common.{◌≡◌, refl, rules}
use Rattle.algo_rank.specs.declared.search.Search.{Search}
use Rattle.algo_rank.specs.declared.search.Stage.TheVariants.{Open}
use Rattle.algo_rank.specs.Search.{stage_of}
use Rattle.algo_rank.proofs.Moves.{search_joined}
use Rattle.algo_rank.proofs.search.go_to.Goals as goal

pub returns-in-Open-clause-search : goal.returns-in-Open-clause-search
returns-in-Open-clause-search c =
    let s : Search = c.args.search.now in
    let t : Search = record { stages = s.stages; path = s.path; heads = c.join_blocks.new.heads; tasks = s.tasks } in
    let at : stage_of s.stages c.args.to ≡ Open c.in-Open.place = search rules in
    search_joined c.args.digraph.now s c.args.to c.requires.search c.in-Open.place t at refl refl c.join_blocks.ensures refl
