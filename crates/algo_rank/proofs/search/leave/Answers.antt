use Rattle.std.proofs.Common.{refl, sym, ◌∙◌, subst}
use Rattle.std.specs.Prelude.{Contains}
use Rattle.std.proofs.lemmas.List.Elements.{Contains-push}
use Rattle.algo_rank.specs.declared.search.Search.{Search}
use Rattle.algo_rank.proofs.Ends.{open_within}
use Rattle.algo_rank.proofs.Heads.{popped}
use Rattle.algo_rank.proofs.Moves.{search_left, search_closed, onward_closed}
use Rattle.algo_rank.proofs.search.leave.Goals as goal

pub close_block-requires-clause-place : goal.close_block-requires-clause-place
close_block-requires-clause-place c =
    let f = c.ends_with.ensures.0 c.if-ends_with.true in
    let is = sym c.as_slice.ensures.value ∙ f.1 in
    c.requires.blocks.within c.args.place (subst (λ ys. Contains ys c.args.place) (sym is) (Contains-push f.0 c.args.place))

pub close_block-requires-clause-within : goal.close_block-requires-clause-within
close_block-requires-clause-within c = λ p lt. open_within c.args.search.now.stages _ p (c.requires.vertices.placed p lt)

pub returns-then-ends_with-clause-search : goal.returns-then-ends_with-clause-search
returns-then-ends_with-clause-search c =
    let f = c.ends_with.ensures.0 c.if-ends_with.true in
    let is = sym c.as_slice.ensures.value ∙ f.1 in
    let e = c.close_block.ensures in
    let t : Search = record { stages = c.close_block.new.stages; path = c.close_block.new.path; heads = c.close_block.new.heads; tasks = c.args.search.now.tasks } in
    search_closed c.args.digraph.now c.args.search.now c.args.place c.requires f.0 is t e.stages.0 e.stages.1 e.stages.2 refl e.path (popped c.args.search.now.heads.items c.close_block.new.heads.items f.0 c.args.place _ is refl e.heads)

pub returns-then-ends_with-clause-onward : goal.returns-then-ends_with-clause-onward
returns-then-ends_with-clause-onward c =
    let f = c.ends_with.ensures.0 c.if-ends_with.true in
    let is = sym c.as_slice.ensures.value ∙ f.1 in
    let e = c.close_block.ensures in
    let t : Search = record { stages = c.close_block.new.stages; path = c.close_block.new.path; heads = c.close_block.new.heads; tasks = c.args.search.now.tasks } in
    onward_closed c.args.digraph.now c.args.search.now c.args.place c.requires f.0 is t e.stages.0 e.stages.1 e.stages.2 refl

pub returns-else-ends_with-clause-search : goal.returns-else-ends_with-clause-search
returns-else-ends_with-clause-search c =
    search_left c.args.digraph.now c.args.search.now c.args.place c.requires
    (λ f. (let yes = c.ends_with.ensures.1 (f.0, c.as_slice.ensures.value ∙ f.1) in let no : ⊥ = cc in no))
