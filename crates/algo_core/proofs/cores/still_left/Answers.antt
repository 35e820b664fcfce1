use Rattle.std.proofs.Common.{◌≡◌, ◌∙◌, ◌++◌, ◌∷◌, [], ap, sym, Some, slice_index, true, false}
use Rattle.std.proofs.lemmas.List.Elements.{Contains-get_or}
use Rattle.algo_core.specs.Peeling.{is_left}
use Rattle.algo_core.proofs.Levels.{filter_yes, filter_no}
use Rattle.algo_core.proofs.cores.still_left.Goals as goal
use Rattle.algo_core.proofs.cores.still_left.Goals.{then-is_free+in_ok-push, else-is_free}

pub is_free-requires : goal.is_free-requires
is_free-requires c = c.requires _ (Contains-get_or c.args.left.now c.loop-v.v-index 0 c.loop-v-test.true)

pub loop-v-preserved : goal.loop-v-preserved
loop-v-preserved c =
    let cores = c.args.cores.now in
    let left = c.args.left.now in
    let i = c.loop-v.v-index in
    let v = slice_index left i in
    let is = c.is_free.ensures.value (Some 0) in
    elim c.if-is_free.branch [
      | then-is_free+in_ok-push w ↦
          (let yes : is_left cores v ≡ true = sym is ∙ w.if-is_free.true in
          w.still-is ∙ w.in_ok-push.ensures.ok ∙ ap (λ l. l ++ v ∷ []) c.loop-v.invariant ∙ sym (filter_yes (is_left cores) left i c.loop-v-test.true yes))
      | else-is_free w ↦
          (let no : is_left cores v ≡ false = sym is ∙ w.if-is_free.false in
          w.still-is ∙ c.loop-v.invariant ∙ sym (filter_no (is_left cores) left i c.loop-v-test.true no))
    ]
