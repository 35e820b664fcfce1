use Rattle.std.proofs.Common.{◌≡◌, ◌<◌, ◌≤◌, ◌∙◌, [], sym, ap, subst, length, get_or, set}
use Rattle.std.specs.List.{refill}
use Rattle.std.proofs.lemmas.List.{length-set, get_or_default, get_or-set_same}
use Rattle.std.proofs.lemmas.Result.{on_ok_weaker}
use Rattle.graph_model.specs.Counts.{CountsGrow, counts_of}
use Rattle.graph_model.proofs.Rows.{refill_same}
use Rattle.graph_model.proofs.CountLists.{grows_at}
use Rattle.graph_model.proofs.counts.grow_at.Goals as goal

pub returns-clause-grown : goal.returns-clause-grown
returns-clause-grown c =
    let cs = c.args.counts.now in
    let p = c.args.table in
    let d = c.grow.new.list in
    let lent = c.as_mut_slice.ensures.value in
    let after = ap (λ l. refill (length cs) cs (set l p d)) lent ∙ refill_same cs (set cs p d) (length-set cs p d) in
    let here = ap (λ l. get_or l p c.index-as_mut_slice-table.result) lent ∙ get_or_default cs p c.index-as_mut_slice-table.result [] c.requires in
    subst (CountsGrow cs) (sym after) (grows_at cs p d c.requires (subst (λ x. length x ≤ length d) here c.grow.ensures.long) (λ i. c.grow.ensures.each i ∙ ap (λ x. get_or x i 0) here))

pub returns-clause-ok : goal.returns-clause-ok
returns-clause-ok c =
    let cs = c.args.counts.now in
    let p = c.args.table in
    let d = c.grow.new.list in
    let lent = c.as_mut_slice.ensures.value in
    let after = ap (λ l. refill (length cs) cs (set l p d)) lent ∙ refill_same cs (set cs p d) (length-set cs p d) in
    let there = ap (λ l. get_or l p []) after ∙ get_or-set_same cs p d [] c.requires in
    on_ok_weaker c.grow.result (λ h. subst (λ x. c.args.seat < length x) (sym there) h) c.grow.ensures.ok
