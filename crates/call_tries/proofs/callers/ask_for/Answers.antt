use Rattle.std.proofs.Common.{ap, ◌∙◌, [], length, get_or, length-set}
use Rattle.std.specs.Prelude.{slice_set}
use Rattle.std.specs.List.{refill}
use Rattle.std.proofs.lemmas.List.{get_or_default}
use Rattle.graph_model.proofs.Rows.{refill_same}
use Rattle.call_tries.proofs.KeptUp.{kept_up}
use Rattle.call_tries.proofs.callers.ask_for.Goals as goal

pub returns : goal.returns
returns g c =
    let helds = c.args.helds.now in
    let who = c.args.who in
    let blank = c.replace-held.new.dest in
    let left = ap (λ items. refill (length helds) helds (slice_set items who blank)) c.as_mut_slice.ensures.value ∙ refill_same helds (slice_set helds who blank) (length-set helds who blank) in
    let was =
    c.replace-held.ensures.value
    ∙ (ap (λ items. get_or items who c.index-as_mut_slice-who.result) c.as_mut_slice.ensures.value
    ∙ (get_or_default helds who c.index-as_mut_slice-who.result [] c.requires.who
    ∙ c.requires.up_to_date who c.requires.who)) in
    rw (c.set.ensures, left)
    (kept_up c.args.alone.now c.ask-told.new.self helds who c.args.ask blank c.replace-held.result c.ask-told.new.held c.ask-told.result c.requires.who c.ask-told.ensures.book c.ask-told.ensures.held c.ask-told.ensures.err
    was c.requires.up_to_date)
