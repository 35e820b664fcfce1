use Rattle.std.proofs.Common.{◌∙◌, List, [], ap, sym, arith, length, get_or}
use Rattle.std.proofs.lemmas.List.{length-replicate, get_or-replicate}
use Rattle.catalogue_hall.specs.declared.held.Named.{Named}
use Rattle.catalogue_hall.specs.History.{History, held_by}
use Rattle.call_tries.proofs.callers.Callers.new.Goals as goal

abbrev no_graphs : List Named
no_graphs = []

pub invariant_of-result : goal.invariant_of-result
invariant_of-result c = record {
  up_to_date = λ who within.
      let helds = c.in_ok-helds.ensures in
      ap (λ items. get_or items who []) helds
      ∙ get_or-replicate 300 who no_graphs [] (omega (arith, within, ap length helds, length-replicate 300 no_graphs))
      ∙ sym (ap (λ (h : History). held_by h who) c.in_ok-alone.ensures);
}
