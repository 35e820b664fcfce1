use Rattle.std.proofs.Common.{◌≡◌, ◌∙◌, sym, ap, refl, List, ℕ}
use Rattle.catalogue_state.specs.declared.reply.Reply.TheVariants.{Columns}
use Rattle.catalogue_state.specs.State.{reach}
use Rattle.catalogue.proofs.catalogue.Catalogue.columns.Goals as goal

pub returns : goal.returns
returns c =
    let is : c.in_ok-kept.kept ≡ reach c.args.self.now = c.in_ok-kept.ensures ∙ c.registry.ensures.numbers in
    let copy : c.in_ok-reply.reply ≡ c.in_ok-kept.kept = c.in_ok-reply.ensures ∙ c.as_slice.ensures in
    λ who. record {
      step = ap (λ (l : List ℕ). (Columns l, c.args.self.now)) (sym (copy ∙ is));
      kept = ap Columns (sym copy);
      gift = refl;
    }
