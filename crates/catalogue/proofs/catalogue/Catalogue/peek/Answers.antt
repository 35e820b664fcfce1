use Rattle.std.proofs.Common.{◌≡◌, ◌∙◌, ap, sym, None}
use Rattle.std.specs.Option.{option_copied}
use Rattle.catalogue_state.specs.State.{source_of}
use Rattle.catalogue.proofs.Drawing.{refused_peek}
use Rattle.catalogue.proofs.catalogue.Catalogue.peek.Goals as goal

pub returns-in-None-clause-ok : goal.returns-in-None-clause-ok
returns-in-None-clause-ok c =
    let m = c.args.self.now in
    let none : source_of m c.args.source.now ≡ None = sym c.source.ensures ∙ ap option_copied c.in-None.is in
    refused_peek m c.args.source.now _ c.refused.result none c.no_source.ensures c.refused.ensures
