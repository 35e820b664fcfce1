use Rattle.std.proofs.Common.{◌∙◌, ap}
use Rattle.catalogue_state.specs.State.{line_of}
use Rattle.catalogue.proofs.catalogue.Catalogue.snap_to_append.Goals as goal

pub returns-clause-may : goal.returns-clause-may
returns-clause-may c =
    let m = c.args.self.now in
    let a = c.in_ok-coming.ensures.arrives in
    record {
      published = c.in_ok-graph.published.now;
      is = ap (line_of m) (c.in_ok-from_str.ensures ∙ c.as_str.ensures) ∙ c.in_ok-graph.ensures.line;
      few = a.few;
      numbered = a.numbered;
    }
