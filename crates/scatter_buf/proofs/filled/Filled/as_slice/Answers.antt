use Rattle.std.proofs.Common.{ap, sym, ◌∙◌}
use Rattle.scatter_buf.proofs.Kept.{values_of-map}
use Rattle.scatter_buf.specs.Scatter.{values_of}
use Rattle.scatter_buf.proofs.filled.Filled.as_slice.Goals as goal

pub returns : goal.returns
returns g c = sym (values_of-map c.as_slice.result.now) ∙ ap values_of (sym c.as_slice.ensures) ∙ c.self.view_is
