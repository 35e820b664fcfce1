use Rattle.std.proofs.Common.{◌∙◌, sym, eqb-true, eq-eqb}
use Rattle.scatter_buf.proofs.Kept.{full_by_count}
use Rattle.scatter_buf.proofs.scatter.ScatterBuf.full.Goals as goal

pub returns : goal.returns
returns g c =
    let b = c.self.inside in let kept = c.self.invariant.1 in let full = full_by_count b.places.values in
    rw (← c.self.view_is) (λ same. full.0 (kept.values ∙ eqb-true b.filled b.count same ∙ sym kept.size), λ all. eq-eqb b.filled b.count (sym kept.values ∙ full.1 all ∙ kept.size))
