use Rattle.std.proofs.Common.{◌∙◌, ◌+◌, ◌<◌, ◌++◌, ◌∷◌, [], sym, ap, arith, length-append, append_assoc}
use Rattle.std.proofs.lemmas.List.Elements.{All-push}
use Rattle.catalogue.specs.Registry.{Rows, new_rows}
use Rattle.catalogue.proofs.Uses.{row, new_rows_push}
use Rattle.catalogue.proofs.columns.add_parts.Goals as goal

pub loop-part-preserved : goal.loop-part-preserved
loop-part-preserved c =
    let p = c.in-Some.part in
    let done = c.loop-part.yielded in
    let first = c.args.first in
    let old = c.args.registry.now.rows in
    let inv = c.loop-part.invariant in
    let count = length-append done (p ∷ []) in
    record {
      id = omega (arith, inv.id, count);
      rows = c.add.ensures.rows ∙ ap (λ (l : Rows). l ++ row c.loop-part.id p ∷ []) inv.rows ∙ append_assoc old (new_rows first done) (row c.loop-part.id p ∷ [])
          ∙ ap (λ n. old ++ (new_rows first done ++ row n p ∷ [])) inv.id ∙ ap (λ (l : Rows). old ++ l) (sym (new_rows_push first done p));
      spare = omega (arith, inv.spare, c.add.ensures.spare, count);
      greatest = rw c.add.ensures.rows (All-push (λ r. r.id < c.loop-part.id + 1) c.loop-part.registry.rows (row c.loop-part.id p) (λ k d lt. omega (arith, inv.greatest k d lt)) (omega arith));
    }
