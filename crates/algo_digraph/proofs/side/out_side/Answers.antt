use Rattle.std.proofs.Common.{◌∙◌, ap, sym, arith, length, take, refl}
use Rattle.std.specs.Prelude.{sum}
use Rattle.graph_model.specs.Graph.{source_at, destination_at}
use Rattle.graph_slots.specs.Meaning.{source_places}
use Rattle.csr_rows.specs.Rows.{rows_of}
use Rattle.algo_digraph.proofs.Tables.{ends_there, same_rows}
use Rattle.algo_digraph.proofs.side.out_side.Goals as goal

pub first-requires : goal.first-requires
first-requires c = omega (arith, c.source_table.ensures, ap length c.requires.order, ends_there c.args.on.now c.args.table c.sound.ensures c.requires.table)

pub first-requires-2 : goal.first-requires-2
first-requires-2 c = omega (arith, c.destination_table.ensures, ap length c.requires.order, ends_there c.args.on.now c.args.table c.sound.ensures c.requires.table)

pub returns : goal.returns
returns c =
    let g = c.args.on.now in
    let t = c.args.table in
    record {
      number = refl;
      here_first = c.first.ensures ∙ ap (λ k. sum (take k c.args.order.now)) c.source_table.ensures ∙ ap (λ sizes. sum (take (source_at g.schema t) sizes)) c.requires.order;
      there_first = c.first-2.ensures ∙ ap (λ k. sum (take k c.args.order.now)) c.destination_table.ensures ∙ ap (λ sizes. sum (take (destination_at g.schema t) sizes)) c.requires.order;
      rows = sym (same_rows (rows_of (source_places g t)) c.rows.result.now c.rows.ensures);
      ends = c.destination_places.ensures;
    }
