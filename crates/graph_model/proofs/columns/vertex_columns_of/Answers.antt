use Rattle.std.proofs.Common.{◌≡◌, ◌+◌, ◌++◌, ◌∷◌, [], ◌∙◌, arith, sym, ap, subst, length, get_or}
use Rattle.std.proofs.lemmas.List.{length_push, get_or_default}
use Rattle.graph_model.specs.Seats.{TableData}
use Rattle.graph_model.specs.Stored.{table_at, no_table}
use Rattle.graph_model.specs.Parts.{AreEach, HasVertexParts}
use Rattle.graph_model.proofs.ColumnsOf.{each_push, next_item}
use Rattle.graph_model.proofs.columns.vertex_columns_of.Goals as goal

pub loop-table-preserved : goal.loop-table-preserved
loop-table-preserved c =
    let l = c.loop-table in
    let next = next_item l.yielded l.table-iterator.rest.items _ c.args.tables c.in-Some.table l.invariant.whole c.in-Some.ensures.steps.0 in
    let here : c.in-Some.table ≡ table_at c.args.tables (length l.yielded) =
    sym next.1 ∙ get_or_default c.args.tables (length l.yielded) c.in-Some.table no_table next.0 in
    let more = length_push l.yielded c.in-Some.table in
    record {
      whole = next.2;
      done = rw c.in_ok-push.ensures.ok (subst (λ n. AreEach (λ t x. HasVertexParts (table_at c.args.tables t) x) n (l.columns ++ c.in_ok-vertex_columns.field-0 ∷ [])) (sym more)
          (each_push (λ t x. HasVertexParts (table_at c.args.tables t) x) (length l.yielded) l.columns c.in_ok-vertex_columns.field-0 l.invariant.done
          (subst (λ x. HasVertexParts x c.in_ok-vertex_columns.field-0) here c.in_ok-vertex_columns.ensures)));
    }
