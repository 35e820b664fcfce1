use Rattle.std.proofs.Common.{◌≡◌, ap, sym, subst, arith, length, IfErr}
use Rattle.std.proofs.lemmas.Result.{err_from_is_err_and}
use Rattle.graph_schema.specs.Schema.{SchemaData}
use Rattle.graph_model.proofs.Zips.{AllZip-length}
use Rattle.algo_paths.specs.Reading.{ReadCause}
use Rattle.algo_paths.proofs.Causes.{weights_more, weights_whole, cause_on}
use Rattle.algo_paths.proofs.weights.edge_weights.Goals as goal

pub loop-table-preserved : goal.loop-table-preserved
loop-table-preserved c =
    let e = c.in_ok-push_weights.ensures in
    record {
      are = weights_more c.args.on.now c.args.name.now c.loop-table.table _ _ c.loop-table.invariant.are e.adds;
      fit = e.fit;
    }

pub returns-clause-are : goal.returns-clause-are
returns-clause-are c =
    let g = c.args.on.now in
    let all : c.loop-table.table ≡ length g.edges = omega (arith, ap length c.edges.ensures, ap (λ (s : SchemaData). length s.edges) c.schema.ensures, AllZip-length _ _ _ c.sound.ensures.edges, c.loop-table.auto.table-end, c.loop-table-test.false) in
    weights_whole g c.args.name.now c.loop-table.table _ all c.loop-table.invariant.are

pub returns-in_err-push_weights-clause-cause : goal.returns-in_err-push_weights-clause-cause
returns-in_err-push_weights-clause-cause c =
    let e = err_from_is_err_and c.from_residual.result c.from_residual.ensures.1 in
    let cause = cause_on c.args.on.now c.args.name.now c.loop-table.table _ c.in_err-push_weights.field-0.0 (omega (arith, ap length c.edges.ensures, ap (λ (s : SchemaData). length s.edges) c.schema.ensures, AllZip-length _ _ _ c.sound.ensures.edges, c.loop-table-test.true)) c.loop-table.invariant.are c.in_err-push_weights.ensures.cause in
    subst (λ r. IfErr r (ReadCause c.args.on.now c.args.name.now)) (sym e.1) (subst (ReadCause c.args.on.now c.args.name.now) (sym e.2) cause)
