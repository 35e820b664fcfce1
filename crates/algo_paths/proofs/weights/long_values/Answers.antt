use Rattle.std.proofs.Common.{◌<◌, ap, length, arith, rules}
use Rattle.algo_paths.proofs.Told.{few_props}
use Rattle.algo_paths.proofs.weights.long_values.Goals as goal

pub overflow_cast-prop : goal.overflow_cast-prop
overflow_cast-prop c =
    let small : c.args.prop < 64 = omega (arith, ap length c.table_props.ensures, c.if-prop-table_props.false, few_props c.args.on.now c.args.table c.sound.ensures c.requires.table) in
    search rules
