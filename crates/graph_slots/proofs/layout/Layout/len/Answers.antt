use Rattle.std.proofs.Common.{◌≤◌, length, arith, ap, rules}
use Rattle.graph_slots.proofs.Few.{slots_few}
use Rattle.graph_slots.proofs.layout.Layout.len.Goals as goal

pub overflow_cast-result : goal.overflow_cast-result
overflow_cast-result c =
    let few : c.len.result ≤ 2208 = omega (arith, slots_few c.self.inside.schema c.sound.ensures, c.len.ensures, ap length c.self.invariant.names_are) in
    search rules

pub returns-clause-few : goal.returns-clause-few
returns-clause-few c = omega (arith, slots_few c.self.inside.schema c.sound.ensures, c.len.ensures, ap length c.self.invariant.names_are)
