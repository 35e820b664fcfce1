use Rattle.std.proofs.Common.{arith}
use Rattle.script_read.proofs.Numbers.{key_again}
use Rattle.script_read.proofs.laws.keys_read_back.Goals as goal

pub returns : goal.returns
returns c = key_again c.args.n c.ranges.n (omega (arith, c.ranges.n.sfits))
