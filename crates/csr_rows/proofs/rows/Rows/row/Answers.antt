use Rattle.std.proofs.Common.{rules}
use Rattle.csr_rows.proofs.Offsets.{row_there, row_past}
use Rattle.csr_rows.proofs.rows.Rows.row.Goals as goal

pub returns-then-next-offsets : goal.returns-then-next-offsets
returns-then-next-offsets c =
    let past = row_past c.self.inside.offsets c.self.inside.places c.args.i in
    search rules

pub returns : goal.returns
returns c =
    let there = row_there c.self.inside.offsets c.self.inside.places c.args.i in
    search rules
