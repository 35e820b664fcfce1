use Rattle.pgx_shell.proofs.program.act.Goals as goal

pub returns-in-Once-clause-written : goal.returns-in-Once-clause-written
returns-in-Once-clause-written g c = rw c.in-Once.is c.once.ensures.written

pub returns-in-Once-clause-left : goal.returns-in-Once-clause-left
returns-in-Once-clause-left g c = rw c.in-Once.is c.once.ensures.left

pub returns-in-Check-clause-written : goal.returns-in-Check-clause-written
returns-in-Check-clause-written g c = rw c.in-Check.is c.check.ensures.written

pub returns-in-Check-clause-left : goal.returns-in-Check-clause-left
returns-in-Check-clause-left g c = rw c.in-Check.is c.check.ensures.left
