use Rattle.script_read.proofs.Written.{rest_due, name_again, rest_again}
use Rattle.script_read.proofs.laws.rests_read_back.Goals as goal

pub returns-clause-due : goal.returns-clause-due
returns-clause-due c = rest_due c.args.word.now c.args.name.now c.args.behind.now c.requires.word c.requires.name c.requires.behind

pub returns-clause-name : goal.returns-clause-name
returns-clause-name c = name_again c.args.word.now c.args.name.now c.args.behind.now c.requires.word c.requires.name

pub returns-clause-rest : goal.returns-clause-rest
returns-clause-rest c = rest_again c.args.word.now c.args.name.now c.args.behind.now c.requires.word c.requires.name
