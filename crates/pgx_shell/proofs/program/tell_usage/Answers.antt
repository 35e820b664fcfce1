use Rattle.std.proofs.Common.{inl, inr, refl}
use Rattle.pgx_shell.specs.Ending.{usage, stopped}
use Rattle.pgx_shell.specs.declared.stop.Stop.TheVariants.{NoMemory}
use Rattle.pgx_shell.proofs.program.tell_usage.Goals as goal

pub returns-in-Ok : goal.returns-in-Ok
returns-in-Ok g c = (usage c.args.place, inl refl, rw (c.as_str.ensures, c.in-Ok.ensures) at c.tell.ensures.told)

pub returns-in-Err : goal.returns-in-Err
returns-in-Err g c = (stopped NoMemory, inr refl, c.tell-in-Err.ensures.told)
