use Rattle.std.proofs.Common.{rules}
use Rattle.std.proofs.KnownBytes.{Consumes-trans}
use Rattle.pgx_io.specs.ReadWrite.{TakesFront}
use Rattle.pgx_io.proofs.source.read_all.Goals as goal

pub returns-in_err-extend_from_slice-clause-left : goal.returns-in_err-extend_from_slice-clause-left
returns-in_err-extend_from_slice-clause-left g c =
    let taken : TakesFront (g.S.Source.seen c.args.source.now).rest (g.S.Source.seen c.read.new.self).rest =
    (_, Consumes-trans _ _ _ _ _ c.loop-turn.invariant.read c.in_ok-count.ensures.bytes.0) in
    search rules
