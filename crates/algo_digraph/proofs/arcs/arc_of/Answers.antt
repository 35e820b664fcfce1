use Rattle.std.proofs.Common.{w32, FitsSigned, rules, pos, slice_index_or, refl}
use Rattle.std.proofs.lemmas.Int.{to_z-of_z}
use Rattle.algo_digraph.proofs.Ends.{cast_fits, end_of}
use Rattle.algo_digraph.proofs.arcs.arc_of.Goals as goal

pub overflow_cast-result-2 : goal.overflow_cast-result-2
overflow_cast-result-2 c =
    let z = slice_index_or c.args.there.now c.args.place (pos 0) in
    let fits : FitsSigned w32 z = search rules in
    let end = end_of 1048576 c.args.there_first c.args.there.now c.args.place c.requires.ends c.requires.place in
    rw (to_z-of_z w32 z fits) (cast_fits z end.0 end.1 fits)

pub returns : goal.returns
returns c =
    let z = slice_index_or c.args.there.now c.args.place (pos 0) in
    let fits : FitsSigned w32 z = search rules in
    rw (to_z-of_z w32 z fits) refl
