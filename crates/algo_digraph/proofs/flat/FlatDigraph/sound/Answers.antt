use Rattle.algo_digraph.proofs.Flats.{closed}
use Rattle.algo_digraph.proofs.flat.FlatDigraph.sound.Goals as goal

pub returns : goal.returns
returns c = let s = c.self in rw (← s.view_is) (closed s.inside.vertices s.inside.out s.inside.into s.invariant)
