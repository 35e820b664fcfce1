use Rattle.std.proofs.Common.{rules}
use Rattle.turn_hall.proofs.Steps.{commits_at}
use Rattle.turn_hall.proofs.hall.Hall.commit.Goals as goal

pub fetch_add-requires : goal.fetch_add-requires
fetch_add-requires g c = let r = c.requires in let s = r.comes in let t = r.grown in
    (search rules, search rules, commits_at _ _ _ _ _ _ _ _ _ t.0 c.args.booked t.1 s.0 c.put_desk.ensures.me r.waiter t.2 r.live s.1 s.2 t.3 t.4 r.left)
