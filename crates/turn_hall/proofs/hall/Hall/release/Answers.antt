use Rattle.std.proofs.Common.{rules}
use Rattle.turn_hall.proofs.Steps.{releases_at}
use Rattle.turn_hall.proofs.hall.Hall.release.Goals as goal

pub fetch_add-requires : goal.fetch_add-requires
fetch_add-requires g c = let r = c.requires in let s = r.comes in
    (search rules, search rules, releases_at _ _ _ _ _ _ _ _ _ c.args.booked s.0 c.put_desk.ensures.me r.waiter r.holder r.live s.1 s.2)
