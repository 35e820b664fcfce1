use Rattle.std.proofs.Common.{◌≡◌, refl}
use Rattle.turn_hall.proofs.Histories.{replay-keeps}
use Rattle.turn_hall.proofs.laws.what_each_step_keeps_stays.Goals as goal

pub returns : goal.returns
returns g c = λ s xs. replay-keeps g.D.Desk.step (λ t. g.D.Desk.opening t ≡ g.D.Desk.opening s) (λ t who n e. rw (g.met.D.Desk.keeps_opening t who n) e) s xs refl
