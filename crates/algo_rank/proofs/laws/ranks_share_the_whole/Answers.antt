use Rattle.std.proofs.Common.{refl}
use Rattle.algo_rank.proofs.Shares.{ranks_whole}
use Rattle.algo_rank.proofs.laws.ranks_share_the_whole.Goals as goal

pub returns : goal.returns
returns c = record { sum = ranks_whole; start = λ g v. refl }
