use Rattle.std.proofs.Common.{◌<◌, arith}
use Rattle.std.proofs.lemmas.List.Elements.{All-push}
use Rattle.std.proofs.lemmas.List.Quantifiers.{all_pairs_push}
use Rattle.column_reclaim.proofs.registry.Registry.add.Goals as goal

pub invariant_of-self : goal.invariant_of-self
invariant_of-self g c = record {
  room = omega (arith, c.push_reserved.ensures.len, c.push_reserved.ensures.capacity, c.self.invariant.room, rw (← c.self.view_is) at c.requires.spare);
  rises = rw c.push_reserved.ensures.items (all_pairs_push (λ r s. r.id < s.id) _ _ c.self.invariant.rises (rw (← c.self.view_is) at c.requires.greatest));
  counted = rw c.push_reserved.ensures.items (All-push (λ r. 0 < r.count) _ _ c.self.invariant.counted (omega arith));
}
