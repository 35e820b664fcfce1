use Rattle.std.proofs.Common.{◌≡◌, List, ℕ, length, ap, ◌∙◌, arith}
use Rattle.scatter_buf.specs.Marks.{is_marked}
use Rattle.scatter_buf.proofs.Kept.{below, kept_put, written_back}
use Rattle.scatter_buf.proofs.scatter.ScatterBuf.put.Goals as goal

pub overflow_add-self : goal.overflow_add-self
overflow_add-self g c =
    let cs = c.self.inside.places.values in let kept = c.self.invariant.1 in
    record { fits = omega (arith, below cs c.args.place c.args.value (rw (← c.self.view_is) at c.requires.empty), kept.values, kept.size) }

pub invariant_of-self : goal.invariant_of-self
invariant_of-self g c =
    let marks = c.self.inside.marks in let new = c.mark.new.words in let kept = c.self.invariant.1 in
    let long : length new ≡ length marks.items = c.mark.auto.words ∙ ap length c.deref_mut.ensures.value in
    let back = written_back marks.len new marks.items marks.ok.0 long in (
      c.write.ensures.1 ∙ c.self.invariant.0,
      rw (c.write.ensures.0, back)
          (kept_put c.self.inside.places.values c.args.place c.args.value (rw (← c.self.view_is) at c.requires.empty) marks.items new c.self.inside.count c.self.inside.filled kept long c.mark.ensures.marked
          (λ other apart. c.mark.ensures.others other apart ∙ ap (λ (words : List ℕ). is_marked words other) c.deref_mut.ensures.value)),
    )
