use Rattle.std.proofs.Common.{◌≡◌, ℕ, Bool, true, false, cond, refl, ◌+◌, ◌<◌, ◌≤◌, ◌++◌, ◌∷◌, [], ◌∙◌, pos, rules, arith, sym, ap, length, map, Fits, w32}
use mir.Val.{bool_byte}
use Rattle.std.specs.List.{range_with_len}
use Rattle.std.proofs.lemmas.Int.{to_z_pos}
use Rattle.std.proofs.lemmas.List.FromFn.{map-range_with_len_more}
use Rattle.graph_model.specs.Parts.{rank}
use Rattle.graph_model.specs.Seats.{sits_at}
use Rattle.graph_model.proofs.SeatPlaces.{rank_more, rank_low}
use Rattle.graph_model.proofs.places.ranks_of.Goals as goal

byte_is : (b : Bool) → bool_byte b ≡ cond {A = ℕ} b 1 0
byte_is true = refl
byte_is false = refl

pub overflow_cast-before : goal.overflow_cast-before
overflow_cast-before c =
    let l = c.loop-seat in
    let few : l.before < 2147483648 = omega (arith, l.invariant.count, rank_low c.args.table.now.seats l.seat, c.loop-seat-test.true, c.seats-seat-end.ensures, c.requires) in
    grind (arith, few)

pub overflow_add-before : goal.overflow_add-before
overflow_add-before c =
    let l = c.loop-seat in
    let few : l.before < 2147483648 = omega (arith, l.invariant.count, rank_low c.args.table.now.seats l.seat, c.loop-seat-test.true, c.seats-seat-end.ensures, c.requires) in
    grind (arith, few, c.from-before.ensures)

pub loop-seat-preserved : goal.loop-seat-preserved
loop-seat-preserved c =
    let l = c.loop-seat in
    let seats = c.args.table.now.seats in
    let within : l.seat < length seats = omega (arith, c.loop-seat-test.true, c.seats-seat-end.ensures) in
    let low : l.before < 2147483648 = omega (arith, l.invariant.count, rank_low seats l.seat, within, c.requires) in
    record {
      count = omega (arith, l.invariant.count, c.from-before.ensures, ap bool_byte c.sits.ensures, byte_is (sits_at seats l.seat), rank_more seats l.seat within);
      done = c.in_ok-push.ensures.ok
          ∙ ap (λ z. l.ranks ++ z ∷ []) (to_z_pos w32 l.before low ∙ ap pos l.invariant.count)
          ∙ ap (λ rs. rs ++ pos (rank seats l.seat) ∷ []) l.invariant.done
          ∙ sym (map-range_with_len_more (λ i. pos (rank seats i)) 0 l.seat l.seat (omega arith));
    }
