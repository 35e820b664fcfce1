use Rattle.std.proofs.Common.{rules, sym, ap, ◌∙◌, ◌≡◌, [], ◌∷◌, ◌++◌, subst, Some}
use Rattle.atomic_table.specs.Table.{opening}
use Rattle.turn_hall.specs.Rule.{Rule}
use Rattle.turn_hall.specs.Steps.{first_view}
use Rattle.turn_hall.specs.Handle.{FitsDesk, book_of}
use Rattle.turn_hall.proofs.Seats.{opens}
use Rattle.turn_hall.proofs.Grown.{comes_fresh}
use Rattle.turn_hall.proofs.hall.Hall.new.Goals as goal

pub new-requires : goal.new-requires
new-requires g c = let d = g.D.Desk in let start = d.state c.of.result.value in let b = c.new-booked.result in
    let items = c.push_reserved.ensures.items ∙ ap (λ l. l ++ Some b ∷ []) c.in_ok-slots.ensures.items in
    let first : c.of.result.value ≡ c.args.desk = search rules in
    let same : d.state b.desk ≡ start = ap (λ x. d.state x.desk) c.new-booked.ensures ∙ ap d.state (sym first) in
    let empty = ap (λ x. x.book) c.new-booked.ensures in
    let home : d.opening start ≡ start = ap (λ x. d.opening (d.state x)) first ∙ (c.requires.opening ∙ ap d.state (sym first)) in
    subst (λ slots. Rule (FitsDesk d.state d.step d.opening) book_of c.of.result.value c.args.calls (opening (0 ∷ 0 ∷ []) slots (first_view c.of.result.value c.args.calls))) (sym items)
    (opens _ _ c.of.result.value c.args.calls b (comes_fresh d.step d.opening start (d.state b.desk) b.book home same empty) empty c.requires.calls)
