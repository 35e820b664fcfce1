use Rattle.std.proofs.Common.{◌≡◌, ◌∙◌, ◌+◌, ◌<◌, ap, sym, length, get_or, Some, None, arith}
use Rattle.changeset.specs.Facts.{misfit_of}
use Rattle.changeset.specs.Overlay.{told}
use Rattle.changeset.proofs.Steps.{few_now, misfit_found, left_next, told_next}
use Rattle.changeset.proofs.list.ChangeList.fits.Goals as goal

pub misfit-requires : goal.misfit-requires
misfit-requires c = few_now c.args.on.now c.args.self.now c.loop-change.change-index c.change-item.result (told c.args.on.now c.loop-change.overlay) c.sound.ensures c.loop-change.invariant.told

pub note-requires-clause-few : goal.note-requires-clause-few
note-requires-clause-few c = few_now c.args.on.now c.args.self.now c.loop-change.change-index c.change-item.result (told c.args.on.now c.loop-change.overlay) c.sound.ensures c.loop-change.invariant.told

pub returns-in-Some : goal.returns-in-Some
returns-in-Some c =
    let i = c.loop-change.change-index in
    let change = c.change-item.result in
    let within : i < length c.args.self.now = omega (arith, c.loop-change-test.true, ap length c.list-change-items.ensures) in
    let item = sym (c.change-item.is ∙ ap (λ xs. get_or xs i change) c.list-change-items.ensures) in
    let why = sym c.in-Some.ensures in
    misfit_found c.args.on.now c.args.self.now i change (told c.args.on.now c.loop-change.overlay) c.sound.ensures c.loop-change.invariant.told within item c.in-Some.why c.loop-change.invariant.left why
    ∙ ap (λ n. Some (n + 1, c.in-Some.why)) (sym c.loop-change.invariant.place)

pub loop-change-preserved : goal.loop-change-preserved
loop-change-preserved c =
    let i = c.loop-change.change-index in
    let change = c.change-item.result in
    let before = told c.args.on.now c.loop-change.overlay in
    let within : i < length c.args.self.now = omega (arith, c.loop-change-test.true, ap length c.list-change-items.ensures) in
    let item = sym (c.change-item.is ∙ ap (λ xs. get_or xs i change) c.list-change-items.ensures) in
    let fits : misfit_of c.args.on.now.schema before change ≡ None = sym c.misfit.ensures ∙ c.in_default.is in
    record {
      left = left_next c.args.on.now c.args.self.now i change before c.sound.ensures c.loop-change.invariant.told within item fits c.loop-change.invariant.left;
      told = told_next c.args.on.now c.args.self.now i change before c.sound.ensures c.loop-change.invariant.told within item fits (told c.args.on.now c.note.new.self) c.in_ok-note.ensures;
      place = omega (arith, c.loop-change.invariant.place);
    }
