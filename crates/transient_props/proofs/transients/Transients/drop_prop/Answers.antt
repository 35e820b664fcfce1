use Rattle.std.proofs.Common.{◌≡◌, ◌≤◌, ◌<◌, None, length, refl, sym, ap, subst, ◌∙◌, arith}
use Rattle.std.specs.List.{remove}
use Rattle.std.proofs.lemmas.Bool.{false≢true}
use Rattle.transient_props.specs.Transients.{column_of, entries_of, ChangesOnly}
use Rattle.transient_props.proofs.Leaving.{found_in, found_within, missing, there, left_kept, left_changes}
use Rattle.transient_props.proofs.transients.Transients.drop_prop.Goals as goal

-- past the end no property has the name
pub returns-then-place-len-clause-missing : goal.returns-then-place-len-clause-missing
returns-then-place-len-clause-missing c =
    let n = c.args.name.now in
    let ps = c.self.inside.props.items in
    let place : c.place_of-place.result ≡ found_in n ps = c.place_of-place.ensures ∙ ap (found_in n) c.as_slice.ensures.value in
    let past : length ps ≤ found_in n ps = omega (arith, place, c.if-place-len.true, c.len.ensures, c.self.inside.props.ok.0) in
    (λ h. refl, λ h. ap (λ ts. column_of ts n) (sym c.self.view_is) ∙ missing ps c.self.inside.columns.items n c.self.invariant past)

pub remove-requires : goal.remove-requires
remove-requires c =
    let n = c.args.name.now in
    let ps = c.self.inside.props.items in
    let place : c.place_of-place.result ≡ found_in n ps = c.place_of-place.ensures ∙ ap (found_in n) c.as_slice.ensures.value in
    omega (arith, place, found_within ps n, c.if-place-len.false, c.len.ensures, c.self.inside.props.ok.0)

-- ---- where a property has the name

place_is : (c : goal.Joined-remove) → c.place_of-place.result ≡ found_in c.args.name.now c.self.inside.props.items
place_is c = c.place_of-place.ensures ∙ ap (found_in c.args.name.now) c.as_slice.ensures.value

within : (c : goal.Joined-remove) → found_in c.args.name.now c.self.inside.props.items < length c.self.inside.props.items
within c =
    let ps = c.self.inside.props.items in
    omega (arith, place_is c, found_within ps c.args.name.now, c.if-place-len.false, c.len.ensures, c.self.inside.props.ok.0)

pub invariant_of-self : goal.invariant_of-self
invariant_of-self c =
    let ps = c.self.inside.props.items in
    let cs = c.self.inside.columns.items in
    left_kept ps cs (found_in c.args.name.now ps) c.remove.new.self.items c.remove-2.new.self.items c.self.invariant (within c)
    (c.remove.ensures.items ∙ ap (remove ps) (place_is c)) (c.remove-2.ensures.items ∙ ap (remove cs) (place_is c))

pub returns-clause-dropped : goal.returns-clause-dropped
returns-clause-dropped c =
    let n = c.args.name.now in
    let ps = c.self.inside.props.items in
    let cs = c.self.inside.columns.items in
    let qs = c.remove.new.self.items in
    let ds = c.remove-2.new.self.items in
    subst (λ ts. ChangesOnly ts (entries_of qs ds) n None) c.self.view_is
    (left_changes ps cs n qs ds c.self.invariant (within c) (c.remove.ensures.items ∙ ap (remove ps) (place_is c)) (c.remove-2.ensures.items ∙ ap (remove cs) (place_is c)))

pub returns-clause-missing : goal.returns-clause-missing
returns-clause-missing c = (
  λ h. absurd (there c.self.inside.props.items c.self.inside.columns.items c.args.name.now c.self.invariant (within c) (ap (λ ts. column_of ts c.args.name.now) c.self.view_is ∙ h)),
  λ h. absurd (false≢true h),
)
