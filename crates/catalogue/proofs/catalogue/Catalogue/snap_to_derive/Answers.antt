use Rattle.std.proofs.Common.{◌≡◌, ◌∙◌, ◌<◌, ap, sym, subst, Some, false, length, arith}
use Rattle.std.specs.Prelude.{is_some, find, IfOk, IfErr}
use Rattle.std.specs.Option.{option_copied}
use Rattle.std.proofs.lemmas.Result.{IfOk-weaker}
use Rattle.catalogue_state.specs.declared.ask.How.{How}
use Rattle.catalogue_state.specs.declared.parts.Snap.{Snap}
use Rattle.catalogue_state.specs.State.{named, session_of, held_of}
use Rattle.catalogue_state.specs.Derived.{IsBuilt}
use Rattle.catalogue.specs.Coming.{Arrives, TellsWhy}
use Rattle.catalogue.proofs.Numbers.{nothing_found, not_held}
use Rattle.catalogue.proofs.Coming.{held_root}
use Rattle.catalogue.proofs.Tested.{built_from, derive_tests, arrives_of}
use Rattle.catalogue.proofs.catalogue.Catalogue.snap_to_derive.Goals as goal

pub coming-requires-clause-root : goal.coming-requires-clause-root
coming-requires-clause-root c =
    let m = c.args.self.now in
    let s = c.in-Some.session.now in
    let b = c.in-Some-held_as.graph.now in
    let is : session_of m c.args.who ≡ Some s = sym c.session.ensures ∙ ap option_copied c.in-Some.is in
    let found : held_of s c.args.base.now ≡ Some b = sym (ap (find (named c.args.base.now)) c.as_slice.ensures) ∙ sym c.held_as.ensures ∙ ap option_copied c.in-Some-held_as.is in
    rw c.get.ensures (held_root m c.args.who s c.args.base.now b is found)

pub coming-requires-clause-built : goal.coming-requires-clause-built
coming-requires-clause-built c =
    let m = c.args.self.now in
    let s = c.in-Some.session.now in
    let b = c.in-Some-held_as.graph.now in
    let how = c.args.how.now in
    let is : session_of m c.args.who ≡ Some s = sym c.session.ensures ∙ ap option_copied c.in-Some.is in
    let found : held_of s c.args.base.now ≡ Some b = sym (ap (find (named c.args.base.now)) c.as_slice.ensures) ∙ sym c.held_as.ensures ∙ ap option_copied c.in-Some-held_as.is in
    (how, subst (λ (x : Snap). IsBuilt how x.shot c.args.made) (sym c.get.ensures) (built_from m c.args.who c.args.base.now how c.args.made s b is found c.requires.made))

pub returns-clause-tests : goal.returns-clause-tests
returns-clause-tests c =
    let m = c.args.self.now in
    let s = c.in-Some.session.now in
    let b = c.in-Some-held_as.graph.now in
    let how = c.args.how.now in
    let is : session_of m c.args.who ≡ Some s = sym c.session.ensures ∙ ap option_copied c.in-Some.is in
    let found : held_of s c.args.base.now ≡ Some b = sym (ap (find (named c.args.base.now)) c.as_slice.ensures) ∙ sym c.held_as.ensures ∙ ap option_copied c.in-Some-held_as.is in
    let free : is_some (held_of s c.args.name.now) ≡ false = not_held c.held_as-2.result c.args.name.now s c.as_slice-2.result.now c.as_slice-2.ensures c.held_as-2.ensures (sym c.is_some.ensures ∙ c.if-is_some.false) in
    let room : length s.held < 256 = omega (arith, c.len.ensures, c.if-len-ge-MOST_HELD.false) in
    let built = built_from m c.args.who c.args.base.now how c.args.made s b is found c.requires.made in
    let ok = subst (λ (x : Snap). IfOk c.coming.result (λ r. (h : How) → IsBuilt h x.shot c.args.made → Arrives m x h r)) c.get.ensures c.coming.ensures.ok in
    let err = subst (λ (x : Snap). IfErr c.coming.result (λ f. (h : How) → IsBuilt h x.shot c.args.made → TellsWhy h x.shot f)) c.get.ensures c.coming.ensures.err in
    derive_tests m c.args.who c.args.name.now c.args.base.now how s b c.args.made is found free room built c.coming.result ok err

pub returns-clause-may : goal.returns-clause-may
returns-clause-may c =
    let m = c.args.self.now in
    let s = c.in-Some.session.now in
    let b = c.in-Some-held_as.graph.now in
    let how = c.args.how.now in
    let is : session_of m c.args.who ≡ Some s = sym c.session.ensures ∙ ap option_copied c.in-Some.is in
    let found : held_of s c.args.base.now ≡ Some b = sym (ap (find (named c.args.base.now)) c.as_slice.ensures) ∙ sym c.held_as.ensures ∙ ap option_copied c.in-Some-held_as.is in
    let free : is_some (held_of s c.args.name.now) ≡ false = not_held c.held_as-2.result c.args.name.now s c.as_slice-2.result.now c.as_slice-2.ensures c.held_as-2.ensures (sym c.is_some.ensures ∙ c.if-is_some.false) in
    let room : length s.held < 256 = omega (arith, c.len.ensures, c.if-len-ge-MOST_HELD.false) in
    let built = built_from m c.args.who c.args.base.now how c.args.made s b is found c.requires.made in
    let ok = subst (λ (x : Snap). IfOk c.coming.result (λ r. (h : How) → IsBuilt h x.shot c.args.made → Arrives m x h r)) c.get.ensures c.coming.ensures.ok in
    IfOk-weaker c.coming.result _ _ (λ r a. record { session = s; is = is; free = nothing_found (held_of s c.args.name.now) free; room = room; few = a.few; numbered = a.numbered })
    (arrives_of m b.snap how c.args.made built c.coming.result ok)

pub returns-clause-comes : goal.returns-clause-comes
returns-clause-comes c =
    let m = c.args.self.now in
    let s = c.in-Some.session.now in
    let b = c.in-Some-held_as.graph.now in
    let how = c.args.how.now in
    let is : session_of m c.args.who ≡ Some s = sym c.session.ensures ∙ ap option_copied c.in-Some.is in
    let found : held_of s c.args.base.now ≡ Some b = sym (ap (find (named c.args.base.now)) c.as_slice.ensures) ∙ sym c.held_as.ensures ∙ ap option_copied c.in-Some-held_as.is in
    let built = built_from m c.args.who c.args.base.now how c.args.made s b is found c.requires.made in
    let ok = subst (λ (x : Snap). IfOk c.coming.result (λ r. (h : How) → IsBuilt h x.shot c.args.made → Arrives m x h r)) c.get.ensures c.coming.ensures.ok in
    IfOk-weaker c.coming.result _ _ (λ r a. a.comes) (arrives_of m b.snap how c.args.made built c.coming.result ok)
