use Rattle.std.proofs.Common.{◌≡◌, ◌∙◌, ap, sym, subst, rules, arith, Some, true, false}
use Rattle.std.specs.Prelude.{is_some, ◌==◌, IfOk, IfErr}
use Rattle.std.proofs.lemmas.Bool.{eq-eqb}
use Rattle.catalogue_state.specs.declared.ask.How.{How}
use Rattle.catalogue_state.specs.declared.ask.How.TheVariants.{Changes}
use Rattle.catalogue_state.specs.declared.parts.Snap.{Snap}
use Rattle.catalogue_state.specs.State.{latest}
use Rattle.catalogue_state.specs.Derived.{IsBuilt}
use Rattle.catalogue.specs.Coming.{Arrives, TellsWhy}
use Rattle.catalogue.proofs.Tested.{append_tests, arrives_of}
use Rattle.catalogue.proofs.catalogue.Catalogue.coming_to.Goals as goal

pub coming-requires-clause-built : goal.coming-requires-clause-built
coming-requires-clause-built c =
    let how = Changes c.args.changes.now in
    (how, subst (λ (x : Snap). IsBuilt how x.shot c.args.made) (sym c.get-3.ensures) c.requires.built)

pub returns-clause-tests : goal.returns-clause-tests
returns-clause-tests c =
    let m = c.args.self.now in
    let h = c.args.graph.now in
    let l = c.args.published.now in
    let ok = subst (λ (x : Snap). IfOk c.coming.result (λ r. (how : How) → IsBuilt how x.shot c.args.made → Arrives m x how r)) c.get-3.ensures c.coming.ensures.ok in
    let err = subst (λ (x : Snap). IfErr c.coming.result (λ f. (how : How) → IsBuilt how x.shot c.args.made → TellsWhy how x.shot f)) c.get-3.ensures c.coming.ensures.err in
    let own : is_some l.source ≡ false = sym c.is_some.ensures ∙ c.if-is_some.false in
    let found : latest l.snaps ≡ Some c.in-Some.latest.now = search rules in
    let same : (c.in-Some.latest.now.sid == h.snap.sid) ≡ true = let a = ap (λ (x : Snap). x.sid) c.get.ensures in let b = ap (λ (x : Snap). x.sid) c.get-2.ensures in eq-eqb c.in-Some.latest.now.sid h.snap.sid (omega (arith, a, b, c.if-get.false)) in
    append_tests m c.args.line.now l h c.args.changes.now c.args.made c.in-Some.latest.now own found same c.requires.built c.coming.result ok err

pub returns-clause-arrives : goal.returns-clause-arrives
returns-clause-arrives c =
    let m = c.args.self.now in
    let h = c.args.graph.now in
    let ok = subst (λ (x : Snap). IfOk c.coming.result (λ r. (how : How) → IsBuilt how x.shot c.args.made → Arrives m x how r)) c.get-3.ensures c.coming.ensures.ok in
    arrives_of m h.snap (Changes c.args.changes.now) c.args.made c.requires.built c.coming.result ok
