use Rattle.std.proofs.Common.{◌≡◌, ◌∙◌, ◌++◌, ◌∷◌, [], List, sym, ap, subst}
use Rattle.catalogue_state.specs.declared.parts.Snap.{Snap}
use Rattle.catalogue.specs.Kept.{option_to_list}
use Rattle.catalogue.specs.Registry.{IsRegistry}
use Rattle.catalogue.proofs.columns.release_gone.Goals as goal

pub returns-in-Some : goal.returns-in-Some
returns-in-Some c =
    let e : option_to_list c.args.gone ≡ c.get.result.now ∷ [] = ap option_to_list c.in-Some.is ∙ ap (λ (s : Snap). s ∷ []) (sym c.get.ensures) in
    λ rest f. c.release_snap.ensures rest (subst (λ (l : List Snap). IsRegistry c.args.registry.now.rows (l ++ rest)) e f)
