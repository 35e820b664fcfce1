-- what a loop over the arcs of a vertex has met
use Rattle.std.proofs.Common.{◌≡◌, ◌+◌, length, length-append, List, [], ◌∷◌, ◌++◌, All, refl, ap, sym, ◌∙◌, subst, arith}
use Rattle.std.specs.Prelude.{Contains}
use Rattle.std.specs.Iterator.{YieldsFirst, Yields}
use Rattle.std.proofs.lemmas.List.{append-nil}
use Rattle.std.proofs.lemmas.List.Elements.{All-contains, Contains-append_right}
use Rattle.algo_digraph.specs.declared.arcs.Arc.{Arc}

-- the arcs that came and those that are left are all
pub arcs_split : (all : List Arc) (came : List Arc) (left : List Arc) → Yields (YieldsFirst (λ (rest : List Arc). rest)) all came left → all ≡ came ++ left
arcs_split all [] left h = h
arcs_split all (a ∷ came) left h = h.1 ∙ ap (λ xs. a ∷ xs) (arcs_split h.0 came left h.2)

-- what holds of all arcs holds of the one that comes
pub arc_turn : (P : Arc → Type 0) (arcs all came left rest : List Arc) (a : Arc) → all ≡ arcs → Yields (YieldsFirst (λ (rest : List Arc). rest)) all came left → left ≡ a ∷ rest → All P arcs → P a
arc_turn P arcs all came left rest a same h next each =
    let split : arcs ≡ came ++ a ∷ rest = sym same ∙ arcs_split all came left h ∙ ap (λ xs. came ++ xs) next in
    All-contains P arcs a each (subst (λ xs. Contains xs a) (sym split) (Contains-append_right came (a ∷ rest) a (0, omega arith, refl)))

-- at the end all arcs came
pub arcs_end : (arcs all came left : List Arc) → all ≡ arcs → Yields (YieldsFirst (λ (rest : List Arc). rest)) all came left → left ≡ [] → came ≡ arcs
arcs_end arcs all came left same h none = sym (append-nil came) ∙ ap (λ xs. came ++ xs) (sym none) ∙ sym (arcs_split all came left h) ∙ same

-- no more arcs came than there are
pub arcs_came : (arcs all came left : List Arc) → all ≡ arcs → Yields (YieldsFirst (λ (rest : List Arc). rest)) all came left → length came + length left ≡ length arcs
arcs_came arcs all came left same h = sym (length-append came left) ∙ ap length (sym (arcs_split all came left h) ∙ same)

-- what holds of each arc that came holds of each arc
pub met : (P : Arc → Type 0) (arcs came : List Arc) (a : Arc) → came ≡ arcs → All P came → Contains arcs a → P a
met P arcs came a all each there = All-contains P came a each (subst (λ xs. Contains xs a) (sym all) there)
