-- graphs after the first changes of a list
use Rattle.std.proofs.Common.{◌≡◌, ℕ, zero, suc, List, [], ◌∷◌, ◌++◌, Option, Some, None, length, slice_get, fold, refl, ap, sym, ◌∙◌, arith}
use Rattle.std.proofs.lemmas.List.{take_all}
use Rattle.graph_model.specs.declared.change.Change.{Change}
use Rattle.graph_model.specs.declared.change.Why.{Why}
use Rattle.graph_model.specs.Graph.{GraphData}
use Rattle.graph_model.specs.Change.{misfit, apply, after}
use Rattle.graph_slots.specs.Touched.{skips, skipped}
use Rattle.delta_fold.specs.Folded.{folded}

pub last_prefix : (g : GraphData) (changes : List Change) → folded g changes ≡ after g changes (length changes)
last_prefix g changes = ap (fold apply g) (sym (take_all (length changes) changes (omega arith)))

pub in_parts : (g : GraphData) (first rest : List Change) → folded g (first ++ rest) ≡ folded (folded g first) rest
in_parts g [] rest = refl
in_parts g (c ∷ first) rest = in_parts (apply g c) first rest

-- each change fits the graph after those before it
abbrev pub EachFits : GraphData → List Change → Type 0
EachFits g changes = (k : ℕ) (c : Change) → slice_get changes k ≡ Some c → misfit (after g changes k) c ≡ None

pub none_of : (g : GraphData) (changes : List Change) → EachFits g changes → skipped g changes ≡ 0
none_of g [] fits = refl
none_of g (c ∷ changes) fits =
    let here : misfit g c ≡ None = fits 0 c refl in
    let rest = none_of (apply g c) changes (λ k d there. fits (suc k) d there) in
    omega (arith, ap skips here, rest)

fits_if : (o : Option Why) → skips o ≡ 0 → o ≡ None
fits_if None e = refl
fits_if (Some why) e = absurd (omega arith)

same_change : (c d : Change) → Some c ≡ Some d → c ≡ d
same_change c d e = cc

pub each_fits : (g : GraphData) (changes : List Change) → skipped g changes ≡ 0 → EachFits g changes
each_fits g [] none k c there = cc
each_fits g (d ∷ changes) none zero c there = ap (misfit g) (sym (same_change d c there)) ∙ fits_if (misfit g d) (omega arith)
each_fits g (d ∷ changes) none (suc k) c there = each_fits (apply g d) changes (omega arith) k c there
