-- One change more of a list.
use Rattle.std.proofs.Common.{◌≡◌, ◌∙◌, ap, sym, subst, ℕ, ◌+◌, ◌<◌, List, length, get_or, take, Some, None}
use Rattle.std.proofs.lemmas.Option.{slice_get-get_or}
use Rattle.graph_model.specs.declared.change.Change.{Change}
use Rattle.graph_model.specs.declared.change.Why.{Why}
use Rattle.graph_model.specs.Graph.{GraphData, IsGraph}
use Rattle.graph_model.specs.Change.{misfit, changed, changed_unless, after}
use Rattle.graph_model.proofs.Graphs.{after_keeps, after_next}
use Rattle.graph_slots.proofs.More.{schema_stays}
use Rattle.changeset.specs.Facts.{Facts, facts, misfit_of, noted}
use Rattle.changeset.specs.Misfit.{first_misfit}
use Rattle.changeset.specs.Overlay.{AreFew}
use Rattle.changeset.proofs.First.{Left, left_more, left_found}
use Rattle.changeset.proofs.Telling.{misfits_told}
use Rattle.changeset.proofs.Following.{facts_follow}
use Rattle.changeset.proofs.Fits.{few_facts}

module _ (base : GraphData) (changes : List Change) (i : ℕ) (c : Change) (f : Facts) (is : IsGraph base) (told : f ≡ facts (after base changes i)) where
  abbrev now : GraphData
  now = after base changes i

  is_now : IsGraph now
  is_now = after_keeps base changes i is

  same_schema : base.schema ≡ now.schema
  same_schema = sym (schema_stays base (take i changes))

  pub few_now : AreFew f
  few_now = subst AreFew (sym told) (few_facts now is_now)

  pub misfit_now : misfit_of base.schema f c ≡ misfit now c
  misfit_now = ap (λ s. misfit_of s f c) same_schema ∙ ap (λ x. misfit_of now.schema x c) told ∙ sym (misfits_told now c is_now)

  module _ (within : i < length changes) (item : get_or changes i c ≡ c) where
    pub misfit_found : (why : Why) → Left base changes i now → misfit_of base.schema f c ≡ Some why → first_misfit base changes ≡ Some (i + 1, why)
    misfit_found why left why_is = left_found base changes i c now why within item left (sym misfit_now ∙ why_is)

    module _ (fits : misfit_of base.schema f c ≡ None) where
      fits_now : misfit now c ≡ None
      fits_now = sym misfit_now ∙ fits

      next_is : after base changes (i + 1) ≡ changed now c
      next_is = after_next base changes i c (slice_get-get_or changes i c within ∙ ap Some item) ∙ ap (λ o. changed_unless o now c) fits_now

      pub left_next : Left base changes i now → Left base changes (i + 1) (after base changes (i + 1))
      left_next left = left_more base changes i c now (after base changes (i + 1)) within item left fits_now next_is

      pub told_next : (h : Facts) → h ≡ noted base.schema f c → h ≡ facts (after base changes (i + 1))
      told_next h made = made ∙ ap (λ s. noted s f c) same_schema ∙ ap (λ x. noted now.schema x c) told ∙ sym (facts_follow now c is_now fits_now) ∙ sym (ap facts next_is)
