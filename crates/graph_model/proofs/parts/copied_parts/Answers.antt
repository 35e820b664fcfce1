use Rattle.std.proofs.Common.{◌≡◌, ℤ, pos, ◌∙◌, Bool, List, arith, sym, ap, length, get_or, map, subst}
use Rattle.std.proofs.lemmas.Result.{IfOk-weaker}
use Rattle.graph_model.specs.Parts.{ArePartsOf, TellsPlaces, keys_of, kept_places, column_of}
use Rattle.graph_model.proofs.TableParts.{few_places, copied_once, copied_parts}
use Rattle.graph_model.proofs.parts.copied_parts.Goals as goal

pub places_of-requires-clause-few : goal.places_of-requires-clause-few
places_of-requires-clause-few c =
    let keys = c.args.keys in
    let dead = c.args.dead.items in
    let its_keys : c.in_ok-keys.keys ≡ keys_of keys (kept_places dead (length keys)) =
    c.in_ok-keys.ensures
    ∙ ap (λ (l : List ℤ). keys_of l (kept_places c.as_slice-3.result.now (length l))) c.as_slice-2.ensures
    ∙ ap (λ (l : List Bool). keys_of keys (kept_places l (length keys))) c.as_slice-3.ensures.value in
    omega (arith, ap length (c.as_slice-4.ensures ∙ its_keys), few_places (λ i. get_or keys i (pos 0)) dead (length keys), c.requires.laid.few)

pub places_of-requires-clause-once : goal.places_of-requires-clause-once
places_of-requires-clause-once c =
    let keys = c.args.keys in
    let dead = c.args.dead.items in
    let its_keys : c.in_ok-keys.keys ≡ keys_of keys (kept_places dead (length keys)) =
    c.in_ok-keys.ensures
    ∙ ap (λ (l : List ℤ). keys_of l (kept_places c.as_slice-3.result.now (length l))) c.as_slice-2.ensures
    ∙ ap (λ (l : List Bool). keys_of keys (kept_places l (length keys))) c.as_slice-3.ensures.value in
    rw (c.as_slice-4.ensures, its_keys) (copied_once keys c.args.columns dead c.requires.once)

pub returns : goal.returns
returns c =
    let keys = c.args.keys in
    let columns = c.args.columns in
    let dead = c.args.dead.items in
    let its_keys : c.in_ok-keys.keys ≡ keys_of keys (kept_places dead (length keys)) =
    c.in_ok-keys.ensures
    ∙ ap (λ (l : List ℤ). keys_of l (kept_places c.as_slice-3.result.now (length l))) c.as_slice-2.ensures
    ∙ ap (λ (l : List Bool). keys_of keys (kept_places l (length keys))) c.as_slice-3.ensures.value in
    let its_columns : c.in_ok-columns.columns ≡ map (column_of (kept_places dead (length keys))) columns =
    c.in_ok-columns.ensures
    ∙ ap (λ (l : List Bool). map (column_of (kept_places l c.len-count.result)) columns) c.as_slice.ensures.value
    ∙ ap (λ n. map (column_of (kept_places dead n)) columns) c.len-count.ensures in
    copied_parts keys columns dead _ its_keys its_columns
    (subst (λ (l : List ℤ). TellsPlaces l c.in_ok-places.places) c.as_slice-4.ensures c.in_ok-places.ensures)
