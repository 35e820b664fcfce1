-- what a snapshot has of its base
use Rattle.std.proofs.Common.{◌≡◌, ℕ, ◌<◌, List, [], Option, Some, None, All, option_map, length, map, slice_get, ap, sym, ◌∙◌, subst, arith}
use Rattle.std.proofs.lemmas.List.{length-map}
use Rattle.std.proofs.lemmas.Option.{slice_get-map, slice_get-get_or, slice_get_within, get_or_from_slice_get}
use Rattle.graph_schema.specs.Schema.{SchemaData}
use Rattle.graph_model.specs.Graph.{GraphData}
use Rattle.graph_slots.specs.declared.part.Part.{Part}
use Rattle.graph_slots.specs.declared.part.Part.TheVariants.{Rows}
use Rattle.graph_slots.specs.Slots.{slots}
use Rattle.graph_slots.specs.Meaning.{slot_value}
use Rattle.graph_snap.specs.declared.derived.Derived.{Derived}
use Rattle.graph_snap.specs.declared.derived.Derived.TheVariants.{Kept, New}
use Rattle.graph_snap.specs.declared.built.Built.{Built}
use Rattle.graph_snap.specs.Seen.{Stands, graph_of}
use Rattle.graph_snap.specs.Sharing.{graph_parts, IsKnown, part_of, parts_of, kept_of, IsBuiltOn}

-- a part that is kept
pub part_kept : (base : GraphData) (n : ℕ) (part : Part) → slice_get (graph_parts base) n ≡ Some part → part ≡ part_of base (Kept n)
part_kept base n part e = sym (get_or_from_slice_get (graph_parts base) n part (Rows []) e)

pub kept_there : (base : GraphData) (n : ℕ) → n < length (slots base.schema) → slice_get (graph_parts base) n ≡ Some (part_of base (Kept n))
kept_there base n within = slice_get-get_or (graph_parts base) n (Rows []) (omega (arith, length-map (slots base.schema) (slot_value base)))

-- a slot that keeps the base's part of a number
kept_by : (o : Option Derived) (n : ℕ) → option_map kept_of o ≡ Some (Some n) → o ≡ Some (Kept n)
kept_by None n e = cc
kept_by (Some (Kept m)) n e =
    let same : m ≡ n = cc in
    ap (λ k. Some (Kept k)) same
kept_by (Some (New part)) n e = cc

kept_at : (derived : List Derived) (kept : List (Option ℕ)) (slot n : ℕ) → kept ≡ map kept_of derived → slice_get kept slot ≡ Some (Some n) → slice_get derived slot ≡ Some (Kept n)
kept_at derived kept slot n are e = kept_by (slice_get derived slot) n (sym (slice_get-map kept_of derived slot) ∙ ap (λ ks. slice_get ks slot) (sym are) ∙ e)

known_at : (base : GraphData) (derived : List Derived) (slot n : ℕ) → All (IsKnown base) derived → slice_get derived slot ≡ Some (Kept n) → n < length (slots base.schema)
known_at base derived slot n known e =
    subst (IsKnown base) (get_or_from_slice_get derived slot (Kept n) (Kept n) e) (known slot (Kept n) (slice_get_within derived slot (Kept n) e))

pub built_on : (base : GraphData) (s : SchemaData) (derived : List Derived) (built : Built) → All (IsKnown base) derived → Stands (graph_of s (parts_of base derived)) (parts_of base derived) → built.shot ≡ graph_of s (parts_of base derived) → built.kept ≡ map kept_of derived → IsBuiltOn base built
built_on base s derived built known stands shot kept =
    let g = graph_of s (parts_of base derived) in
    record {
      each = ap length kept ∙ length-map derived kept_of ∙ sym (length-map derived (part_of base)) ∙ ap length stands.each ∙ length-map (slots g.schema) (slot_value g)
          ∙ ap (λ (h : GraphData). length (slots h.schema)) (sym shot);
      known = λ slot n e. known_at base derived slot n known (kept_at derived built.kept slot n kept e);
      same = λ slot n e.
          ap (λ h. slice_get (graph_parts h) slot) shot ∙ ap (λ ps. slice_get ps slot) (sym stands.each)
          ∙ slice_get-map (part_of base) derived slot ∙ ap (option_map (part_of base)) (kept_at derived built.kept slot n kept e)
          ∙ sym (kept_there base n (known_at base derived slot n known (kept_at derived built.kept slot n kept e)));
    }
