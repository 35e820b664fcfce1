-- The lines of a script that is read are those that its parts spell.
use Rattle.std.proofs.Common.{◌≡◌, ◌∙◌, sym, refl, ap, subst, ℕ, ℤ, ◌+◌, List, [], ◌∷◌, ◌++◌, map, Bool, true, false, if◌then◌else◌, None, Ok, Err}
use Rattle.std.specs.Prelude.{◌≢◌, ◌==◌, not, nat_le, codes}
use Rattle.std.specs.List.{flat_map}
use Rattle.std.specs.Str.{is_utf8}
use Rattle.std.proofs.lemmas.List.{map-append, append_assoc, append-nil}
use Rattle.std.proofs.lemmas.Grind.{flat_map-append}
use Rattle.script_read.specs.declared.fault.LineWhy.TheVariants as why
use Rattle.script_read.specs.declared.reading.Section.{Section}
use Rattle.script_read.specs.declared.reading.Section.TheVariants as section
use Rattle.script_read.specs.declared.reading.Reading.{Reading}
use Rattle.script_read.specs.declared.script.Block.{Block}
use Rattle.script_read.specs.declared.script.Script.{Script}
use Rattle.script_read.specs.declared.script.SourceForm.TheVariants.{Inline, Files}
use Rattle.script_read.specs.declared.script.SourceText.{SourceText}
use Rattle.script_read.specs.Commands.{command_of}
use Rattle.script_read.specs.Later.{comes_later}
use Rattle.script_read.specs.Lines.{lines_of, cleaned, is_passed, line_step}
use Rattle.script_read.specs.Meaning.{lines_at, phase_lines_at, HasEdges, after, vertex_text, edge_text, actor_text, record_lines, files_text, source_lines, phase_lines, script_lines, kept_lines}
use Rattle.script_read.specs.Sections.{new_source, inline_line, files_line, source_line, vertex_line, edge_line, end_line, blocks_at, phase_ended, first_phase_line, phase_line, actor_name, number_of, new_block, with_actor, block_opened, actor_line, command_added, command_line, built_line, line_in}
use Rattle.script_read.specs.Script.{opening, phases_so_far, phases_at, ended, lines_read, script_of}
use Rattle.script_read.specs.Words.{same, word_at, word_count, name, file_name, key, alone, one_name}
use Rattle.script_read.proofs.Inversions.{err_ok, not_not, carried, passed, either, first, named, file_named, both, two_spelled, three_spelled, four_spelled, same_is, at_line_ok}
use Rattle.script_read.proofs.Blocks.{ArePhases, one_more, with_lines, number_names, block_spelled, command_spelled}
use Rattle.script_read.proofs.Forms.{command_line_is}
use Rattle.script_read.proofs.Numbers.{key_spelled}
use Rattle.script_read.proofs.Shapes.{Begins, behind, alone_is, one_name_is}
use Rattle.script_read.proofs.Kept.{AtSection, Phased, Within, within, IsReading, may_begin, keeps, opens_well}

-- ---- one line each

source_text_is : (line source : List ℕ) → Begins line (codes "source") → (word_count line == 3) ≡ true → same (word_at line 2) (codes "inline") ≡ true → word_at line 1 ≡ source
    → line ≡ codes "source " ++ (source ++ codes " inline")
source_text_is line source w n f s =
    behind line (codes "source") _ w (three_spelled line n) ∙ (rw (same_is (word_at line 2) (codes "inline") f, s) refl)

files_text_by : (x y source link config : List ℕ) → x ≡ source → link ≡ codes "config" → y ≡ config
    → codes "source" ++ (32 ∷ (x ++ (32 ∷ (link ++ (32 ∷ y))))) ≡ files_text source config None
files_text_by x y source link config p q r = rw (p, q, r, append-nil config) refl

files_text_is : (line source config : List ℕ) → Begins line (codes "source") → (word_count line == 4) ≡ true → same (word_at line 2) (codes "config") ≡ true
    → word_at line 1 ≡ source → word_at line 3 ≡ config → line ≡ files_text source config None
files_text_is line source config w n f s c =
    behind line (codes "source") _ w (four_spelled line n) ∙ files_text_by (word_at line 1) (word_at line 3) source (word_at line 2) config s (same_is (word_at line 2) (codes "config") f) c

vertex_text_is : (line : List ℕ) (k : ℤ) → Begins line (codes "v") → not (word_count line == 2) ≡ false → key (word_at line 1) ≡ Ok k → line ≡ vertex_text k
vertex_text_is line k w n h =
    behind line (codes "v") _ w (two_spelled line n) ∙ ap (λ (x : List ℕ). codes "v" ++ (32 ∷ x)) (key_spelled (word_at line 1) k h)

edge_text_is : (line : List ℕ) (k from to : ℤ) → Begins line (codes "e") → not (word_count line == 4) ≡ false
    → key (word_at line 1) ≡ Ok k → key (word_at line 2) ≡ Ok from → key (word_at line 3) ≡ Ok to → line ≡ edge_text (k, from, to)
edge_text_is line k from to w n h g i =
    behind line (codes "e") _ w (four_spelled line (not_not _ n))
    ∙ (rw (key_spelled (word_at line 1) k h, key_spelled (word_at line 2) from g, key_spelled (word_at line 3) to i) refl)

-- ---- what is read so far

-- whether an `e` line stands in the open source, as the section says
abbrev ClearAt : Section → Reading → Type 0
ClearAt p s = HasEdges p s.source.edges

record Telling (s : Reading) (told : List (List ℕ)) : Type 0 where
  tells : lines_at s.section s ≡ told
  clear : ClearAt s.section s

-- one more line behind what is told
more : (a x told : List (List ℕ)) (l m : List ℕ) → a ++ x ≡ told → m ≡ l → a ++ (x ++ l ∷ []) ≡ told ++ m ∷ []
more a x told l m h e = rw e (sym (append_assoc a x (l ∷ [])) ∙ ap (λ (z : List (List ℕ)). z ++ l ∷ []) h)

told_same : (p q : Section) (s : Reading) (told : List (List ℕ)) → p ≡ q → lines_at q s ≡ told → lines_at p s ≡ told
told_same p q s told e h = rw e h

clear_same : (p q : Section) (s : Reading) → p ≡ q → ClearAt q s → ClearAt p s
clear_same p q s e h = rw e h

tells_by : (p : Section) (s : Reading) (told : List (List ℕ)) → s.section ≡ p → lines_at p s ≡ told → ClearAt p s → Telling s told
tells_by p s told at h clear = record { tells = told_same s.section p s told at h; clear = clear_same s.section p s at clear }

tells_inline : (s t : Reading) (line : List ℕ) (told : List (List ℕ)) → lines_at section.Start s ≡ told → ClearAt section.Start s
    → Begins line (codes "source") → inline_line s line ≡ Ok t → Telling t (told ++ line ∷ [])
unfolding inline_line
tells_inline s t line told h clear w e =
    let a = passed _ why.Form _ t e in
    let f = both _ _ a.0 in
    let b = first (name (word_at line 1)) _ t a.1 in
    let n = named _ _ b.1 in
    let c = first (new_source s.sources b.0) _ t b.2 in
    carried (λ (x : Reading). Telling x (told ++ line ∷ [])) (record s { section = section.Vertices; source = record { name = b.0; vertices = []; edges = [] } }) t c.2
    (record { tells = rw (h, ← source_text_is line b.0 w f.0 f.1 n.0) refl; clear = refl })

told_files : (sources : List SourceText) (n config : List ℕ) (told : List (List ℕ)) (line : List ℕ)
    → flat_map source_lines sources ≡ told → line ≡ files_text n config None → flat_map source_lines (sources ++ record { name = n; form = Files config None } ∷ []) ≡ told ++ line ∷ []
told_files sources n config told line h e =
    rw (e, ← h) (flat_map-append source_lines sources (record { name = n; form = Files config None } ∷ []))

tells_files : (s t : Reading) (line : List ℕ) (told : List (List ℕ)) → s.section ≡ section.Start → lines_at section.Start s ≡ told → ClearAt section.Start s
    → Begins line (codes "source") → files_line s line ≡ Ok t → Telling t (told ++ line ∷ [])
unfolding files_line
tells_files s t line told at h clear w e =
    let a = passed _ why.Form _ t e in
    let f = both _ _ a.0 in
    let b = first (name (word_at line 1)) _ t a.1 in
    let n = named _ _ b.1 in
    let c = first (file_name (word_at line 3)) _ t b.2 in
    let m = file_named _ _ c.1 in
    let d = first (new_source s.sources b.0) _ t c.2 in
    let new : Reading = record s { sources = s.sources ++ record { name = b.0; form = Files c.0 None } ∷ [] } in
    carried (λ (x : Reading). Telling x (told ++ line ∷ [])) new t d.2
    (tells_by section.Start new _ at (told_files s.sources b.0 c.0 told line h (files_text_is line b.0 c.0 w f.0 f.1 n.0 m.0)) clear)

tells_source : (s t : Reading) (line : List ℕ) (told : List (List ℕ)) → s.section ≡ section.Start → lines_at section.Start s ≡ told → ClearAt section.Start s
    → Begins line (codes "source") → source_line s line ≡ Ok t → Telling t (told ++ line ∷ [])
unfolding source_line
tells_source s t line told at h clear w e =
    either (same (word_at line 2) (codes "config")) _ _ t _ (λ f g. tells_files s t line told at h clear w g) (tells_inline s t line told h clear w) e

opened_vertex : (n : List ℕ) (vs : List ℤ) (k : ℤ) → record_lines n (vs ++ k ∷ []) [] ≡ record_lines n vs [] ++ vertex_text k ∷ []
opened_vertex n vs k =
    ap (λ (z : List (List ℕ)). (codes "source " ++ (n ++ codes " inline")) ∷ z)
    (append-nil (map vertex_text (vs ++ k ∷ [])) ∙ (map-append vertex_text vs (k ∷ []) ∙ ap (λ (z : List (List ℕ)). z ++ vertex_text k ∷ []) (sym (append-nil (map vertex_text vs)))))

opened_edge : (n : List ℕ) (vs : List ℤ) (es : List (ℤ × ℤ × ℤ)) (e : ℤ × ℤ × ℤ) → record_lines n vs (es ++ e ∷ []) ≡ record_lines n vs es ++ edge_text e ∷ []
opened_edge n vs es e =
    ap (λ (z : List (List ℕ)). (codes "source " ++ (n ++ codes " inline")) ∷ z)
    (ap (λ (z : List (List ℕ)). map vertex_text vs ++ z) (map-append edge_text es (e ∷ [])) ∙ sym (append_assoc (map vertex_text vs) (map edge_text es) (edge_text e ∷ [])))

told_vertex : (a : List (List ℕ)) (n : List ℕ) (vs : List ℤ) (es : List (ℤ × ℤ × ℤ)) (k : ℤ) (told : List (List ℕ)) (line : List ℕ)
    → es ≡ [] → a ++ record_lines n vs es ≡ told → line ≡ vertex_text k → a ++ record_lines n (vs ++ k ∷ []) es ≡ told ++ line ∷ []
told_vertex a n vs es k told line none h e =
    rw (none, opened_vertex n vs k) (more a (record_lines n vs []) told (vertex_text k) line (rw none at h) e)

tells_vertex : (s t : Reading) (line : List ℕ) (told : List (List ℕ)) → s.section ≡ section.Vertices → lines_at section.Vertices s ≡ told → ClearAt section.Vertices s
    → Begins line (codes "v") → vertex_line s line ≡ Ok t → Telling t (told ++ line ∷ [])
unfolding vertex_line
tells_vertex s t line told at h clear w e =
    let a = passed _ why.Form _ t e in
    let b = first (key (word_at line 1)) _ t a.1 in
    let new : Reading = record s { source = record s.source { vertices = s.source.vertices ++ b.0 ∷ [] } } in
    carried (λ (x : Reading). Telling x (told ++ line ∷ [])) new t b.2
    (tells_by section.Vertices new _ at
    (told_vertex (flat_map source_lines s.sources) s.source.name s.source.vertices s.source.edges b.0 told line clear h (vertex_text_is line b.0 w a.0 b.1)) clear)

told_edge : (a : List (List ℕ)) (n : List ℕ) (vs : List ℤ) (es : List (ℤ × ℤ × ℤ)) (x : ℤ × ℤ × ℤ) (told : List (List ℕ)) (line : List ℕ)
    → a ++ record_lines n vs es ≡ told → line ≡ edge_text x → a ++ record_lines n vs (es ++ x ∷ []) ≡ told ++ line ∷ []
told_edge a n vs es x told line h e = rw (opened_edge n vs es x) (more a (record_lines n vs es) told (edge_text x) line h e)

not_empty : {A : Type 0} (xs : List A) (x : A) → xs ++ x ∷ [] ≢ []
not_empty [] x h = cc
not_empty (y ∷ ys) x h = cc

tells_edge : (s t : Reading) (line : List ℕ) (told : List (List ℕ)) → lines_at section.Edges s ≡ told
    → Begins line (codes "e") → edge_line s line ≡ Ok t → Telling t (told ++ line ∷ [])
unfolding edge_line
tells_edge s t line told h w e =
    let a = passed _ why.Form _ t e in
    let b = first (key (word_at line 1)) _ t a.1 in
    let c = first (key (word_at line 2)) _ t b.2 in
    let d = first (key (word_at line 3)) _ t c.2 in
    carried (λ (x : Reading). Telling x (told ++ line ∷ []))
    (record s { section = section.Edges; source = record s.source { edges = s.source.edges ++ (b.0, c.0, d.0) ∷ [] } }) t d.2
    (record {
      tells = told_edge (flat_map source_lines s.sources) s.source.name s.source.vertices s.source.edges (b.0, c.0, d.0) told line h (edge_text_is line b.0 c.0 d.0 w a.0 b.1 c.1 d.1);
      clear = not_empty s.source.edges (b.0, c.0, d.0);
    })

told_end : (sources : List SourceText) (n : List ℕ) (vs : List ℤ) (es : List (ℤ × ℤ × ℤ)) (told : List (List ℕ)) (line : List ℕ)
    → flat_map source_lines sources ++ record_lines n vs es ≡ told → line ≡ codes "end" → flat_map source_lines (sources ++ record { name = n; form = Inline vs es } ∷ []) ≡ told ++ line ∷ []
told_end sources n vs es told line h e =
    flat_map-append source_lines sources (record { name = n; form = Inline vs es } ∷ [])
    ∙ (ap (λ (z : List (List ℕ)). flat_map source_lines sources ++ z) (append-nil (record_lines n vs es ++ codes "end" ∷ []))
    ∙ more (flat_map source_lines sources) (record_lines n vs es) told (codes "end") line h e)

tells_end : (s t : Reading) (line : List ℕ) (told : List (List ℕ)) → lines_at section.Edges s ≡ told
    → Begins line (codes "end") → end_line s line ≡ Ok t → Telling t (told ++ line ∷ [])
unfolding end_line
tells_end s t line told h w e =
    let a = first (alone line) _ t e in
    carried (λ (x : Reading). Telling x (told ++ line ∷ []))
    (record s {
      section = section.Start;
      sources = s.sources ++ record { name = s.source.name; form = Inline s.source.vertices s.source.edges } ∷ [];
      source = record { name = []; vertices = []; edges = [] };
    }) t a.2
    (record { tells = told_end s.sources s.source.name s.source.vertices s.source.edges told line h (alone_is line (codes "end") a.0 w a.1); clear = tt })

told_first : (names : List (List ℕ)) (phases : List (List Block)) (blocks : List Block) → phases ≡ [] → blocks ≡ [] → flat_map (phase_lines names) (phases ++ blocks ∷ []) ≡ codes "phase" ∷ []
told_first names phases blocks e f = rw (e, f) refl

tells_first_phase : (s t : Reading) (line : List ℕ) (told : List (List ℕ)) → AtSection section.Start s → lines_at section.Start s ≡ told
    → Begins line (codes "phase") → first_phase_line s line ≡ Ok t → Telling t (told ++ line ∷ [])
unfolding first_phase_line
tells_first_phase s t line told here h w e =
    let a = first (alone line) _ t e in
    carried (λ (x : Reading). Telling x (told ++ line ∷ [])) (record s { section = section.Phase }) t a.2
    (record { tells = rw (told_first s.actors s.phases s.blocks here.phases here.blocks, h, alone_is line (codes "phase") a.0 w a.1) refl; clear = tt })

-- the lines of the sources and of phases
abbrev told_phases : Reading → List (List Block) → List (List ℕ)
told_phases s phases = flat_map source_lines s.sources ++ flat_map (phase_lines s.actors) phases

-- more lines of phases behind what is told
more_lines : (a x y told : List (List ℕ)) (l m : List ℕ) → y ≡ x ++ l ∷ [] → a ++ x ≡ told → m ≡ l → a ++ y ≡ told ++ m ∷ []
more_lines a x y told l m f h e = ap (λ (z : List (List ℕ)). a ++ z) f ∙ more a x told l m h e

tells_phase : (s t : Reading) (line : List ℕ) (told : List (List ℕ)) → told_phases s (s.phases ++ blocks_at s.section s ∷ []) ≡ told
    → Begins line (codes "phase") → phase_line s line ≡ Ok t → Telling t (told ++ line ∷ [])
unfolding phase_line
tells_phase s t line told h w e =
    let a = first (alone line) _ t e in
    let before = s.phases ++ blocks_at s.section s ∷ [] in
    carried (λ (x : Reading). Telling x (told ++ line ∷ [])) (record (phase_ended s) { section = section.Phase }) t a.2
    (record {
      tells = more_lines (flat_map source_lines s.sources) (flat_map (phase_lines s.actors) before) _ told (codes "phase") line
          (one_more (phase_lines s.actors) before []) h (alone_is line (codes "phase") a.0 w a.1);
      clear = tt;
    })

told_actor : (names : List (List ℕ)) (phases : List (List Block)) (blocks : List Block) (actor : List ℕ) (n k : ℕ) → ArePhases names (phases ++ blocks ∷ []) n → number_of names actor ≡ k
    → flat_map (phase_lines (with_actor names actor k)) (phases ++ (blocks ++ record { actor = k; commands = [] } ∷ []) ∷ [])
    ≡ flat_map (phase_lines names) (phases ++ blocks ∷ []) ++ actor_text actor ∷ []
told_actor names phases blocks actor n k h e =
    let f : actor_name (with_actor names actor k) k ≡ actor = subst (λ (j : ℕ). actor_name (with_actor names actor j) j ≡ actor) e (number_names names actor) in
    block_spelled (with_actor names actor k) phases blocks k actor f
    ∙ ap (λ (z : List (List ℕ)). z ++ actor_text actor ∷ []) (with_lines names actor k (phases ++ blocks ∷ []) h.phases)

tells_actor : (s t : Reading) (line : List ℕ) (told : List (List ℕ)) → Within s → told_phases s (s.phases ++ blocks_at s.section s ∷ []) ≡ told
    → Begins line (codes "actor") → actor_line s line ≡ Ok t → Telling t (told ++ line ∷ [])
unfolding actor_line
tells_actor s t line told run h w e =
    let a = first (one_name line) _ t e in
    let b = first (new_block (blocks_at s.section s) (number_of s.actors a.0)) _ t a.2 in
    let m = may_begin (blocks_at s.section s) (number_of s.actors a.0) b.0 b.1 in
    carried (λ (x : Reading). Telling x (told ++ line ∷ [])) (block_opened s a.0 b.0) t b.2
    (record {
      tells = more_lines (flat_map source_lines s.sources) (flat_map (phase_lines s.actors) (s.phases ++ blocks_at s.section s ∷ [])) _ told (actor_text a.0) line
          (told_actor s.actors s.phases (blocks_at s.section s) a.0 s.command_count b.0 run m.is) h (one_name_is line (codes "actor") a.0 w a.1).spells;
      clear = tt;
    })

tells_command : (s t : Reading) (line : List ℕ) (told : List (List ℕ)) → s.section ≡ section.Actor → lines_at section.Actor s ≡ told
    → command_line s line ≡ Ok t → Telling t (told ++ line ∷ [])
unfolding command_line
tells_command s t line told at h e =
    let a = first (command_of line) _ t e in
    let b = passed (nat_le 65536 s.command_count) why.Many _ t a.2 in
    let new = command_added s a.0 in
    carried (λ (x : Reading). Telling x (told ++ line ∷ [])) new t b.1
    (tells_by section.Actor new _ at
    (more_lines (flat_map source_lines s.sources) (phase_lines_at section.Actor s) (phase_lines_at section.Actor new) told a.0.line line
    (command_spelled s.actors s.phases s.blocks s.block a.0) h (sym (command_line_is line a.0 a.1))) tt)

no_word : (s t : Reading) (told : List (List ℕ)) → Err why.Word ≡ Ok t → Telling t told
no_word s t told e = absurd (err_ok why.Word t e)

told_within : (p : Section) (s : Reading) (told : List (List ℕ)) → s.section ≡ p → told_phases s (s.phases ++ blocks_at p s ∷ []) ≡ told → told_phases s (s.phases ++ blocks_at s.section s ∷ []) ≡ told
told_within p s told at h = subst (λ (q : Section). told_phases s (s.phases ++ blocks_at q s ∷ []) ≡ told) (sym at) h

tells_built : (p : Section) (s t : Reading) (line : List ℕ) (told : List (List ℕ)) → s.section ≡ p → AtSection p s → Phased p s → lines_at p s ≡ told → ClearAt p s
    → built_line p s line ≡ Ok t → Telling t (told ++ line ∷ [])
unfolding built_line
tells_built section.Start s t line told at here run h clear e =
    either (same (word_at line 0) (codes "source")) _ _ t _ (λ w g. tells_source s t line told at h clear w g)
    (either (same (word_at line 0) (codes "phase")) _ _ t _ (λ w g. tells_first_phase s t line told here h w g) (no_word s t _)) e
tells_built section.Vertices s t line told at here run h clear e =
    either (same (word_at line 0) (codes "v")) _ _ t _ (λ w g. tells_vertex s t line told at h clear w g)
    (either (same (word_at line 0) (codes "e")) _ _ t _ (λ w g. tells_edge s t line told h w g)
    (either (same (word_at line 0) (codes "end")) _ _ t _ (λ w g. tells_end s t line told h w g) (no_word s t _))) e
tells_built section.Edges s t line told at here run h clear e =
    either (same (word_at line 0) (codes "e")) _ _ t _ (λ w g. tells_edge s t line told h w g)
    (either (same (word_at line 0) (codes "end")) _ _ t _ (λ w g. tells_end s t line told h w g) (no_word s t _)) e
tells_built section.Phase s t line told at here run h clear e =
    either (same (word_at line 0) (codes "phase")) _ _ t _ (λ w g. tells_phase s t line told (told_within section.Phase s told at h) w g)
    (either (same (word_at line 0) (codes "actor")) _ _ t _
    (λ w g. tells_actor s t line told (within section.Phase s at run) (told_within section.Phase s told at h) w g) (no_word s t _)) e
tells_built section.Actor s t line told at here run h clear e =
    either (same (word_at line 0) (codes "phase")) _ _ t _ (λ w g. tells_phase s t line told (told_within section.Actor s told at h) w g)
    (either (same (word_at line 0) (codes "actor")) _ _ t _
    (λ w g. tells_actor s t line told (within section.Actor s at run) (told_within section.Actor s told at h) w g)
    (λ g. tells_command s t line told at h g)) e

tells_in : (p : Section) (s t : Reading) (line : List ℕ) (told : List (List ℕ)) → s.section ≡ p → AtSection p s → Phased p s → lines_at p s ≡ told → ClearAt p s
    → line_in p s line ≡ Ok t → Telling t (told ++ line ∷ [])
unfolding line_in
tells_in p s t line told at here run h clear e =
    tells_built p s t line told at here run h clear (passed (comes_later p (word_at line 0)) why.Later _ t e).1

-- the line, where it is not passed over
abbrev kept : List ℕ → List (List ℕ)
kept line = if is_passed line then [] else line ∷ []

tells_step : (b : Bool) (s t : Reading) (line : List ℕ) (told : List (List ℕ)) → IsReading s → Telling s told
    → (if b then Ok s else if not (is_utf8 line) then Err why.Utf8 else line_in s.section s line) ≡ Ok t → Telling t (told ++ (if b then [] else line ∷ []))
tells_step true s t line told good h e = rw (append-nil told) (carried (λ (x : Reading). Telling x told) s t e h)
tells_step false s t line told good h e =
    tells_in s.section s t line told refl good.stands good.phased h.tells h.clear (passed (not (is_utf8 line)) why.Utf8 _ t e).1

tells_line : (s t : Reading) (line : List ℕ) (told : List (List ℕ)) → IsReading s → Telling s told → line_step s line ≡ Ok t → Telling t (told ++ kept line)
unfolding line_step
tells_line s t line told good h e = tells_step (is_passed line) s t line told good h e

-- ---- the end

script_at : (p : Section) (s : Reading) (told : List (List ℕ)) (phases : List (List Block)) → AtSection p s → lines_at p s ≡ told → phases_at p s ≡ Ok phases → told_phases s phases ≡ told
script_at section.Start s told phases here h e =
    carried (λ (x : List (List Block)). told_phases s x ≡ told) s.phases phases e (rw here.phases (append-nil _ ∙ h))
script_at section.Vertices s told phases here h e = absurd (err_ok why.End phases e)
script_at section.Edges s told phases here h e = absurd (err_ok why.End phases e)
script_at section.Phase s told phases here h e =
    carried (λ (x : List (List Block)). told_phases s x ≡ told) (phases_so_far section.Phase s) phases e h
script_at section.Actor s told phases here h e =
    carried (λ (x : List (List Block)). told_phases s x ≡ told) (phases_so_far section.Actor s) phases e h

ends_told : (n : ℕ) (s : Reading) (told : List (List ℕ)) (script : Script) → IsReading s → Telling s told → ended n s ≡ Ok script → script_lines script ≡ told
unfolding ended
ends_told n s told script good h e =
    let a = at_line_ok n (phases_at s.section s) _ script e in
    carried (λ (x : Script). script_lines x ≡ told) (record { sources = s.sources; actors = s.actors; phases = a.0 }) script a.2
    (script_at s.section s told a.0 good.stands h.tells a.1)

kept_by : (b : Bool) (told : List (List ℕ)) (line : List ℕ) (lines : List (List ℕ)) → (told ++ (if b then [] else line ∷ [])) ++ lines ≡ told ++ (if b then lines else line ∷ lines)
kept_by true told line lines = ap (λ (z : List (List ℕ)). z ++ lines) (append-nil told)
kept_by false told line lines = append_assoc told (line ∷ []) lines

kept_more : (told : List (List ℕ)) (line : List ℕ) (lines : List (List ℕ)) → (told ++ kept (cleaned line)) ++ kept_lines lines ≡ told ++ kept_lines (line ∷ lines)
kept_more told line lines = kept_by (is_passed (cleaned line)) told (cleaned line) (kept_lines lines)

pub record Spells (s : Reading) (lines : List (List ℕ)) : Type 0 where
  pub spells : lines_at s.section s ≡ kept_lines lines
  pub edges : HasEdges s.section s.source.edges

after_told : (s t : Reading) (lines told : List (List ℕ)) → IsReading s → Telling s told → after s lines ≡ Ok t → Telling t (told ++ kept_lines lines)
after_told s t [] told good h e = rw (append-nil told) (carried (λ (x : Reading). Telling x told) s t e h)
after_told s t (line ∷ lines) told good h e =
    let a = first (line_step s (cleaned line)) _ t e in
    rw (← kept_more told line lines)
    (after_told a.0 t lines (told ++ kept (cleaned line)) (keeps s a.0 (cleaned line) good a.1) (tells_line s a.0 (cleaned line) told good h a.1) a.2)

-- what is left of the first lines spells them
pub first_lines : (t : Reading) (lines : List (List ℕ)) → after opening lines ≡ Ok t → Spells t lines
first_lines t lines e =
    let h = after_told opening t lines [] opens_well (record { tells = refl; clear = tt }) e in
    record { spells = h.tells; edges = h.clear }

reads_told : (n : ℕ) (s : Reading) (lines : List (List ℕ)) (told : List (List ℕ)) (script : Script) → IsReading s → Telling s told → lines_read n s lines ≡ Ok script
    → script_lines script ≡ told ++ kept_lines lines
unfolding lines_read
reads_told n s [] told script good h e = ends_told n s told script good h e ∙ sym (append-nil told)
reads_told n s (line ∷ lines) told script good h e =
    let a = at_line_ok n (line_step s (cleaned line)) _ script e in
    reads_told (n + 1) a.0 lines (told ++ kept (cleaned line)) script (keeps s a.0 (cleaned line) good a.1) (tells_line s a.0 (cleaned line) told good h a.1) a.2
    ∙ kept_more told line lines

-- the lines that a script spells are those that it was read from
pub spells_lines : (script : Script) (bytes : List ℕ) → script_of bytes ≡ Ok script → script_lines script ≡ kept_lines (lines_of bytes)
spells_lines script bytes h = reads_told 1 opening (lines_of bytes) [] script opens_well (record { tells = refl; clear = tt }) h
