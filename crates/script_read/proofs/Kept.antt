-- What each line keeps, so that a script that is read is one of the grammar.
use Rattle.std.proofs.Common.{◌≡◌, ◌∙◌, sym, refl, subst, ℕ, ◌+◌, ◌<◌, ◌≤◌, List, [], ◌∷◌, ◌++◌, length, get_or, false, None, Ok, Err, arith}
use Rattle.std.specs.Prelude.{◌≢◌, ◌-◌, ◌^◌, not, nat_le, nat_lt, All, AllPairs, codes, sum_by, ⊤}
use Rattle.std.specs.Str.{is_utf8}
use Rattle.std.proofs.lemmas.Bool.{leb-false, ltb-false, false≢true}
use Rattle.std.proofs.lemmas.List.{length-append}
use Rattle.std.proofs.lemmas.List.Elements.{All-nil, All-push}
use Rattle.std.proofs.lemmas.List.Folds.{list_any_at}
use Rattle.std.proofs.lemmas.List.Quantifiers.{all_pairs_push}
use Rattle.script_read.specs.declared.fault.LineWhy.TheVariants as why
use Rattle.script_read.specs.declared.reading.Section.{Section}
use Rattle.script_read.specs.declared.reading.Section.TheVariants as section
use Rattle.script_read.specs.declared.reading.Reading.{Reading}
use Rattle.script_read.specs.declared.script.Block.{Block}
use Rattle.script_read.specs.declared.script.Script.{Script}
use Rattle.script_read.specs.declared.script.SourceForm.TheVariants.{Inline, Files}
use Rattle.script_read.specs.declared.script.SourceText.{SourceText}
use Rattle.script_read.specs.Commands.{command_of}
use Rattle.script_read.specs.Later.{comes_later}
use Rattle.script_read.specs.Lines.{lines_of, cleaned, is_passed, line_step}
use Rattle.script_read.specs.Meaning.{IsName, HasFiles, IsScript}
use Rattle.script_read.specs.Phases.{block_count}
use Rattle.script_read.specs.Sections.{has_source, new_source, inline_line, files_line, source_line, vertex_line, edge_line, end_line, first_phase_line, phase_line, phase_ended, blocks_at, number_of, has_block, new_block, block_opened, actor_line, command_added, command_line, built_line, line_in}
use Rattle.script_read.specs.Script.{opening, phases_so_far, phases_at, ended, lines_read, script_of}
use Rattle.script_read.specs.Words.{same, word_at, name, file_name, key, alone, one_name}
use Rattle.script_read.proofs.Blocks.{ArePhases, phase_more, actor_more, command_more}
use Rattle.script_read.proofs.Forms.{command_is}
use Rattle.script_read.proofs.Shapes.{Begins, one_name_is}
use Rattle.script_read.proofs.Inversions.{err_ok, carried, passed, either, first, named, file_named, is_same, at_line_ok}

-- ---- what is kept

-- no phase has begun
pub record NoPhase (s : Reading) : Type 0 where
  pub phases : s.phases ≡ []
  pub blocks : s.blocks ≡ []

-- one more source of this name may stand behind those that are read, and no phase has begun
pub record IsOpen (s : Reading) : Type 0 where
  pub before : NoPhase s
  pub room : length s.sources + 1 ≤ 64
  pub fresh : has_source s.sources s.source.name ≡ false
  pub is_name : IsName s.source.name

-- what stands where the next line stands
abbrev pub AtSection : Section → Reading → Type 0
AtSection section.Start s = NoPhase s
AtSection section.Vertices s = IsOpen s
AtSection section.Edges s = IsOpen s
AtSection section.Phase s = ⊤
AtSection section.Actor s = ⊤

placed : (p q : Section) (s : Reading) → p ≡ q → AtSection q s → AtSection p s
placed p q s e h = rw e h

-- the phases so far are those of a script
abbrev pub Phased : Section → Reading → Type 0
Phased p s = ArePhases s.actors (phases_so_far p s) s.command_count

phased : (p q : Section) (s : Reading) → p ≡ q → Phased q s → Phased p s
phased p q s e h = rw e h

abbrev Named : SourceText → Type 0
Named source = IsName source.name

abbrev Filed : SourceText → Type 0
Filed source = HasFiles source.form

abbrev Differ : SourceText → SourceText → Type 0
Differ s t = s.name ≢ t.name

pub record IsReading (s : Reading) : Type 0 where
  pub few : length s.sources ≤ 64
  pub names : All Named s.sources
  pub files : All Filed s.sources
  pub distinct : AllPairs Differ s.sources
  pub stands : AtSection s.section s
  pub phased : Phased s.section s

room_of : (sources : List SourceText) → nat_le 64 (length sources) ≡ false → length sources + 1 ≤ 64
room_of sources h = omega (arith, leb-false 64 (length sources) h)

one_more_source : (sources : List SourceText) (x : SourceText) → length sources + 1 ≤ 64 → length (sources ++ x ∷ []) ≤ 64
one_more_source sources x h = rw (length-append sources (x ∷ [])) (omega (arith, h))

-- a name that no source has differs from each
differs : (sources : List SourceText) (x : SourceText) → has_source sources x.name ≡ false → (k : ℕ) (d : SourceText) → k < length sources → Differ (get_or sources k d) x
differs sources x h k d lt e =
    false≢true (sym h ∙ list_any_at (λ (s : SourceText). same s.name x.name) sources k d lt (is_same (get_or sources k d).name x.name e))

-- one more source may stand under this name
record IsNew (sources : List SourceText) (name : List ℕ) : Type 0 where
  room : length sources + 1 ≤ 64
  fresh : has_source sources name ≡ false

is_new : (sources : List SourceText) (name : List ℕ) (u : Unit {0}) → new_source sources name ≡ Ok u → IsNew sources name
unfolding new_source
is_new sources name u h =
    let c = passed (has_source sources name) why.Twice _ u h in
    let d = passed (nat_le 64 (length sources)) why.Many _ u c.1 in
    record { room = room_of sources d.0; fresh = c.0 }

keeps_inline : (s t : Reading) (line : List ℕ) → IsReading s → AtSection section.Start s → Phased section.Start s → inline_line s line ≡ Ok t → IsReading t
unfolding inline_line
keeps_inline s t line good here run h =
    let a = passed _ why.Form _ t h in
    let b = first (name (word_at line 1)) _ t a.1 in
    let n = named _ _ b.1 in
    let c = first (new_source s.sources b.0) _ t b.2 in
    let d = is_new s.sources b.0 c.0 c.1 in
    carried IsReading (record s { section = section.Vertices; source = record { name = b.0; vertices = []; edges = [] } }) t c.2
    (record { few = good.few; names = good.names; files = good.files; distinct = good.distinct; stands = record { before = record { phases = here.phases; blocks = here.blocks }; room = d.room; fresh = d.fresh; is_name = n.1 }; phased = run })

keeps_files : (s t : Reading) (line : List ℕ) → IsReading s → s.section ≡ section.Start → AtSection section.Start s → Phased section.Start s → files_line s line ≡ Ok t → IsReading t
unfolding files_line
keeps_files s t line good at here run h =
    let a = passed _ why.Form _ t h in
    let b = first (name (word_at line 1)) _ t a.1 in
    let n = named _ _ b.1 in
    let c = first (file_name (word_at line 3)) _ t b.2 in
    let f = file_named _ _ c.1 in
    let d = first (new_source s.sources b.0) _ t c.2 in
    let e = is_new s.sources b.0 d.0 d.1 in
    let source : SourceText = record { name = b.0; form = Files c.0 None } in
    let new : Reading = record s { sources = s.sources ++ source ∷ [] } in
    carried IsReading new t d.2
    (record {
      few = one_more_source s.sources source e.room;
      names = All-push Named s.sources source good.names n.1;
      files = All-push Filed s.sources source good.files (f.1, refl);
      distinct = all_pairs_push Differ s.sources source good.distinct (differs s.sources source e.fresh);
      stands = placed s.section section.Start new at (record { phases = here.phases; blocks = here.blocks });
      phased = phased s.section section.Start new at run;
    })

keeps_source : (s t : Reading) (line : List ℕ) → IsReading s → s.section ≡ section.Start → AtSection section.Start s → Phased section.Start s → source_line s line ≡ Ok t → IsReading t
unfolding source_line
keeps_source s t line good at here run h =
    either (same (word_at line 2) (codes "config")) _ _ t _ (λ w e. keeps_files s t line good at here run e) (keeps_inline s t line good here run) h

keeps_vertex : (s t : Reading) (line : List ℕ) → IsReading s → s.section ≡ section.Vertices → AtSection section.Vertices s → Phased section.Vertices s → vertex_line s line ≡ Ok t → IsReading t
unfolding vertex_line
keeps_vertex s t line good at here run h =
    let a = passed _ why.Form _ t h in
    let b = first (key (word_at line 1)) _ t a.1 in
    let new : Reading = record s { source = record s.source { vertices = s.source.vertices ++ b.0 ∷ [] } } in
    carried IsReading new t b.2
    (record { few = good.few; names = good.names; files = good.files; distinct = good.distinct; stands = placed s.section section.Vertices new at (record { before = record { phases = here.before.phases; blocks = here.before.blocks }; room = here.room; fresh = here.fresh; is_name = here.is_name }); phased = phased s.section section.Vertices new at run })

keeps_edge : (s t : Reading) (line : List ℕ) → IsReading s → AtSection section.Edges s → Phased section.Edges s → edge_line s line ≡ Ok t → IsReading t
unfolding edge_line
keeps_edge s t line good here run h =
    let a = passed _ why.Form _ t h in
    let b = first (key (word_at line 1)) _ t a.1 in
    let c = first (key (word_at line 2)) _ t b.2 in
    let d = first (key (word_at line 3)) _ t c.2 in
    carried IsReading (record s { section = section.Edges; source = record s.source { edges = s.source.edges ++ (b.0, c.0, d.0) ∷ [] } }) t d.2
    (record { few = good.few; names = good.names; files = good.files; distinct = good.distinct; stands = record { before = record { phases = here.before.phases; blocks = here.before.blocks }; room = here.room; fresh = here.fresh; is_name = here.is_name }; phased = run })

keeps_end : (s t : Reading) (line : List ℕ) → IsReading s → AtSection section.Edges s → Phased section.Edges s → end_line s line ≡ Ok t → IsReading t
unfolding end_line
keeps_end s t line good here run h =
    let a = first (alone line) _ t h in
    carried IsReading
    (record s {
      section = section.Start;
      sources = s.sources ++ record { name = s.source.name; form = Inline s.source.vertices s.source.edges } ∷ [];
      source = record { name = []; vertices = []; edges = [] };
    }) t a.2
    (record {
      few = one_more_source s.sources _ here.room;
      names = All-push Named s.sources _ good.names here.is_name;
      files = All-push Filed s.sources _ good.files tt;
      distinct = all_pairs_push Differ s.sources _ good.distinct (differs s.sources (record { name = s.source.name; form = Inline s.source.vertices s.source.edges }) here.fresh);
      stands = record { phases = here.before.phases; blocks = here.before.blocks };
      phased = run;
    })

first_phased : (names : List (List ℕ)) (phases : List (List Block)) (blocks : List Block) (n : ℕ) → blocks ≡ [] → ArePhases names phases n → ArePhases names (phases ++ blocks ∷ []) n
first_phased names phases blocks n e h = rw e (phase_more names phases n h)

keeps_first_phase : (s t : Reading) (line : List ℕ) → IsReading s → AtSection section.Start s → Phased section.Start s → first_phase_line s line ≡ Ok t → IsReading t
unfolding first_phase_line
keeps_first_phase s t line good here run h =
    let a = first (alone line) _ t h in
    carried IsReading (record s { section = section.Phase }) t a.2
    (record { few = good.few; names = good.names; files = good.files; distinct = good.distinct; stands = tt; phased = first_phased s.actors s.phases s.blocks s.command_count here.blocks run })

-- a phase is open, and its blocks are the last of those so far
abbrev pub Within : Reading → Type 0
Within s = ArePhases s.actors (s.phases ++ blocks_at s.section s ∷ []) s.command_count

keeps_phase : (s t : Reading) (line : List ℕ) → IsReading s → Within s → phase_line s line ≡ Ok t → IsReading t
unfolding phase_line
keeps_phase s t line good run h =
    let a = first (alone line) _ t h in
    carried IsReading (record (phase_ended s) { section = section.Phase }) t a.2
    (record { few = good.few; names = good.names; files = good.files; distinct = good.distinct; stands = tt; phased = phase_more s.actors (s.phases ++ blocks_at s.section s ∷ []) s.command_count run })

-- the number of a block that may begin
pub record MayBegin (blocks : List Block) (number x : ℕ) : Type 0 where
  pub is : number ≡ x
  pub free : has_block blocks x ≡ false
  pub room : x ≤ 128

pub may_begin : (blocks : List Block) (number x : ℕ) → new_block blocks number ≡ Ok x → MayBegin blocks number x
unfolding new_block
may_begin blocks number x h =
    let a = passed (has_block blocks number) why.Twice _ x h in
    let b = passed (nat_lt 128 number) why.Many _ x a.1 in
    let room = ltb-false 128 number b.0 in
    carried (MayBegin blocks number) number x b.1 (record { is = refl; free = a.0; room = room })

keeps_actor : (s t : Reading) (line : List ℕ) → IsReading s → Within s → Begins line (codes "actor") → actor_line s line ≡ Ok t → IsReading t
unfolding actor_line
keeps_actor s t line good run w h =
    let a = first (one_name line) _ t h in
    let b = first (new_block (blocks_at s.section s) (number_of s.actors a.0)) _ t a.2 in
    let m = may_begin (blocks_at s.section s) (number_of s.actors a.0) b.0 b.1 in
    carried IsReading (block_opened s a.0 b.0) t b.2
    (record {
      few = good.few;
      names = good.names;
      files = good.files;
      distinct = good.distinct;
      stands = tt;
      phased = actor_more s.actors s.phases (blocks_at s.section s) s.command_count a.0 b.0 m.is run (one_name_is line _ a.0 w a.1).is_name m.free m.room;
    })

keeps_command : (s t : Reading) (line : List ℕ) → IsReading s → s.section ≡ section.Actor → Phased section.Actor s → command_line s line ≡ Ok t → IsReading t
unfolding command_line
keeps_command s t line good at run h =
    let a = first (command_of line) _ t h in
    let b = passed (nat_le 65536 s.command_count) why.Many _ t a.2 in
    let room = leb-false 65536 s.command_count b.0 in
    let new = command_added s a.0 in
    carried IsReading new t b.1
    (record {
      few = good.few;
      names = good.names;
      files = good.files;
      distinct = good.distinct;
      stands = placed s.section section.Actor new at tt;
      phased = phased s.section section.Actor new at (command_more s.actors s.phases s.blocks s.block s.command_count a.0 run (command_is line a.0 a.1) room);
    })

no_word : (s t : Reading) → Err why.Word ≡ Ok t → IsReading t
no_word s t e = absurd (err_ok why.Word t e)

pub within : (p : Section) (s : Reading) → s.section ≡ p → ArePhases s.actors (s.phases ++ blocks_at p s ∷ []) s.command_count → Within s
within p s at h = subst (λ (q : Section). ArePhases s.actors (s.phases ++ blocks_at q s ∷ []) s.command_count) (sym at) h

keeps_built : (p : Section) (s t : Reading) (line : List ℕ) → IsReading s → s.section ≡ p → AtSection p s → Phased p s → built_line p s line ≡ Ok t → IsReading t
unfolding built_line
keeps_built section.Start s t line good at here run h =
    either (same (word_at line 0) (codes "source")) _ _ t _ (λ w e. keeps_source s t line good at here run e)
    (either (same (word_at line 0) (codes "phase")) _ _ t _ (λ w e. keeps_first_phase s t line good here run e) (no_word s t)) h
keeps_built section.Vertices s t line good at here run h =
    either (same (word_at line 0) (codes "v")) _ _ t _ (λ w e. keeps_vertex s t line good at here run e)
    (either (same (word_at line 0) (codes "e")) _ _ t _ (λ w e. keeps_edge s t line good here run e)
    (either (same (word_at line 0) (codes "end")) _ _ t _ (λ w e. keeps_end s t line good here run e) (no_word s t))) h
keeps_built section.Edges s t line good at here run h =
    either (same (word_at line 0) (codes "e")) _ _ t _ (λ w e. keeps_edge s t line good here run e)
    (either (same (word_at line 0) (codes "end")) _ _ t _ (λ w e. keeps_end s t line good here run e) (no_word s t)) h
keeps_built section.Phase s t line good at here run h =
    either (same (word_at line 0) (codes "phase")) _ _ t _ (λ w e. keeps_phase s t line good (within section.Phase s at run) e)
    (either (same (word_at line 0) (codes "actor")) _ _ t _ (λ w e. keeps_actor s t line good (within section.Phase s at run) w e) (no_word s t)) h
keeps_built section.Actor s t line good at here run h =
    either (same (word_at line 0) (codes "phase")) _ _ t _ (λ w e. keeps_phase s t line good (within section.Actor s at run) e)
    (either (same (word_at line 0) (codes "actor")) _ _ t _ (λ w e. keeps_actor s t line good (within section.Actor s at run) w e)
    (λ e. keeps_command s t line good at run e)) h

keeps_in : (p : Section) (s t : Reading) (line : List ℕ) → IsReading s → s.section ≡ p → AtSection p s → Phased p s → line_in p s line ≡ Ok t → IsReading t
unfolding line_in
keeps_in p s t line good at here run h = keeps_built p s t line good at here run (passed (comes_later p (word_at line 0)) why.Later _ t h).1

-- each line keeps it
pub keeps : (s t : Reading) (line : List ℕ) → IsReading s → line_step s line ≡ Ok t → IsReading t
unfolding line_step
keeps s t line good h =
    either (is_passed line) _ _ t _ (λ p e. carried IsReading s t e good)
    (λ e. keeps_in s.section s t line good refl good.stands good.phased (passed (not (is_utf8 line)) why.Utf8 _ t e).1) h

-- ---- the end

phases_are : (p : Section) (s : Reading) (phases : List (List Block)) → Phased p s → phases_at p s ≡ Ok phases → ArePhases s.actors phases s.command_count
phases_are section.Start s phases run h = carried (λ x. ArePhases s.actors x s.command_count) (phases_so_far section.Start s) phases h run
phases_are section.Vertices s phases run h = absurd (err_ok why.End phases h)
phases_are section.Edges s phases run h = absurd (err_ok why.End phases h)
phases_are section.Phase s phases run h = carried (λ x. ArePhases s.actors x s.command_count) (phases_so_far section.Phase s) phases h run
phases_are section.Actor s phases run h = carried (λ x. ArePhases s.actors x s.command_count) (phases_so_far section.Actor s) phases h run

-- the blocks of a script are not too many
abbrev pub FewBlocks : Script → Type 0
FewBlocks script = sum_by block_count script.phases < 2 ^ 32 - 1

script_is : (s : Reading) (phases : List (List Block)) → IsReading s → ArePhases s.actors phases s.command_count
    → FewBlocks (record { sources = s.sources; actors = s.actors; phases = phases }) → IsScript (record { sources = s.sources; actors = s.actors; phases = phases })
script_is s phases good h blocks = record {
  few = good.few;
  names = good.names;
  files = good.files;
  distinct = good.distinct;
  few_actors = h.few;
  actor_names = h.names;
  distinct_actors = h.distinct;
  numbered = h.numbered;
  runs = record { phases = h.phases; commands = omega (arith, h.counted, h.many); blocks = blocks };
  commands = h.commands;
}

ends_well : (n : ℕ) (s : Reading) (script : Script) → IsReading s → ended n s ≡ Ok script → FewBlocks script → IsScript script
unfolding ended
ends_well n s script good h =
    let a = at_line_ok n (phases_at s.section s) _ script h in
    carried (λ (x : Script). FewBlocks x → IsScript x) (record { sources = s.sources; actors = s.actors; phases = a.0 }) script a.2
    (script_is s a.0 good (phases_are s.section s a.0 good.phased a.1))

reads_well : (n : ℕ) (s : Reading) (lines : List (List ℕ)) (script : Script) → IsReading s → lines_read n s lines ≡ Ok script → FewBlocks script → IsScript script
unfolding lines_read
reads_well n s [] script good h = ends_well n s script good h
reads_well n s (line ∷ lines) script good h =
    let a = at_line_ok n (line_step s (cleaned line)) _ script h in
    reads_well (n + 1) a.0 lines script (keeps s a.0 (cleaned line) good a.1) a.2

none_phased : ArePhases [] [] 0
none_phased = record {
  few = omega arith;
  names = All-nil IsName;
  distinct = λ i j d lt in_range. absurd (omega (arith, in_range));
  phases = tt;
  numbered = refl;
  commands = tt;
  counted = refl;
  many = omega arith;
}

pub opens_well : IsReading opening
opens_well = record {
  few = omega arith;
  names = All-nil Named;
  files = All-nil Filed;
  distinct = λ i j d lt in_range. absurd (omega (arith, in_range));
  stands = record { phases = refl; blocks = refl };
  phased = none_phased;
}

-- a script that is read is one of the grammar, where it has not too many blocks
pub is_script : (script : Script) (bytes : List ℕ) → script_of bytes ≡ Ok script → FewBlocks script → IsScript script
is_script script bytes h = reads_well 1 opening (lines_of bytes) script opens_well h
