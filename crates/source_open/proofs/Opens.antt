-- Opening sources comes to what the laws say.
use Rattle.std.proofs.Common.{◌≡◌, ◌⊎◌, ◌∙◌, refl, sym, ap, subst, inl, inr, ℕ, List, [], ◌∷◌, ◌++◌, append_assoc, Result, Ok, Err, IsOk, Option, Some, None, IsSome, arith}
use Rattle.std.specs.Prelude.{All}
use Rattle.std.specs.List.{AllZip}
use Rattle.std.proofs.lemmas.List.{append-nil}
use Rattle.std.proofs.lemmas.List.Elements.{All-cons}
use Rattle.pgx_io.specs.Files.{Files}
use Rattle.graph_config.specs.Config.{ConfigData, config_of}
use Rattle.graph_config.specs.Fault.{Fault}
use Rattle.graph_model.specs.Graph.{GraphData}
use Rattle.table_loader.specs.Inline.{inline_of}
use Rattle.table_loader.specs.Tables.{tables_of}
use Rattle.table_loader.specs.declared.fault.LoadFault.{LoadFault}
use Rattle.table_loader.specs.declared.fault.LoadFault.TheVariants as load_fault
use Rattle.script_read.specs.declared.script.SourceForm.{SourceForm}
use Rattle.script_read.specs.declared.script.SourceForm.TheVariants as form
use Rattle.script_read.specs.declared.script.SourceText.{SourceText}
use Rattle.catalogue_state.specs.declared.parts.SourceData.{SourceData}
use Rattle.table_loader.specs.Fault.{◌>>=◌}
use Rattle.source_open.specs.Opening.{found, file_got, got_after, files_got, config_named, config_read, tables_named, tables_read, config_graph, file_graph, inline_files, form_graph, source_graph, source_opened, opened_after, opened}
use Rattle.source_open.proofs.Kept.{then_is}
use Rattle.source_open.specs.Laws.{OpenEach, FaultAtFirst, InlineNeedsNoFile, ToldMissing, RecordsAfterFiles}
use Rattle.source_open.specs.declared.fault.SourceFault.{SourceFault}
use Rattle.source_open.specs.declared.fault.SourceFault.TheVariants.{NoFile, BadTable}

-- two steps that give a value, and two that end with a fault
after_first : {A B : Type 0} (r : Result A SourceFault) (f : A → Result B SourceFault) (y : B) → (r >>= f) ≡ Ok y → (x : A) × (r ≡ Ok x) × (f x ≡ Ok y)
after_first (Ok x) f y h = (x, refl, h)
after_first (Err fault) f y h = absurd cc

by_either : {A B : Type 0} (r : Result A SourceFault) (f : A → Result B SourceFault) (fault : SourceFault) → (r >>= f) ≡ Err fault → (r ≡ Err fault) ⊎ ((x : A) × (r ≡ Ok x) × (f x ≡ Err fault))
by_either (Ok x) f fault h = inr (x, refl, h)
by_either (Err e) f fault h = let same : e ≡ fault = cc in inl (ap Err same)

nothing : {X : Type 0} (P : X → Type 0) → All P []
nothing P = λ k d within. absurd (omega arith)

module _ (files : Files) where
  abbrev Opens : SourceText → SourceData → Type 0
  Opens source opening = source_opened files source ≡ Ok opening

  abbrev rest_of : List SourceData → List SourceText → SourceData → Result (List SourceData) SourceFault
  rest_of done sources opening = opened_after files (done ++ opening ∷ []) sources

  to_each : (done : List SourceData) (sources : List SourceText) (out : List SourceData) → opened_after files done sources ≡ Ok out
      → (openings : List SourceData) × (out ≡ done ++ openings) × AllZip Opens sources openings
  to_each done [] out h = let same : done ≡ out = cc in ([], sym same ∙ sym (append-nil done), tt)
  to_each done (s ∷ ss) out h =
      let o = after_first (source_opened files s) (rest_of done ss) out h in
      let p = to_each (done ++ o.0 ∷ []) ss out o.2 in
      (o.0 ∷ p.0, p.1 ∙ append_assoc done (o.0 ∷ []) p.0, (o.1, p.2))

  from_each : (done : List SourceData) (sources : List SourceText) (openings : List SourceData) → AllZip Opens sources openings → opened_after files done sources ≡ Ok (done ++ openings)
  from_each done [] [] h = ap Ok (sym (append-nil done))
  from_each done [] (d ∷ ds) h = absurd h
  from_each done (s ∷ ss) [] h = absurd h
  from_each done (s ∷ ss) (d ∷ ds) h =
      then_is (source_opened files s) (rest_of done ss) d (Ok (done ++ d ∷ ds)) h.0 (from_each (done ++ d ∷ []) ss ds h.1 ∙ ap Ok (append_assoc done (d ∷ []) ds))

  -- the fault of a first source that does not open
  abbrev AtFirst : List SourceText → SourceFault → Type 0
  AtFirst sources fault =
      (before : List SourceText) × (source : SourceText) × (after : List SourceText) × (sources ≡ before ++ source ∷ after)
      × All (λ other. IsOk (source_opened files other)) before × (source_opened files source ≡ Err fault)

  at_first : (done : List SourceData) (sources : List SourceText) (fault : SourceFault) → opened_after files done sources ≡ Err fault → AtFirst sources fault
  at_first done [] fault h = absurd cc
  at_first done (s ∷ ss) fault h =
      elim (by_either (source_opened files s) (rest_of done ss) fault h) [
        | inl p ↦ ([], s, ss, refl, nothing (λ other. IsOk (source_opened files other)), p)
        | inr q ↦
            let o = at_first (done ++ q.0 ∷ []) ss fault q.2 in
            let opens : IsOk (source_opened files s) = subst (λ (r : Result SourceData SourceFault). IsOk r) (sym q.1) refl in
            (s ∷ o.0, o.1, o.2, ap (λ xs. s ∷ xs) o.3, All-cons (λ other. IsOk (source_opened files other)) s o.0 opens o.4, o.5)
      ]

  -- what is missing of one look-up
  look_up : (o : Option (List ℕ)) (name told : List ℕ) → found name o ≡ Err (NoFile told) → (name ≡ told) × (o ≡ None)
  look_up None name told h = let same : name ≡ told = cc in (same, refl)
  look_up (Some bytes) name told h = absurd cc

  looked_up : (o : Option (List ℕ)) (name bytes : List ℕ) → found name o ≡ Ok bytes → IsSome o
  looked_up None name bytes h = absurd cc
  looked_up (Some b) name bytes h = refl

  only_missing : (o : Option (List ℕ)) (name : List ℕ) (fault : SourceFault) → found name o ≡ Err fault → fault ≡ NoFile name
  only_missing None name fault h = cc
  only_missing (Some bytes) name fault h = absurd cc

  missing_file : (name told : List ℕ) → file_got files name ≡ Err (NoFile told) → files told ≡ None
  missing_file name told h = let o = look_up (files name) name told h in subst (λ (n : List ℕ). files n ≡ None) o.0 o.1

  -- and of several
  abbrev rest_got : List (List ℕ) → List (List ℕ) → List ℕ → Result (List (List ℕ)) SourceFault
  rest_got done names bytes = got_after files (done ++ bytes ∷ []) names

  missing_one : (done names : List (List ℕ)) (told : List ℕ) → got_after files done names ≡ Err (NoFile told) → files told ≡ None
  missing_one done [] told h = absurd cc
  missing_one done (n ∷ ns) told h =
      elim (by_either (file_got files n) (rest_got done ns) (NoFile told) h) [ inl p ↦ missing_file n told p | inr q ↦ missing_one (done ++ q.0 ∷ []) ns told q.2 ]

  all_there : (done names out : List (List ℕ)) → got_after files done names ≡ Ok out → All (λ name. IsSome (files name)) names
  all_there done [] out h = nothing (λ name. IsSome (files name))
  all_there done (n ∷ ns) out h =
      let o = after_first (file_got files n) (rest_got done ns) out h in
      All-cons (λ name. IsSome (files name)) n ns (looked_up (files n) n o.0 o.1) (all_there (done ++ o.0 ∷ []) ns out o.2)

  one_missing : (done names : List (List ℕ)) (fault : SourceFault) → got_after files done names ≡ Err fault → (name : List ℕ) × (fault ≡ NoFile name)
  one_missing done [] fault h = absurd cc
  one_missing done (n ∷ ns) fault h =
      elim (by_either (file_got files n) (rest_got done ns) fault h) [ inl p ↦ (n, only_missing (files n) n fault p) | inr q ↦ one_missing (done ++ q.0 ∷ []) ns fault q.2 ]

  -- reading tells no missing file
  none_in_tables : (names : List (List ℕ)) (r : Result GraphData LoadFault) (told : List ℕ) → tables_named names r ≡ Err (NoFile told) → ⊥
  none_in_tables names (Ok g) told h = cc
  none_in_tables names (Err (load_fault.Bad file row number)) told h = cc
  none_in_tables names (Err load_fault.NoMemory) told h = cc

  none_in_config : (name : List ℕ) (r : Result ConfigData Fault) (told : List ℕ) → config_named name r ≡ Err (NoFile told) → ⊥
  none_in_config name (Ok c) told h = cc
  none_in_config name (Err fault) told h = cc

  missing_table : (config : ConfigData) (told : List ℕ) → config_graph files config ≡ Err (NoFile told) → files told ≡ None
  missing_table config told h =
      elim (by_either (files_got files config.files) (tables_read config) (NoFile told) h) [
        | inl p ↦ missing_one [] config.files told p
        | inr q ↦ absurd (none_in_tables config.files (tables_of config.schema q.0) told q.2)
      ]

  missing_of_config : (name bytes told : List ℕ) → (config_read name bytes >>= config_graph files) ≡ Err (NoFile told) → files told ≡ None
  missing_of_config name bytes told h =
      elim (by_either (config_read name bytes) (config_graph files) (NoFile told) h) [
        | inl p ↦ absurd (none_in_config name (config_of bytes) told p)
        | inr q ↦ missing_table q.0 told q.2
      ]

  missing_of_files : (name told : List ℕ) → file_graph files name ≡ Err (NoFile told) → files told ≡ None
  missing_of_files name told h =
      elim (by_either (file_got files name) (λ bytes. config_read name bytes >>= config_graph files) (NoFile told) h) [
        | inl p ↦ missing_file name told p
        | inr q ↦ missing_of_config name q.0 told q.2
      ]

  missing_of_form : (name : List ℕ) (f : SourceForm) (told : List ℕ) → form_graph files name f ≡ Err (NoFile told) → files told ≡ None
  missing_of_form name (form.Inline vertices edges) told h = absurd (none_in_tables (inline_files name) (inline_of vertices edges) told h)
  missing_of_form name (form.Files config None) told h = missing_of_files config told h
  missing_of_form name (form.Files config (Some changes)) told h = missing_of_files config told h

  missing_of_source : (source : SourceText) (told : List ℕ) → source_opened files source ≡ Err (NoFile told) → files told ≡ None
  missing_of_source source told h =
      elim (by_either (source_graph files source) (λ graph. Ok (record { name = source.name; opening = graph; changes = [] })) (NoFile told) h) [
        | inl p ↦ missing_of_form source.name source.form told p
        | inr q ↦ absurd (let e : ◌≡◌ {A = Result SourceData SourceFault} (Ok (record { name = source.name; opening = q.0; changes = [] })) (Err (NoFile told)) = q.2 in cc)
      ]

  missing_of : (sources : List SourceText) (told : List ℕ) → opened files sources ≡ Err (NoFile told) → files told ≡ None
  missing_of sources told h = let o = at_first [] sources (NoFile told) h in missing_of_source o.1 told o.5

  not_missing : (file : List ℕ) (row number : ℕ) (name : List ℕ) → BadTable file row number ≡ NoFile name → ⊥
  not_missing file row number name h = cc

  there_before : (config : ConfigData) (file : List ℕ) (row number : ℕ) → config_graph files config ≡ Err (BadTable file row number) → All (λ name. IsSome (files name)) config.files
  there_before config file row number h =
      elim (by_either (files_got files config.files) (tables_read config) (BadTable file row number) h) [
        | inl p ↦ let o = one_missing [] config.files (BadTable file row number) p in absurd (not_missing file row number o.0 o.1)
        | inr q ↦ all_there [] config.files q.0 q.1
      ]

pub open_each : OpenEach
open_each files sources openings = (
  λ h. let o = to_each files [] sources openings h in subst (λ (ds : List SourceData). AllZip (Opens files) sources ds) (sym o.1) o.2,
  from_each files [] sources openings,
)

pub fault_at_first : FaultAtFirst
fault_at_first files sources fault h = at_first files [] sources fault h

pub inline_needs_no_file : InlineNeedsNoFile
inline_needs_no_file files others name vertices edges = refl

pub told_missing : ToldMissing
told_missing files sources name h = missing_of files sources name h

pub records_after_files : RecordsAfterFiles
records_after_files files config file row number h = there_before files config file row number h
