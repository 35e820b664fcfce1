-- Steps over a library, which keeps its files where it tells them.
use Rattle.std.proofs.Common.{◌≡◌, ◌∙◌, refl, sym, ap, subst, ℕ, ◌+◌, ◌<◌, List, [], ◌∷◌, ◌++◌, length, take, drop, get_or, Result, Ok, Option, Some, None, IfSome}
use Rattle.std.specs.List.{AllZip}
use Rattle.std.proofs.lemmas.List.{drop_more, take_more, map_push}
use Rattle.pgx_io.specs.Files.{Files, KeepsFiles}
use Rattle.graph_config.specs.Config.{ConfigData}
use Rattle.graph_model.specs.Graph.{GraphData}
use Rattle.script_read.specs.declared.script.SourceForm.{SourceForm}
use Rattle.script_read.specs.declared.script.SourceForm.TheVariants as form
use Rattle.script_read.specs.declared.script.SourceText.{SourceText}
use Rattle.catalogue_state.specs.declared.parts.SourceData.{SourceData}
use Rattle.table_loader.specs.Fault.{◌>>=◌}
use Rattle.source_open.specs.Opening.{file_got, config_read, config_graph, file_graph, form_graph, source_graph, source_opened, opened, opened_after, names_of, opened_names, IsOfLines, IsInlineOf, AreInlineOf}
use Rattle.source_open.specs.declared.fault.SourceFault.{SourceFault}

-- two steps that give a value
pub then_is : {A B : Type 0} (r : Result A SourceFault) (f : A → Result B SourceFault) (x : A) (y : Result B SourceFault) → r ≡ Ok x → f x ≡ y → (r >>= f) ≡ y
then_is r f x y ok is = subst (λ s. (s >>= f) ≡ y) (sym ok) is

pub keeps_on : (old mid new : Option Files) → KeepsFiles old mid → KeepsFiles mid new → KeepsFiles old new
keeps_on None mid new p q = tt
keeps_on (Some f) None new p q = absurd p
keeps_on (Some f) (Some g) None p q = absurd q
keeps_on (Some f) (Some g) (Some h) p q = q ∙ p

-- a configuration is got and read, and then its tables
pub files_read : (old mid : Option Files) (name bytes : List ℕ) (config : ConfigData) (graph : GraphData) → KeepsFiles old mid → IfSome old (λ files. file_got files name ≡ Ok bytes)
    → config_read name bytes ≡ Ok config → IfSome mid (λ files. config_graph files config ≡ Ok graph) → IfSome old (λ files. file_graph files name ≡ Ok graph)
files_read None mid name bytes config graph keeps got reads tables = tt
files_read (Some f) None name bytes config graph keeps got reads tables = absurd keeps
files_read (Some f) (Some g) name bytes config graph keeps got reads tables =
    then_is (file_got f name) (λ b. config_read name b >>= config_graph f) bytes (Ok graph) got
    (then_is (config_read name bytes) (config_graph f) config (Ok graph) reads (subst (λ (h : Files). config_graph h config ≡ Ok graph) keeps tables))

-- a source's graph under its name
pub source_read : (known_files : Option Files) (source : SourceText) (graph : GraphData) (opening : SourceData) → IfSome known_files (λ files. source_graph files source ≡ Ok graph)
    → record { name = source.name; opening = graph; changes = [] } ≡ opening → IfSome known_files (λ files. source_opened files source ≡ Ok opening)
source_read None source graph opening reads is = tt
source_read (Some f) source graph opening reads is =
    then_is (source_graph f source) (λ g. Ok (record { name = source.name; opening = g; changes = [] })) graph (Ok opening) reads (ap Ok is)

-- a source of files has the graph of its configuration, with and without a file of changes
pub of_files : (files : Files) (name config : List ℕ) (changes : Option (List ℕ)) → form_graph files name (form.Files config changes) ≡ file_graph files config
of_files files name config None = refl
of_files files name config (Some c) = refl

-- an inline source has the graph of its lines
pub inline_read : (f : SourceForm) (name : List ℕ) (graph : GraphData) (opening : SourceData) → IsOfLines f graph
    → record { name = name; opening = graph; changes = [] } ≡ opening → IsInlineOf f opening
inline_read (form.Inline vertices edges) name graph opening lines is = (lines ∙ ap (λ (o : SourceData). Ok o.opening) is, ap (λ (o : SourceData). o.changes) (sym is))
inline_read (form.Files config changes) name graph opening lines is = tt

-- one more pair of items of two lists
pub zip_push : {A B : Type 0} (R : A → B → Type 0) (xs : List A) (ys : List B) (x : A) (y : B) → AllZip R xs ys → R x y → AllZip R (xs ++ x ∷ []) (ys ++ y ∷ [])
zip_push R [] [] x y all one = (one, tt)
zip_push R [] (b ∷ bs) x y all one = absurd all
zip_push R (a ∷ more) [] x y all one = absurd all
zip_push R (a ∷ more) (b ∷ bs) x y all one = (all.0, zip_push R more bs x y all.1 one)

module _ (sources : List SourceText) (i : ℕ) (source d : SourceText) (within : i < length sources) (is : source ≡ get_or sources i d) where
  here : drop i sources ≡ source ∷ drop (i + 1) sources
  here = drop_more sources i d within ∙ ap (λ s. s ∷ drop (i + 1) sources) (sym is)

  -- one more source opens
  pub next_opened : (old mid : Option Files) (done : List SourceData) (opening : SourceData) → KeepsFiles old mid → IfSome old (λ files. opened files sources ≡ opened_after files done (drop i sources))
      → IfSome mid (λ files. source_opened files source ≡ Ok opening) → IfSome old (λ files. opened files sources ≡ opened_after files (done ++ opening ∷ []) (drop (i + 1) sources))
  next_opened None mid done opening keeps so opens = tt
  next_opened (Some f) None done opening keeps so opens = absurd keeps
  next_opened (Some f) (Some g) done opening keeps so opens =
      so ∙ ap (opened_after f done) here
      ∙ then_is (source_opened f source) (λ o. opened_after f (done ++ o ∷ []) (drop (i + 1) sources)) opening (opened_after f (done ++ opening ∷ []) (drop (i + 1) sources))
      (subst (λ (h : Files). source_opened h source ≡ Ok opening) keeps opens) refl

  -- and has the graph of its lines, where it is inline
  pub next_inline : (done : List SourceData) (opening : SourceData) → AreInlineOf (take i sources) done → IsInlineOf source.form opening
      → AreInlineOf (take (i + 1) sources) (done ++ opening ∷ [])
  next_inline done opening so lines =
      subst (λ (ss : List SourceText). AreInlineOf ss (done ++ opening ∷ [])) (ap (λ (s : SourceText). take i sources ++ s ∷ []) is ∙ sym (take_more sources i d within))
      (zip_push (λ s o. IsInlineOf s.form o) (take i sources) done source opening so lines)

  -- and has its name
  pub next_named : (done : List SourceData) (opening : SourceData) → opened_names done ≡ names_of (take i sources) → opening.name ≡ source.name
      → opened_names (done ++ opening ∷ []) ≡ names_of (take (i + 1) sources)
  next_named done opening so named =
      map_push (λ (o : SourceData). o.name) done opening ∙ ap (λ (names : List (List ℕ)). names ++ opening.name ∷ []) so
      ∙ ap (λ (name : List ℕ). names_of (take i sources) ++ name ∷ []) named ∙ sym (map_push (λ (s : SourceText). s.name) (take i sources) source)
      ∙ ap (λ (s : SourceText). names_of (take i sources ++ s ∷ [])) is ∙ ap names_of (sym (take_more sources i d within))
