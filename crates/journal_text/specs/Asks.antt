-- The text of a call.
use Rattle.std.specs.Prelude.{ℕ, List, [], ◌∷◌, length, codes}
use Rattle.std.specs.Fmt.{decimal}
use Rattle.catalogue_state.specs.declared.ask.Ask.{Ask}
use Rattle.catalogue_state.specs.declared.ask.Ask.TheVariants.{OpenSession, CloseSession, Peek, Place, Derive, Publish, Unpublish, Get, Checkout, Append, Release, Columns, Lines}
use Rattle.catalogue_state.specs.declared.ask.How.{How}
use Rattle.catalogue_state.specs.declared.ask.How.TheVariants.{Mutate, Changes}
use Rattle.catalogue_state.specs.declared.ask.Target.{Target}
use Rattle.catalogue_state.specs.declared.ask.Target.TheVariants.{Sid, Latest}
use Rattle.graph_model.specs.declared.change.Change.{Change}
use Rattle.graph_mutate.specs.declared.mutation.Mutation.{Mutation}
use Rattle.graph_mutate.specs.declared.mutation.Mutation.TheVariants.{Clone, Transpose, Undirect, Simplify, SortByDegree}
use Rattle.journal_text.specs.Lines.{phrase}

-- the change of a whole graph, as a script names it
abbrev pub mutation_name : Mutation → List ℕ
mutation_name Clone = codes "clone"
mutation_name Transpose = codes "transpose"
mutation_name Undirect = codes "undirect"
mutation_name Simplify = codes "simplify"
mutation_name SortByDegree = codes "sortdeg"

-- `changes N`: a list of changes is told by its length
abbrev pub changes_words : List Change → List (List ℕ)
changes_words changes = codes "changes" ∷ decimal (length changes) ∷ []

-- the way in which a graph is derived
abbrev pub way_words : How → List (List ℕ)
way_words (Mutate mutation) = mutation_name mutation ∷ []
way_words (Changes changes) = changes_words changes

-- `derive G from H by WAY`
abbrev pub derive_text : List ℕ → List ℕ → How → List ℕ
derive_text name base how = phrase (codes "derive") (name ∷ codes "from" ∷ base ∷ codes "by" ∷ way_words how)

-- `publish G as L keep K threshold T`
abbrev pub publish_text : List ℕ → List ℕ → ℕ → ℕ → List ℕ
publish_text name line keep threshold =
    phrase (codes "publish") (name ∷ codes "as" ∷ line ∷ codes "keep" ∷ decimal keep ∷ codes "threshold" ∷ decimal threshold ∷ [])

-- `append G changes N`
abbrev pub append_text : List ℕ → List Change → List ℕ
append_text name changes = phrase (codes "append") (name ∷ changes_words changes)

-- the snapshot that is asked for: its id, or `latest`
abbrev pub target_text : Target → List ℕ
target_text (Sid sid) = decimal sid
target_text Latest = codes "latest"

-- a call, as it stands in the head line of its record
abbrev pub ask_text : Ask → List ℕ
ask_text OpenSession = codes "open"
ask_text CloseSession = codes "close"
ask_text (Peek source) = phrase (codes "peek") (source ∷ [])
ask_text (Place name source front) = phrase (codes "place") (name ∷ codes "from" ∷ source ∷ codes "at" ∷ decimal front ∷ [])
ask_text (Derive name base how) = derive_text name base how
ask_text (Publish name line keep threshold) = publish_text name line keep threshold
ask_text (Unpublish line) = phrase (codes "unpublish") (line ∷ [])
ask_text (Get line name) = phrase (codes "get") (name ∷ codes "from" ∷ line ∷ [])
ask_text (Checkout name target) = phrase (codes "checkout") (name ∷ codes "at" ∷ target_text target ∷ [])
ask_text (Append name changes) = append_text name changes
ask_text (Release name) = phrase (codes "release") (name ∷ [])
ask_text Columns = codes "columns"
ask_text Lines = codes "lines"
