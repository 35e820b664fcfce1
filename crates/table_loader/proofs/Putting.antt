-- One record after another is put into a graph.
use Rattle.std.proofs.Common.{◌≡◌, ◌∙◌, refl, sym, ap, ℕ, ◌+◌, ◌<◌, ◌≤◌, List, [], ◌∷◌, length, map, drop, get_or, Result, Ok}
use Rattle.std.proofs.lemmas.List.{drop_all, drop_more}
use Rattle.graph_schema.specs.Schema.{SchemaData}
use Rattle.graph_model.specs.declared.change.Change.{Change}
use Rattle.graph_model.specs.Graph.{GraphData}
use Rattle.table_loader.specs.declared.fault.LoadFault.{LoadFault}
use Rattle.table_loader.specs.declared.fault.LoadFault.TheVariants as load
use Rattle.table_loader.specs.declared.fault.RecordFault.{RecordFault}
use Rattle.table_loader.specs.declared.fault.RecordFault.TheVariants as one
use Rattle.table_loader.specs.Fault.{◌>>=◌, LoadCause, RecordCause, at_record, place_fault}
use Rattle.table_loader.specs.Put.{put, put_all}
use Rattle.table_loader.specs.Tables.{put_file, put_files}

-- a record that fits: the others are put behind it
pub goes_on : (file row : ℕ) (g h : GraphData) (c : Result Change ℕ) (cs : List (Result Change ℕ)) → (c >>= put g) ≡ Ok h → put_all file row g (c ∷ cs) ≡ put_all file (row + 1) h cs
unfolding put_all
goes_on file row g h c cs e = ap (λ r. at_record file row r >>= (λ k. put_all file (row + 1) k cs)) e

-- a record with a fault decides
pub stops : (file row : ℕ) (g : GraphData) (c : Result Change ℕ) (cs : List (Result Change ℕ)) (fault : RecordFault) (whole : Result GraphData LoadFault)
    → put_all file row g (c ∷ cs) ≡ whole → RecordCause (c >>= put g) fault → LoadCause whole (place_fault file row fault)
unfolding put_all
stops file row g c cs (one.Bad number) whole so e = sym so ∙ ap (λ r. at_record file row r >>= (λ k. put_all file (row + 1) k cs)) e
stops file row g c cs one.NoMemory whole so e = tt

pub ends : (file row : ℕ) (g : GraphData) → put_all file row g [] ≡ Ok g
unfolding put_all
ends file row g = refl

-- the list from a place on is the item there and the list behind it
pub here : {A : Type 0} (xs : List A) (i : ℕ) (x d : A) → i < length xs → x ≡ get_or xs i d → drop i xs ≡ x ∷ drop (i + 1) xs
here xs i x d within is = drop_more xs i d within ∙ ap (λ y. y ∷ drop (i + 1) xs) (sym is)

-- ---- items of a list, each a record

pub item_fits : {A : Type 0} (f : A → Result Change ℕ) (file row : ℕ) (g h : GraphData) (whole : Result GraphData LoadFault) (xs : List A) (i : ℕ) (x d : A)
    → i < length xs → x ≡ get_or xs i d → put_all file row g (map f (drop i xs)) ≡ whole → (f x >>= put g) ≡ Ok h → put_all file (row + 1) h (map f (drop (i + 1) xs)) ≡ whole
item_fits f file row g h whole xs i x d within is so this =
    sym (goes_on file row g h (f x) (map f (drop (i + 1) xs)) this) ∙ sym (ap (λ ys. put_all file row g (map f ys)) (here xs i x d within is)) ∙ so

pub item_stops : {A : Type 0} (f : A → Result Change ℕ) (file row : ℕ) (g : GraphData) (whole : Result GraphData LoadFault) (xs : List A) (i : ℕ) (x d : A) (fault : RecordFault)
    → i < length xs → x ≡ get_or xs i d → put_all file row g (map f (drop i xs)) ≡ whole → RecordCause (f x >>= put g) fault → LoadCause whole (place_fault file row fault)
item_stops f file row g whole xs i x d fault within is so this =
    stops file row g (f x) (map f (drop (i + 1) xs)) fault whole (sym (ap (λ ys. put_all file row g (map f ys)) (here xs i x d within is)) ∙ so) this

pub items_end : {A : Type 0} (f : A → Result Change ℕ) (file row : ℕ) (g : GraphData) (whole : Result GraphData LoadFault) (xs : List A) (i : ℕ)
    → length xs ≤ i → put_all file row g (map f (drop i xs)) ≡ whole → whole ≡ Ok g
items_end f file row g whole xs i past so = sym so ∙ ap (λ ys. put_all file row g (map f ys)) (drop_all i xs past) ∙ ends file row g

-- ---- files

-- a file without a fault: the others are put behind it
pub file_fits : (s : SchemaData) (file : ℕ) (g h : GraphData) (whole : Result GraphData LoadFault) (rest later : List (List ℕ)) (bytes : List ℕ)
    → rest ≡ bytes ∷ later → put_files s file g rest ≡ whole → put_file s file g bytes ≡ Ok h → put_files s (file + 1) h later ≡ whole
unfolding put_files
file_fits s file g h whole rest later bytes is so this =
    sym (ap (λ r. r >>= (λ k. put_files s (file + 1) k later)) this) ∙ sym (ap (put_files s file g) is) ∙ so

-- a file with a fault decides
pub file_stops : (s : SchemaData) (file : ℕ) (g : GraphData) (whole : Result GraphData LoadFault) (rest later : List (List ℕ)) (bytes : List ℕ) (fault : LoadFault)
    → rest ≡ bytes ∷ later → put_files s file g rest ≡ whole → LoadCause (put_file s file g bytes) fault → LoadCause whole fault
unfolding put_files
file_stops s file g whole rest later bytes (load.Bad f r n) is so this =
    sym so ∙ ap (put_files s file g) is ∙ ap (λ r. r >>= (λ k. put_files s (file + 1) k later)) this
file_stops s file g whole rest later bytes load.NoMemory is so this = tt

pub files_end : (s : SchemaData) (file : ℕ) (g : GraphData) (whole : Result GraphData LoadFault) (rest : List (List ℕ))
    → rest ≡ [] → put_files s file g rest ≡ whole → whole ≡ Ok g
unfolding put_files
files_end s file g whole rest is so = sym so ∙ ap (put_files s file g) is
