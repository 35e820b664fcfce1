-- Tables grow file by file and row by row: what was put is what was read, and what fits is put.
use Rattle.std.proofs.Common.{◌≡◌, ◌∙◌, refl, sym, ap, subst, ℕ, suc, ◌+◌, ◌≤◌, List, [], ◌∷◌, ◌++◌, length, map, drop, replicate, Option, Some, None, Result, Ok, Err, append_assoc, arith, length-append}
use Rattle.std.proofs.lemmas.List.{append-nil}
use Rattle.std.specs.List.{AllZip, zip}
use Rattle.graph_schema.specs.Schema.{SchemaData}
use Rattle.graph_model.specs.declared.change.Change.{Change}
use Rattle.graph_model.specs.declared.change.Why.{Why}
use Rattle.graph_model.specs.Graph.{GraphData, IsGraph}
use Rattle.graph_model.specs.Change.{misfit, changed}
use Rattle.graph_model.proofs.Graphs.{changed_keeps}
use Rattle.graph_model.proofs.Zips.{AllZip-length}
use Rattle.table_loader.specs.declared.fault.LoadFault.{LoadFault}
use Rattle.table_loader.specs.Fault.{◌>>=◌, at_record}
use Rattle.table_loader.specs.Put.{put, put_all, unless_misfit}
use Rattle.csv_records.specs.Reading.{records_of}
use Rattle.table_loader.specs.Tables.{file_change, put_file, put_files}
use Rattle.table_loader.specs.Law.{AreRead}

-- ---- steps that succeed

-- a step that succeeds
pub split : (file row : ℕ) (o : Option Why) (g : GraphData) (f : GraphData → Result GraphData LoadFault) (h : GraphData)
    → (at_record file row (unless_misfit o g) >>= f) ≡ Ok h → (o ≡ None) × (f g ≡ Ok h)
split file row None g f h e = (refl, e)
split file row (Some why) g f h e = cc

pub same_ok : (g h : GraphData) → ◌≡◌ {A = Result GraphData LoadFault} (Ok g) (Ok h) → h ≡ g
same_ok g h e = cc

-- both parts of a chain that succeeds
pub parts : (o : Result GraphData LoadFault) (f : GraphData → Result GraphData LoadFault) (h : GraphData) → (o >>= f) ≡ Ok h → (g : GraphData) × (o ≡ Ok g) × (f g ≡ Ok h)
parts (Err fault) f h e = cc
parts (Ok g) f h e = (g, refl, e)

-- ---- graphs stay graphs

kept_by : (file row : ℕ) (g h : GraphData) (f : GraphData → Result GraphData LoadFault) (c : Result Change ℕ) → IsGraph g
    → (at_record file row (c >>= put g) >>= f) ≡ Ok h → (k : GraphData) × IsGraph k × (f k ≡ Ok h)
kept_by file row g h f (Err number) is e = cc
kept_by file row g h f (Ok c) is e =
    let p = split file row (misfit g c) (changed g c) f h e in
    (changed g c, changed_keeps g c is p.0, p.1)

pub records_keep : (file row : ℕ) (g h : GraphData) (cs : List (Result Change ℕ)) → IsGraph g → put_all file row g cs ≡ Ok h → IsGraph h
unfolding put_all
records_keep file row g h [] is e = subst IsGraph (sym (same_ok g h e)) is
records_keep file row g h (c ∷ cs) is e =
    let p = kept_by file row g h (λ k. put_all file (row + 1) k cs) c is e in
    records_keep file (row + 1) p.0 h cs p.1 p.2

pub files_keep : (s : SchemaData) (file : ℕ) (g h : GraphData) (files : List (List ℕ)) → IsGraph g → put_files s file g files ≡ Ok h → IsGraph h
unfolding put_files
files_keep s file g h [] is e = subst IsGraph (sym (same_ok g h e)) is
files_keep s file g h (bytes ∷ rest) is e =
    let p = parts (put_file s file g bytes) (λ k. put_files s (file + 1) k rest) h e in
    files_keep s (file + 1) p.0 h rest (records_keep file 1 g p.0 (map (file_change s file) (records_of bytes)) is p.1) p.2

-- ---- lists

map_same : {A B : Type 0} (f g : A → B) (xs : List A) → ((x : A) → f x ≡ g x) → map f xs ≡ map g xs
map_same f g [] h = refl
map_same f g (x ∷ xs) h = λ i. h x i ∷ map_same f g xs h i

-- as many rows as tables, where each table has a file
zip_length : {T A : Type 0} (ts : List T) (xs : List A) → length ts ≤ length xs → length (zip ts xs) ≡ length ts
zip_length [] xs few = refl
zip_length (t ∷ ts) [] few = absurd (omega arith)
zip_length (t ∷ ts) (x ∷ xs) few = ap (λ n. suc n) (zip_length ts xs (omega arith))

pub again : (s : SchemaData) (m n : ℕ) (g h : GraphData) (files : List (List ℕ)) (r : Result GraphData LoadFault) → m ≡ n → g ≡ h → put_files s m g files ≡ r → put_files s n h files ≡ r
again s m n g h files r a b e = subst (λ k. put_files s k h files ≡ r) a (subst (λ k. put_files s m k files ≡ r) b e)

-- ---- the tables of one kind
--
-- `whole` is the graph with these rows in the tables of the kind, `change n r` puts the row r at the end of the table n, and
-- the files of these tables begin at the place `first`.
module _ {R T : Type 0} (s : SchemaData) (tables : List T) (first : ℕ) (read : T → List (List ℕ) → Result R ℕ) (change : ℕ → R → Change) (whole : List (List R) → GraphData)
    (push : (done todo : List (List R)) (rows : List R) (r : R) → changed (whole (done ++ rows ∷ todo)) (change (length done) r) ≡ whole (done ++ (rows ++ r ∷ []) ∷ todo))
    (of_file : (before after : List T) (t : T) (fields : List (List ℕ)) → tables ≡ before ++ t ∷ after → file_change s (first + length before) fields ≡ (read t fields >>= (λ r. Ok (change (length before) r)))) where
  change_of : T → ℕ → List (List ℕ) → Result Change ℕ
  change_of t n fields = read t fields >>= (λ r. Ok (change n r))

  -- the records of the file of a table
  same_file : (before after : List T) (t : T) (n : ℕ) → tables ≡ before ++ t ∷ after → n ≡ length before → (g : GraphData) (bytes : List ℕ)
      → put_file s (first + n) g bytes ≡ put_all (first + n) 1 g (map (change_of t n) (records_of bytes))
  unfolding change_of
  same_file before after t n is same g bytes =
      ap (put_all (first + n) 1 g)
      (map_same (file_change s (first + n)) (change_of t n) (records_of bytes)
      (λ fields. subst (λ m. file_change s (first + m) fields ≡ (read t fields >>= (λ r. Ok (change m r)))) (sym same) (of_file before after t fields is)))

  -- ---- what was put was read

  read_by : (t : T) (n : ℕ) (fields : List (List ℕ)) (file row : ℕ) (g h : GraphData) (f : GraphData → Result GraphData LoadFault) (c : Result R ℕ) → read t fields ≡ c
      → (at_record file row ((c >>= (λ r. Ok (change n r))) >>= put g) >>= f) ≡ Ok h → (r : R) × (read t fields ≡ Ok r) × (f (changed g (change n r)) ≡ Ok h)
  read_by t n fields file row g h f (Err number) is e = cc
  read_by t n fields file row g h f (Ok r) is e =
      let p = split file row (misfit g (change n r)) (changed g (change n r)) f h e in
      (r, is, p.1)

  rows_read : (t : T) (done todo : List (List R)) (rows : List R) (file row : ℕ) (lines : List (List (List ℕ))) (h : GraphData)
      → put_all file row (whole (done ++ rows ∷ todo)) (map (change_of t (length done)) lines) ≡ Ok h
      → (more : List R) × AllZip (λ fields r. read t fields ≡ Ok r) lines more × (h ≡ whole (done ++ (rows ++ more) ∷ todo))
  unfolding put_all change_of
  rows_read t done todo rows file row [] h e = ([], tt, same_ok _ h e ∙ ap (λ rs. whole (done ++ rs ∷ todo)) (sym (append-nil rows)))
  rows_read t done todo rows file row (fields ∷ lines) h e =
      let later : GraphData → Result GraphData LoadFault = λ k. put_all file (row + 1) k (map (change_of t (length done)) lines) in
      let p = read_by t (length done) fields file row (whole (done ++ rows ∷ todo)) h later (read t fields) refl e in
      let q = rows_read t done todo (rows ++ p.0 ∷ []) file (row + 1) lines h (subst (λ k. later k ≡ Ok h) (push done todo rows p.0) p.2) in
      (p.0 ∷ q.0, (p.1, q.1), q.2 ∙ ap (λ rs. whole (done ++ rs ∷ todo)) (append_assoc rows (p.0 ∷ []) q.0))

  moved : (done : List (List R)) (rows : List R) (left : List T) (g : GraphData) (files : List (List ℕ)) (h : GraphData) → g ≡ whole (done ++ rows ∷ replicate (length left) [])
      → put_files s (first + length done + 1) g files ≡ Ok h → put_files s (first + length (done ++ rows ∷ [])) (whole ((done ++ rows ∷ []) ++ replicate (length left) [])) files ≡ Ok h
  moved done rows left g files h is e =
      again s (first + length done + 1) (first + length (done ++ rows ∷ [])) g (whole ((done ++ rows ∷ []) ++ replicate (length left) [])) files (Ok h)
      (omega (arith, length-append done (rows ∷ []))) (is ∙ ap whole (sym (append_assoc done (rows ∷ []) (replicate (length left) [])))) e

  regrouped : (done : List (List R)) (rows : List R) (more : List (List R)) (n : ℕ) (files : List (List ℕ)) (h : GraphData)
      → put_files s (first + (length (done ++ rows ∷ []) + n)) (whole ((done ++ rows ∷ []) ++ more)) files ≡ Ok h → put_files s (first + (length done + suc n)) (whole (done ++ rows ∷ more)) files ≡ Ok h
  regrouped done rows more n files h e =
      again s (first + (length (done ++ rows ∷ []) + n)) (first + (length done + suc n)) (whole ((done ++ rows ∷ []) ++ more)) (whole (done ++ rows ∷ more)) files (Ok h)
      (omega (arith, length-append done (rows ∷ []))) (ap whole (append_assoc done (rows ∷ []) more)) e

  pub files_read : (before left : List T) (done : List (List R)) (files : List (List ℕ)) (h : GraphData) → tables ≡ before ++ left → length done ≡ length before → length left ≤ length files
      → put_files s (first + length done) (whole (done ++ replicate (length left) [])) files ≡ Ok h
      → (more : List (List R)) × AllZip (λ t rows. AreRead (read t.0) t.1 rows) (zip left files) more
      × (put_files s (first + (length done + length left)) (whole (done ++ more)) (drop (length left) files) ≡ Ok h)
  unfolding put_files
  files_read before [] done files h is same few e = ([], tt, again s _ _ _ _ files (Ok h) (omega arith) refl e)
  files_read before (t ∷ left) done [] h is same few e = absurd (omega arith)
  files_read before (t ∷ left) done (bytes ∷ files) h is same few e =
      let start = whole (done ++ [] ∷ replicate (length left) []) in
      let p = parts (put_file s (first + length done) start bytes) (λ k. put_files s (first + length done + 1) k files) h e in
      let q = rows_read t done (replicate (length left) []) [] (first + length done) 1 (records_of bytes) p.0 (sym (same_file before left t (length done) is same start bytes) ∙ p.1) in
      let next = moved done q.0 left p.0 files h q.2 p.2 in
      let rest = files_read (before ++ t ∷ []) left (done ++ q.0 ∷ []) files h (is ∙ sym (append_assoc before (t ∷ []) left)) (omega (arith, same, length-append done (q.0 ∷ []), length-append before (t ∷ []))) (omega arith) next in
      (q.0 ∷ rest.0, (q.1, rest.1), regrouped done q.0 rest.0 (length left) (drop (length left) files) h rest.2)

  -- ---- what fits is put

  put_by : (t : T) (n : ℕ) (fields : List (List ℕ)) (r : R) (file row : ℕ) (g k : GraphData) (f : GraphData → Result GraphData LoadFault) → read t fields ≡ Ok r
      → misfit g (change n r) ≡ None → changed g (change n r) ≡ k → (at_record file row ((read t fields >>= (λ x. Ok (change n x))) >>= put g) >>= f) ≡ f k
  put_by t n fields r file row g k f is fits same =
      ap (λ o. at_record file row ((o >>= (λ x. Ok (change n x))) >>= put g) >>= f) is
      ∙ ap (λ o. at_record file row (unless_misfit o (changed g (change n r))) >>= f) fits
      ∙ ap f same

  rows_put : (t : T) (done todo : List (List R)) (rows more : List R) (file row : ℕ) (lines : List (List (List ℕ)))
      → ((front back : List R) (r : R) → rows ++ more ≡ front ++ r ∷ back → misfit (whole (done ++ front ∷ todo)) (change (length done) r) ≡ None)
      → AllZip (λ fields r. read t fields ≡ Ok r) lines more
      → put_all file row (whole (done ++ rows ∷ todo)) (map (change_of t (length done)) lines) ≡ Ok (whole (done ++ (rows ++ more) ∷ todo))
  unfolding put_all change_of
  rows_put t done todo rows [] file row [] fits reads = ap (λ rs. Ok (whole (done ++ rs ∷ todo))) (sym (append-nil rows))
  rows_put t done todo rows (r ∷ more) file row [] fits reads = absurd reads
  rows_put t done todo rows [] file row (fields ∷ lines) fits reads = absurd reads
  rows_put t done todo rows (r ∷ more) file row (fields ∷ lines) fits reads =
      put_by t (length done) fields r file row (whole (done ++ rows ∷ todo)) (whole (done ++ (rows ++ r ∷ []) ∷ todo)) (λ k. put_all file (row + 1) k (map (change_of t (length done)) lines)) reads.0 (fits rows more r refl) (push done todo rows r)
      ∙ (rows_put t done todo (rows ++ r ∷ []) more file (row + 1) lines (λ front back x e. fits front back x (sym (append_assoc rows (r ∷ []) more) ∙ e)) reads.1
      ∙ ap (λ rs. Ok (whole (done ++ rs ∷ todo))) (append_assoc rows (r ∷ []) more))

  pub files_put : (final : List (List R))
      → ((done after : List (List R)) (front back : List R) (r : R) → final ≡ done ++ (front ++ r ∷ back) ∷ after → misfit (whole (done ++ front ∷ replicate (length after) [])) (change (length done) r) ≡ None)
      → (before left : List T) (done rest : List (List R)) (files : List (List ℕ)) → tables ≡ before ++ left → final ≡ done ++ rest → length done ≡ length before → length left ≤ length files
      → AllZip (λ t rows. AreRead (read t.0) t.1 rows) (zip left files) rest
      → put_files s (first + length done) (whole (done ++ replicate (length left) [])) files ≡ put_files s (first + (length done + length left)) (whole final) (drop (length left) files)
  unfolding put_files
  files_put final fits before [] done [] files is whole_is same few reads = again s _ _ _ _ files _ (omega arith) (ap whole whole_is) refl
  files_put final fits before [] done (rows ∷ rest) files is whole_is same few reads = absurd reads
  files_put final fits before (t ∷ left) done rest [] is whole_is same few reads = absurd (omega arith)
  files_put final fits before (t ∷ left) done [] (bytes ∷ files) is whole_is same few reads = absurd reads
  files_put final fits before (t ∷ left) done (rows ∷ rest) (bytes ∷ files) is whole_is same few reads =
      let empties : List (List R) = replicate (length left) [] in
      let as_many : length rest ≡ length left = sym (AllZip-length _ (zip left files) rest reads.1) ∙ zip_length left files (omega arith) in
      let here : put_file s (first + length done) (whole (done ++ [] ∷ empties)) bytes ≡ Ok (whole (done ++ rows ∷ empties)) =
      same_file before left t (length done) is same (whole (done ++ [] ∷ empties)) bytes
      ∙ rows_put t done empties [] rows (first + length done) 1 (records_of bytes)
      (λ front back r e. subst (λ n. misfit (whole (done ++ front ∷ replicate n [])) (change (length done) r) ≡ None) as_many (fits done rest front back r (whole_is ∙ ap (λ rs. done ++ rs ∷ rest) e)))
      reads.0 in
      let later = files_put final fits (before ++ t ∷ []) left (done ++ rows ∷ []) rest files (is ∙ sym (append_assoc before (t ∷ []) left)) (whole_is ∙ sym (append_assoc done (rows ∷ []) rest)) (omega (arith, same, length-append done (rows ∷ []), length-append before (t ∷ []))) (omega arith) reads.1 in
      ap (λ o. o >>= (λ k. put_files s (first + length done + 1) k files)) here
      ∙ (again s _ _ _ _ files _ (omega (arith, length-append done (rows ∷ []))) (ap whole (append_assoc done (rows ∷ []) empties)) later
      ∙ again s _ _ _ _ (drop (length left) files) _ (omega (arith, length-append done (rows ∷ []))) refl refl)
