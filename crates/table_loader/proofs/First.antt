-- A fault is that of the first record, or line, with one.
use Rattle.std.proofs.Common.{◌≡◌, ◌∙◌, refl, ap, ℕ, suc, ◌+◌, List, [], ◌∷◌, map, take, slice_get, Result, Ok, Err, Some, arith, inl, inr, ℤ}
use Rattle.graph_schema.specs.Schema.{SchemaData}
use Rattle.graph_model.specs.declared.change.Change.{Change}
use Rattle.graph_model.specs.Graph.{GraphData, empty_graph}
use Rattle.table_loader.specs.declared.fault.LoadFault.{LoadFault}
use Rattle.table_loader.specs.declared.fault.LoadFault.TheVariants.{Bad}
use Rattle.table_loader.specs.Fault.{◌>>=◌, at_record}
use Rattle.table_loader.specs.Put.{put, put_all}
use Rattle.csv_records.specs.Reading.{records_of}
use Rattle.table_loader.specs.Tables.{file_change, put_file, put_files, tables_of}
use Rattle.table_loader.specs.Inline.{inline_schema, inline_of, vertex_line, edge_line, put_vertices, put_edges}
use Rattle.table_loader.specs.Law.{FirstItem, FirstRecord, FirstLine}

-- the same, for the fault with its place
record AtItem {A : Type 0} (read : A → Result Change ℕ) (file first : ℕ) (g : GraphData) (items : List A) (fault : LoadFault) : Type 0 where
  number : ℕ
  row : ℕ
  is : fault ≡ Bad file row number
  at : FirstItem read file first g items row number

at_by : {A : Type 0} (read : A → Result Change ℕ) (file first : ℕ) (g : GraphData) (x : A) (xs : List A) (fault : LoadFault) (r : Result GraphData ℕ)
    → (read x >>= put g) ≡ r → (at_record file first r >>= (λ h. put_all file (first + 1) h (map read xs))) ≡ Err fault
    → ((h : GraphData) → put_all file (first + 1) h (map read xs) ≡ Err fault → AtItem read file (first + 1) h xs fault)
    → AtItem read file first g (x ∷ xs) fault
unfolding put_all
at_by read file first g x xs fault (Err number) this so later = record {
  number = number;
  row = first;
  is = cc;
  at = record { place = 0; counted = omega arith; before = g; taken = refl; item = x; there = refl; fault = this };
}
at_by read file first g x xs fault (Ok h) this so later =
    let q = later h so in
    record {
      number = q.number;
      row = q.row;
      is = q.is;
      at = record {
        place = suc q.at.place;
        counted = omega (arith, q.at.counted);
        before = q.at.before;
        taken = ap (λ r. at_record file first r >>= (λ k. put_all file (first + 1) k (map read (take q.at.place xs)))) this ∙ q.at.taken;
        item = q.at.item;
        there = q.at.there;
        fault = q.at.fault;
      };
    }

at_item : {A : Type 0} (read : A → Result Change ℕ) (file first : ℕ) (g : GraphData) (items : List A) (fault : LoadFault) → put_all file first g (map read items) ≡ Err fault → AtItem read file first g items fault
unfolding put_all
at_item read file first g [] fault so = cc
at_item read file first g (x ∷ xs) fault so =
    at_by read file first g x xs fault (read x >>= put g) refl so (λ h rest. at_item read file (first + 1) h xs fault rest)

-- ---- files

record AtFile (s : SchemaData) (first : ℕ) (g : GraphData) (files : List (List ℕ)) (fault : LoadFault) : Type 0 where
  place : ℕ
  file : ℕ
  counted : file ≡ first + place
  before : GraphData
  taken : put_files s first g (take place files) ≡ Ok before
  bytes : List ℕ
  there : slice_get files place ≡ Some bytes
  at : AtItem (file_change s file) file 1 before (records_of bytes) fault

file_by : (s : SchemaData) (first : ℕ) (g : GraphData) (bytes : List ℕ) (rest : List (List ℕ)) (fault : LoadFault) (r : Result GraphData LoadFault)
    → put_file s first g bytes ≡ r → (r >>= (λ h. put_files s (first + 1) h rest)) ≡ Err fault
    → ((h : GraphData) → put_files s (first + 1) h rest ≡ Err fault → AtFile s (first + 1) h rest fault)
    → AtFile s first g (bytes ∷ rest) fault
unfolding put_files
file_by s first g bytes rest fault (Err e) this so later = record {
  place = 0;
  file = first;
  counted = omega arith;
  before = g;
  taken = refl;
  bytes = bytes;
  there = refl;
  at = at_item (file_change s first) first 1 g (records_of bytes) fault (this ∙ so);
}
file_by s first g bytes rest fault (Ok h) this so later =
    let q = later h so in
    record {
      place = suc q.place;
      file = q.file;
      counted = omega (arith, q.counted);
      before = q.before;
      taken = ap (λ r. r >>= (λ k. put_files s (first + 1) k (take q.place rest))) this ∙ q.taken;
      bytes = q.bytes;
      there = q.there;
      at = q.at;
    }

at_file : (s : SchemaData) (first : ℕ) (g : GraphData) (files : List (List ℕ)) (fault : LoadFault) → put_files s first g files ≡ Err fault → AtFile s first g files fault
unfolding put_files
at_file s first g [] fault so = cc
at_file s first g (bytes ∷ rest) fault so =
    file_by s first g bytes rest fault (put_file s first g bytes) refl so (λ h more. at_file s (first + 1) h rest fault more)

record_named : (s : SchemaData) (files : List (List ℕ)) (file row number : ℕ) → AtFile s 0 (empty_graph s) files (Bad file row number) → FirstRecord s files file row number
record_named s files file row number q =
    let same_file : file ≡ q.file = cc (q.at.is) in
    let same_row : row ≡ q.at.row = cc (q.at.is) in
    let same_number : number ≡ q.at.number = cc (q.at.is) in
    let same_place : file ≡ q.place = omega (arith, same_file, q.counted) in
    record {
      before = q.before;
      taken = rw same_place q.taken;
      bytes = q.bytes;
      there = rw same_place q.there;
      first = rw (same_file, same_row, same_number) q.at.at;
    }

pub first_record : (s : SchemaData) (files : List (List ℕ)) (file row number : ℕ) → tables_of s files ≡ Err (Bad file row number) → FirstRecord s files file row number
first_record s files file row number so = record_named s files file row number (at_file s 0 (empty_graph s) files (Bad file row number) so)

-- ---- lines

vertex_named : (vertices : List ℤ) (edges : List (ℤ × ℤ × ℤ)) (file row number : ℕ) → AtItem vertex_line 0 1 (empty_graph inline_schema) vertices (Bad file row number) → FirstLine vertices edges file row number
vertex_named vertices edges file row number q =
    let same_file : file ≡ 0 = cc (q.is) in
    let same_row : row ≡ q.row = cc (q.is) in
    let same_number : number ≡ q.number = cc (q.is) in
    inl (same_file, rw (same_row, same_number) q.at)

edge_named : (vertices : List ℤ) (edges : List (ℤ × ℤ × ℤ)) (file row number : ℕ) (g : GraphData) → put_vertices 1 (empty_graph inline_schema) vertices ≡ Ok g → AtItem edge_line 1 1 g edges (Bad file row number) → FirstLine vertices edges file row number
edge_named vertices edges file row number g taken q =
    let same_file : file ≡ 1 = cc (q.is) in
    let same_row : row ≡ q.row = cc (q.is) in
    let same_number : number ≡ q.number = cc (q.is) in
    inr (same_file, (g, taken, rw (same_row, same_number) q.at))

line_by : (vertices : List ℤ) (edges : List (ℤ × ℤ × ℤ)) (file row number : ℕ) (r : Result GraphData LoadFault)
    → put_vertices 1 (empty_graph inline_schema) vertices ≡ r → (r >>= (λ g. put_edges 1 g edges)) ≡ Err (Bad file row number) → FirstLine vertices edges file row number
line_by vertices edges file row number (Err e) this so =
    vertex_named vertices edges file row number (at_item vertex_line 0 1 (empty_graph inline_schema) vertices (Bad file row number) (this ∙ so))
line_by vertices edges file row number (Ok g) this so =
    edge_named vertices edges file row number g this (at_item edge_line 1 1 g edges (Bad file row number) so)

pub first_line : (vertices : List ℤ) (edges : List (ℤ × ℤ × ℤ)) (file row number : ℕ) → inline_of vertices edges ≡ Err (Bad file row number) → FirstLine vertices edges file row number
first_line vertices edges file row number so = line_by vertices edges file row number (put_vertices 1 (empty_graph inline_schema) vertices) refl so
