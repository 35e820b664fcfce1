-- Two lists of entries with rising names that answer every look-up alike are one list.
use Rattle.std.proofs.Common.{◌≡◌, ℕ, Bool, true, false, List, [], ◌∷◌, Option, Some, None, refl, ap, sym, subst, ◌∙◌}
use Rattle.std.specs.Ordering.{nat_cmp}
use Rattle.std.specs.Cmp.Lexicographic.{slice_cmp}
use Rattle.std.specs.declared.cmp.Ordering.{Ordering}
use Rattle.std.specs.declared.cmp.Ordering.TheVariants.{Less, Equal, Greater}
use Rattle.std.proofs.lemmas.List.Elements.{All-cons}
use Rattle.column_types.specs.Column.{ColumnData}
use Rattle.graph_schema.specs.Fault.{same_name}
use Rattle.transient_props.specs.Transients.{Transient, column_of, NamesRise}
use Rattle.transient_props.proofs.Names.{same, itself, Below, turned, tied_same, below_later, later_rise, below_none}
use Rattle.transient_props.proofs.Putting.{looks_first, looks_on, further}

abbrev Alike : List Transient → List Transient → Type 0
Alike ts us = (n : List ℕ) → column_of ts n ≡ column_of us n

none_some : (found : Option ColumnData) (c : ColumnData) → found ≡ None → found ≡ Some c → ⊥
none_some found c h k = cc

some_same : (b c : ColumnData) → ◌≡◌ {A = Option ColumnData} (Some b) (Some c) → b ≡ c
some_same b c h = cc

-- a name below the first name has no column
before_all : (n : List ℕ) (u : Transient) (us : List Transient) → NamesRise (u ∷ us) → Below n u.name → column_of (u ∷ us) n ≡ None
before_all n u us rise lower = below_none n (u ∷ us) (All-cons (λ t. Below n t.name) u us lower (further n u us lower (below_later u us rise)))

first_name : (r : Ordering) (t u : Transient) (ts us : List Transient) → slice_cmp nat_cmp t.name u.name ≡ r → NamesRise (t ∷ ts) → NamesRise (u ∷ us) → Alike (t ∷ ts) (u ∷ us) → t.name ≡ u.name
first_name Less t u ts us is rise_t rise_u alike =
    absurd (none_some (column_of (u ∷ us) t.name) t.column (before_all t.name u us rise_u is) (sym (alike t.name) ∙ looks_first t ts t.name (itself t.name)))
first_name Equal t u ts us is rise_t rise_u alike = tied_same t.name u.name is
first_name Greater t u ts us is rise_t rise_u alike =
    absurd (none_some (column_of (t ∷ ts) u.name) u.column (before_all u.name t ts rise_t (turned t.name u.name Greater is)) (alike u.name ∙ looks_first u us u.name (itself u.name)))

first_column : (t u : Transient) (ts us : List Transient) → t.name ≡ u.name → Alike (t ∷ ts) (u ∷ us) → t.column ≡ u.column
first_column t u ts us named alike =
    let other : same_name u.name t.name ≡ true = subst (λ n. same_name u.name n ≡ true) (sym named) (itself u.name) in
    some_same t.column u.column (sym (looks_first t ts t.name (itself t.name)) ∙ alike t.name ∙ looks_first u us t.name other)

rest_at : (b : Bool) (t u : Transient) (ts us : List Transient) (n : List ℕ) → same_name t.name n ≡ b → t.name ≡ u.name → NamesRise (t ∷ ts) → NamesRise (u ∷ us) → Alike (t ∷ ts) (u ∷ us) → column_of ts n ≡ column_of us n
rest_at true t u ts us n is named rise_t rise_u alike =
    let left : column_of ts n ≡ None = subst (λ m. column_of ts m ≡ None) (same t.name n is) (below_none t.name ts (below_later t ts rise_t)) in
    let right : column_of us n ≡ None = subst (λ m. column_of us m ≡ None) (sym named ∙ same t.name n is) (below_none u.name us (below_later u us rise_u)) in
    left ∙ sym right
rest_at false t u ts us n is named rise_t rise_u alike =
    let other : same_name u.name n ≡ false = subst (λ m. same_name m n ≡ false) named is in
    sym (looks_on t ts n is) ∙ alike n ∙ looks_on u us n other

one_entry : (t u : Transient) → t.name ≡ u.name → t.column ≡ u.column → t ≡ u
one_entry t u named column = λ i. record { name = named i; column = column i }

pub one_list : (ts us : List Transient) → NamesRise ts → NamesRise us → ((n : List ℕ) → column_of ts n ≡ column_of us n) → ts ≡ us
one_list [] [] rise_t rise_u alike = refl
one_list [] (u ∷ us) rise_t rise_u alike =
    absurd (none_some (column_of (u ∷ us) u.name) u.column (sym (alike u.name)) (looks_first u us u.name (itself u.name)))
one_list (t ∷ ts) [] rise_t rise_u alike =
    absurd (none_some (column_of (t ∷ ts) t.name) t.column (alike t.name) (looks_first t ts t.name (itself t.name)))
one_list (t ∷ ts) (u ∷ us) rise_t rise_u alike =
    let named : t.name ≡ u.name = first_name (slice_cmp nat_cmp t.name u.name) t u ts us refl rise_t rise_u alike in
    let rest : ts ≡ us = one_list ts us (later_rise t ts rise_t) (later_rise u us rise_u) (λ n. rest_at (same_name t.name n) t u ts us n refl named rise_t rise_u alike) in
    ap (λ x. x ∷ ts) (one_entry t u named (first_column t u ts us named alike)) ∙ ap (λ xs. u ∷ xs) rest
