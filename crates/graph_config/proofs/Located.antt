-- A fault is the first of the document's form, or of its tables.
use Rattle.std.proofs.Common.{◌≡◌, ◌∙◌, refl, ap, sym, subst, ℕ, inl, inr, true, List, [], Option, Some, None, Result, Ok, Err, codes}
use Rattle.std.specs.Prelude.{IfErr}
use Rattle.serde_json.specs.Data.{Data}
use Rattle.serde_json.specs.Find.{get}
use Rattle.graph_config.specs.declared.fault.ConfigFault.{ConfigFault}
use Rattle.graph_config.specs.declared.fault.ConfigFault.TheVariants.{At, NoMemory}
use Rattle.graph_config.specs.declared.tables.Tables.{Tables}
use Rattle.graph_config.specs.Fault.{Fault, ◌>>=◌, Gives}
use Rattle.graph_config.specs.Field.{keys_of}
use Rattle.graph_config.specs.Walk.{walk}
use Rattle.graph_config.specs.Check.{checked}
use Rattle.graph_config.specs.Config.{ConfigData, json, json_or, config_with, config_at, config_of}
use Rattle.graph_config.specs.Form.{path_text, form_of, IsFirstFault}
use Rattle.graph_config.specs.Locates.{HasForm, Locates, LocatesOf, LocatesFault, FirstFaults, AcceptedHaveTheForm}
use Rattle.graph_config.proofs.Steps.{bound_ok}
use Rattle.graph_config.proofs.Found.{Found, First}
use Rattle.graph_config.proofs.Formed.{forget, walk_found}
use Rattle.graph_config.proofs.Later.{checks_are_later}

same_fault : {A : Type 0} (f g : Fault) (r : Result A Fault) → r ≡ Err f → r ≡ Err g → f ≡ g
same_fault f g r h k = cc

-- a step that gives a value has no fault
checks_fault : (r : Result (Unit {0}) Fault) (c : ConfigData) (fault : Fault) → (r >>= (λ none. Ok c)) ≡ Err fault → r ≡ Err fault
checks_fault (Ok u) c fault h = cc
checks_fault (Err f) c fault h = ap Err (same_fault f fault _ refl h)

as_first : (d : Data) (fault : Fault) → First (form_of d) d path_text fault → IsFirstFault d fault.0 fault.1
as_first d fault h = record { path = h.path; told = h.is; fault = h.here; first = h.first }

by_walk : (d : Data) (number : ℕ) (path : List ℕ) (r : Result Tables Fault) → walk d ≡ r → Found (form_of d) d path_text (forget r) → (r >>= config_with (keys_of (get (codes "version") d))) ≡ Err (number, path) → Locates d number path
unfolding config_with
by_walk d number path (Err fault) is h e = inl (as_first d (number, path) (subst (First (form_of d) d path_text) (same_fault fault (number, path) _ refl e) h))
by_walk d number path (Ok t) is h e =
    let found = checks_fault (checked t) _ (number, path) e in
    inr (record { formed = h; tables = t; walked = is; found = found; later = checks_are_later t (number, path) found })

pub first_faults : FirstFaults
unfolding config_at
first_faults = λ d number path e. by_walk d number path (walk d) refl (walk_found d) e

pub accepted_have_the_form : AcceptedHaveTheForm
unfolding config_at
accepted_have_the_form = λ d c e.
    let w = bound_ok (walk d) _ c e in
    subst (λ r. Found (form_of d) d path_text (forget r)) w.1 (walk_found d)

json_located : (o : Option Data) (number : ℕ) (path : List ℕ) → (json_or o >>= config_at) ≡ Err (number, path) → LocatesOf o number path
json_located None number path h =
    let e = same_fault (3, []) (number, path) _ refl h in
    (ap (λ f. f.0) (sym e), ap (λ f. f.1) (sym e))
json_located (Some d) number path h = first_faults d number path h

pub locates_fault : (bytes : List ℕ) (r : Result ConfigData ConfigFault) → Gives r (config_of bytes) → IfErr r (LocatesFault bytes)
unfolding config_of
locates_fault bytes (Ok c) h = tt
locates_fault bytes (Err (At number path)) h = json_located (json bytes) number path h
locates_fault bytes (Err NoMemory) h = tt
