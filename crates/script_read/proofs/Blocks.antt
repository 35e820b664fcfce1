-- Phases with one more phase, block or command.
use Rattle.std.proofs.Common.{◌≡◌, ◌≢◌, ◌∙◌, sym, refl, ap, ℕ, suc, zero, ◌+◌, ◌-◌, ◌<◌, ◌≤◌, List, [], ◌∷◌, ◌++◌, map, length, get_or, Bool, true, false, if◌then◌else◌, cond, Some, None, arith}
use Rattle.std.proofs.Math.Logic.{◌⊎◌, inl, inr}
use Rattle.std.specs.Prelude.{◌==◌, ◌||◌, not, nat_lt, eqb, unwrap_or, slice_get, All, AllPairs, codes, sum_by}
use Rattle.std.specs.List.{AllByRecursion, flat_map, position_or_len}
use Rattle.std.proofs.lemmas.Bool.{ltb-false, ltb-true, false≢true}
use Rattle.std.proofs.lemmas.Bool.Decides.{nat_tests}
use Rattle.std.proofs.lemmas.List.{append_assoc, append-nil, length_push, map-append}
use Rattle.std.proofs.lemmas.List.Elements.{All-push}
use Rattle.std.proofs.lemmas.List.Folds.{list_any_at}
use Rattle.std.proofs.lemmas.List.Quantifiers.{all_pairs_push}
use Rattle.std.proofs.lemmas.List.Sums.{sum_by_push, prefix_len-le-length}
use Rattle.std.proofs.lemmas.Option.{unwrap_or-slice_get}
use Rattle.script_read.specs.declared.script.Block.{Block}
use Rattle.script_read.specs.declared.script.Command.{Command}
use Rattle.script_read.specs.Grammar.{has_text}
use Rattle.script_read.specs.Meaning.{IsName, IsCommand, IsBlock, mentions, AreNumbered, actor_text, block_lines, phase_lines}
use Rattle.script_read.specs.Phases.{IsActor, has, Apart, actor_number, block_commands, phase_commands, IsPhase}
use Rattle.script_read.specs.Sections.{actor_name, number_of, has_block, with_actor}
use Rattle.script_read.specs.Words.{same}
use Rattle.script_read.proofs.Inversions.{same_is, is_same}

-- ---- lists

pub all_push : {X : Type 0} (P : X → Type 0) (xs : List X) (x : X) → AllByRecursion P xs → P x → AllByRecursion P (xs ++ x ∷ [])
all_push P [] x h p = (p, tt)
all_push P (y ∷ ys) x h p = (h.0, all_push P ys x h.1 p)

pub all_last : {X : Type 0} (P : X → Type 0) (xs : List X) (x : X) → AllByRecursion P (xs ++ x ∷ []) → P x
all_last P [] x h = h.0
all_last P (y ∷ ys) x h = all_last P ys x h.1

pub all_front : {X : Type 0} (P : X → Type 0) (xs : List X) (x : X) → AllByRecursion P (xs ++ x ∷ []) → AllByRecursion P xs
all_front P [] x h = tt
all_front P (y ∷ ys) x h = (h.0, all_front P ys x h.1)

pub all_weaker : {X : Type 0} (P Q : X → Type 0) → ((x : X) → P x → Q x) → (xs : List X) → AllByRecursion P xs → AllByRecursion Q xs
all_weaker P Q f [] h = tt
all_weaker P Q f (x ∷ xs) h = (f x h.0, all_weaker P Q f xs h.1)

-- the last part grows
pub grows : {X A : Type 0} (f : X → List A) (ps : List X) (x y : X) (z : List A) → f y ≡ f x ++ z → flat_map f (ps ++ y ∷ []) ≡ flat_map f (ps ++ x ∷ []) ++ z
grows f [] x y z e = append-nil (f y) ∙ (e ∙ ap (λ l. l ++ z) (sym (append-nil (f x))))
grows f (p ∷ ps) x y z e = ap (λ l. f p ++ l) (grows f ps x y z e) ∙ sym (append_assoc (f p) (flat_map f (ps ++ x ∷ [])) z)

pub last_same : {X A : Type 0} (f : X → List A) (ps : List X) (x y : X) → f y ≡ f x → flat_map f (ps ++ y ∷ []) ≡ flat_map f (ps ++ x ∷ [])
last_same f [] x y e = ap (λ l. l ++ []) e
last_same f (p ∷ ps) x y e = ap (λ l. f p ++ l) (last_same f ps x y e)

-- one more part
pub one_more : {X A : Type 0} (f : X → List A) (ps : List X) (x : X) → flat_map f (ps ++ x ∷ []) ≡ flat_map f ps ++ f x
one_more f [] x = append-nil (f x)
one_more f (p ∷ ps) x = ap (λ l. f p ++ l) (one_more f ps x) ∙ sym (append_assoc (f p) (flat_map f ps) (f x))

-- ---- the number of an actor

-- the place of a name, from 0
abbrev pub index : List (List ℕ) → List ℕ → ℕ
index [] name = 0
index (a ∷ names) name = if same a name then 0 else suc (index names name)

or_length_by : (b : Bool) (p l : ℕ) → nat_lt p l ≡ b → p ≤ l → unwrap_or (cond b (Some p) None) l ≡ p
or_length_by true p l e h = refl
or_length_by false p l e h = let f : l ≤ p = ltb-false p l e in omega (arith, h, f)

place_by : (b : Bool) (p q : ℕ) → p ≡ q → cond (not b) (1 + p) 0 ≡ (if b then 0 else suc q)
place_by true p q e = refl
place_by false p q e = omega (arith, e)

place_is : (names : List (List ℕ)) (name : List ℕ) → position_or_len (λ a. same a name) names ≡ index names name
place_is [] name = refl
place_is (a ∷ names) name = place_by (same a name) (position_or_len (λ a. same a name) names) (index names name) (place_is names name)

pub number_is : (names : List (List ℕ)) (name : List ℕ) → number_of names name ≡ index names name + 1
number_is names name =
    let l = prefix_len-le-length (λ (a : List ℕ). not (same a name)) names in
    ap (λ (k : ℕ). k + 1) (or_length_by _ (position_or_len (λ a. same a name) names) (length names) refl l ∙ place_is names name)

index_by : (b : Bool) (i l : ℕ) → i ≤ l → (if b then 0 else suc i) ≤ suc l
index_by true i l h = omega arith
index_by false i l h = omega (arith, h)

pub index_most : (names : List (List ℕ)) (name : List ℕ) → index names name ≤ length names
index_most [] name = omega arith
index_most (a ∷ names) name = index_by (same a name) (index names name) (length names) (index_most names name)

found_by : (b : Bool) (i l : ℕ) (t : Bool) → nat_lt i l ≡ t → nat_lt (if b then 0 else suc i) (suc l) ≡ (b || t)
found_by true i l t e = grind (arith, nat_tests)
found_by false i l t e = grind (arith, nat_tests)

-- a name that stands has a place among them
pub index_found : (names : List (List ℕ)) (name : List ℕ) → nat_lt (index names name) (length names) ≡ has_text names name
index_found [] name = refl
index_found (a ∷ names) name = found_by (same a name) (index names name) (length names) (has_text names name) (index_found names name)

abbrev pub name_in : List (List ℕ) → ℕ → List ℕ
name_in names i = unwrap_or (slice_get names i) []

named_by : (b : Bool) (a name : List ℕ) (names : List (List ℕ)) (i : ℕ) → (b ≡ true → a ≡ name) → name_in names i ≡ name → name_in (a ∷ names) (if b then 0 else suc i) ≡ name
named_by true a name names i f e = f refl
named_by false a name names i f e = e

named_index : (names : List (List ℕ)) (name : List ℕ) → name_in (names ++ name ∷ []) (index names name) ≡ name
named_index [] name = refl
named_index (a ∷ names) name = named_by (same a name) a name (names ++ name ∷ []) (index names name) (same_is a name) (named_index names name)

-- more actors leave the names of those before
name_before : (names xs : List (List ℕ)) (i : ℕ) → i < length names → name_in (names ++ xs) i ≡ name_in names i
name_before [] xs i h = absurd (omega (arith, h))
name_before (a ∷ names) xs zero h = refl
name_before (a ∷ names) xs (suc i) h = name_before names xs i (omega (arith, h))

abbrev pub Unlike : List ℕ → List ℕ → Type 0
Unlike a b = a ≢ b

unlike_rest : (a : List ℕ) (names : List (List ℕ)) → AllPairs Unlike (a ∷ names) → AllPairs Unlike names
unlike_rest a names h = λ i j d lt in_range. h (suc i) (suc j) d (omega (arith, lt)) (omega (arith, in_range))

-- a name that has no place differs from each
unlike_each : (names : List (List ℕ)) (name : List ℕ) → has_text names name ≡ false → (k : ℕ) (d : List ℕ) → k < length names → Unlike (get_or names k d) name
unlike_each names name h k d lt e = false≢true (sym h ∙ list_any_at (λ (a : List ℕ). same a name) names k d lt (is_same (get_or names k d) name e))

no_same : (b : Bool) → (b ≡ true → ⊥) → b ≡ false
no_same true h = absurd (h refl)
no_same false h = refl

first_by : (b : Bool) (i : ℕ) → b ≡ (0 == (if b then 0 else suc i))
first_by true i = refl
first_by false i = grind (arith, nat_tests)

next_by : (b c : Bool) (j i : ℕ) → c ≡ (j == i) → (b ≡ true → c ≡ false) → c ≡ (suc j == (if b then 0 else suc i))
next_by true c j i e f = f refl ∙ grind (arith, nat_tests)
next_by false c j i e f = e ∙ grind (arith, nat_tests)

-- of different actors one alone has a name
index_is : (name : List ℕ) (names : List (List ℕ)) (j : ℕ) → j < length names → AllPairs Unlike names → same (name_in names j) name ≡ (j == index names name)
index_is name [] j lt h = absurd (omega (arith, lt))
index_is name (a ∷ names) zero lt h = first_by (same a name) (index names name)
index_is name (a ∷ names) (suc j) lt h =
    next_by (same a name) (same (name_in names j) name) j (index names name) (index_is name names j (omega (arith, lt)) (unlike_rest a names h))
    (λ w. no_same (same (name_in names j) name) (λ v.
    h 0 (suc j) [] (omega arith) lt (same_is a name w ∙ (sym (same_is (name_in names j) name v) ∙ unwrap_or-slice_get names j []))))

less_one : (k i : ℕ) → 0 < k → (k - 1 == i) ≡ (k == i + 1)
less_one k i h = grind (arith, nat_tests)

-- an actor is in a phase where its number is
pub here_is : (names : List (List ℕ)) (name : List ℕ) (bs : List Block) → AllPairs Unlike names → AllByRecursion (λ (b : Block). IsActor (length names) b.actor) bs
    → has_text (map (λ (b : Block). actor_name names b.actor) bs) name ≡ has_block bs (index names name + 1)
here_is names name [] h k = refl
here_is names name (b ∷ bs) h k =
    let first = k.0.first in
    let last = k.0.last in
    let e : same (actor_name names b.actor) name ≡ (b.actor == index names name + 1) = index_is name names (b.actor - 1) (omega (arith, first, last)) h ∙ less_one b.actor (index names name) first in
    let r = here_is names name bs h k.1 in
    cc

-- ---- what is spelled

known_lines : (names xs : List (List ℕ)) (b : Block) → IsActor (length names) b.actor → block_lines (names ++ xs) b ≡ block_lines names b
known_lines names xs b k =
    let first = k.first in
    let last = k.last in
    ap (λ (n : List ℕ). actor_text n ∷ map (λ (c : Command). c.line) b.commands) (name_before names xs (b.actor - 1) (omega (arith, first, last)))

known_blocks : (names xs : List (List ℕ)) (bs : List Block) → AllByRecursion (λ (b : Block). IsActor (length names) b.actor) bs → flat_map (block_lines (names ++ xs)) bs ≡ flat_map (block_lines names) bs
known_blocks names xs [] k = refl
known_blocks names xs (b ∷ bs) k =
    ap (λ l. block_lines (names ++ xs) b ++ l) (known_blocks names xs bs k.1) ∙ ap (λ l. l ++ flat_map (block_lines names) bs) (known_lines names xs b k.0)

known_phase : (names xs : List (List ℕ)) (bs : List Block) → IsPhase (length names) bs → phase_lines (names ++ xs) bs ≡ phase_lines names bs
known_phase names xs bs k = ap (λ (l : List (List ℕ)). codes "phase" ∷ l) (known_blocks names xs bs k.known)

known_phases : (names xs : List (List ℕ)) (ps : List (List Block)) → AllByRecursion (IsPhase (length names)) ps → flat_map (phase_lines (names ++ xs)) ps ≡ flat_map (phase_lines names) ps
known_phases names xs [] k = refl
known_phases names xs (bs ∷ ps) k =
    ap (λ l. phase_lines (names ++ xs) bs ++ l) (known_phases names xs ps k.1) ∙ ap (λ l. l ++ flat_map (phase_lines names) ps) (known_phase names xs bs k.0)

with_by : (b : Bool) (names : List (List ℕ)) (name : List ℕ) (ps : List (List Block)) → AllByRecursion (IsPhase (length names)) ps
    → flat_map (phase_lines (if b then names ++ name ∷ [] else names)) ps ≡ flat_map (phase_lines names) ps
with_by true names name ps k = known_phases names (name ∷ []) ps k
with_by false names name ps k = refl

-- one more actor leaves what the phases spell
pub with_lines : (names : List (List ℕ)) (name : List ℕ) (number : ℕ) (ps : List (List Block)) → AllByRecursion (IsPhase (length names)) ps
    → flat_map (phase_lines (with_actor names name number)) ps ≡ flat_map (phase_lines names) ps
with_lines names name number ps k = with_by (nat_lt (length names) number) names name ps k

named_with : (b : Bool) (names : List (List ℕ)) (name : List ℕ) → nat_lt (length names) (index names name + 1) ≡ b → name_in (if b then names ++ name ∷ [] else names) (index names name) ≡ name
named_with true names name e = named_index names name
named_with false names name e = let f : index names name + 1 ≤ length names = ltb-false (length names) (index names name + 1) e in sym (name_before names (name ∷ []) (index names name) (omega (arith, f))) ∙ named_index names name

-- the number of an actor names it
pub number_names : (names : List (List ℕ)) (name : List ℕ) → actor_name (with_actor names name (number_of names name)) (number_of names name) ≡ name
number_names names name =
    let e : index names name + 1 - 1 ≡ index names name = omega arith in
    rw (number_is names name, e) (named_with (nat_lt (length names) (index names name + 1)) names name refl)

block_by : (names : List (List ℕ)) (bs : List Block) (b : Block) (z : List (List ℕ)) → block_lines names b ≡ z → phase_lines names (bs ++ b ∷ []) ≡ phase_lines names bs ++ z
block_by names bs b z e = ap (λ (l : List (List ℕ)). codes "phase" ∷ l) (one_more (block_lines names) bs b ∙ ap (λ l. flat_map (block_lines names) bs ++ l) e)

-- one more block spells the line of its actor
pub block_spelled : (names : List (List ℕ)) (ps : List (List Block)) (bs : List Block) (k : ℕ) (name : List ℕ) → actor_name names k ≡ name
    → flat_map (phase_lines names) (ps ++ (bs ++ record { actor = k; commands = [] } ∷ []) ∷ []) ≡ flat_map (phase_lines names) (ps ++ bs ∷ []) ++ actor_text name ∷ []
block_spelled names ps bs k name e =
    grows (phase_lines names) ps bs _ (actor_text name ∷ []) (block_by names bs (record { actor = k; commands = [] }) _ (ap (λ (n : List ℕ). actor_text n ∷ []) e))

-- one more command spells its line
pub command_spelled : (names : List (List ℕ)) (ps : List (List Block)) (bs : List Block) (b : Block) (c : Command)
    → flat_map (phase_lines names) (ps ++ (bs ++ record b { commands = b.commands ++ c ∷ [] } ∷ []) ∷ []) ≡ flat_map (phase_lines names) (ps ++ (bs ++ b ∷ []) ∷ []) ++ c.line ∷ []
command_spelled names ps bs b c =
    grows (phase_lines names) ps (bs ++ b ∷ []) _ (c.line ∷ [])
    (ap (λ (l : List (List ℕ)). codes "phase" ∷ l) (grows (block_lines names) bs b (record b { commands = b.commands ++ c ∷ [] }) (c.line ∷ [])
    (ap (λ (l : List (List ℕ)). actor_text (actor_name names b.actor) ∷ l) (map-append (λ (c : Command). c.line) b.commands (c ∷ [])))))

-- ---- what is kept

-- these actors, phases and numbers of commands can be those of a script
pub record ArePhases (actors : List (List ℕ)) (parts : List (List Block)) (count : ℕ) : Type 0 where
  pub few : length actors ≤ 128
  pub names : All IsName actors
  pub distinct : AllPairs Unlike actors
  pub phases : AllByRecursion (IsPhase (length actors)) parts
  pub numbered : AreNumbered 0 (mentions parts) (length actors)
  pub commands : AllByRecursion (AllByRecursion IsBlock) parts
  pub counted : count ≡ sum_by phase_commands parts
  pub many : count ≤ 65536

pub phase_more : (names : List (List ℕ)) (ps : List (List Block)) (n : ℕ) → ArePhases names ps n → ArePhases names (ps ++ [] ∷ []) n
phase_more names ps n h =
    let e : mentions (ps ++ [] ∷ []) ≡ mentions ps = one_more (map actor_number) ps [] ∙ append-nil (mentions ps) in
    let total = sum_by_push phase_commands ps [] in
    record {
      few = h.few;
      names = h.names;
      distinct = h.distinct;
      phases = all_push (IsPhase (length names)) ps [] h.phases (record { known = tt; apart = tt });
      numbered = rw e h.numbered;
      commands = all_push (AllByRecursion IsBlock) ps [] h.commands tt;
      counted = h.counted ∙ sym (total ∙ omega arith);
      many = h.many;
    }

no_block_by : (b c : Bool) → (b || c) ≡ false → (b ≡ false) × (c ≡ false)
no_block_by true c h = cc
no_block_by false c h = (refl, h)

turned : (j k : ℕ) → (j == k) ≡ false → eqb k j ≡ false
turned j k h = grind (arith, nat_tests)

has_by : (b c : Bool) → (if b then true else c) ≡ false → (b ≡ false) × (c ≡ false)
has_by true c h = cc
has_by false c h = (refl, h)

has_push : (j : ℕ) (bs : List Block) (b : Block) → has j (map actor_number bs) ≡ false → (j == b.actor) ≡ false → has j (map actor_number (bs ++ b ∷ [])) ≡ false
has_push j [] b h e = rw (turned j b.actor e) refl
has_push j (c ∷ bs) b h e = let p = has_by (eqb c.actor j) (has j (map actor_number bs)) h in rw p.0 (has_push j bs b p.1 e)

apart_push : (bs : List Block) (b : Block) → Apart (map actor_number bs) → has_block bs b.actor ≡ false → Apart (map actor_number (bs ++ b ∷ []))
apart_push [] b h e = (refl, tt)
apart_push (c ∷ bs) b h e =
    let p = no_block_by (c.actor == b.actor) (has_block bs b.actor) e in
    (has_push c.actor bs b h.0 p.0, apart_push bs b h.1 p.1)

more_known : (m n : ℕ) → m ≤ n → (b : Block) → IsActor m b.actor → IsActor n b.actor
more_known m n l b k = record { first = k.first; last = omega (arith, k.last, l) }

more_phase : (m n : ℕ) → m ≤ n → (bs : List Block) → IsPhase m bs → IsPhase n bs
more_phase m n l bs k = record { known = all_weaker _ _ (more_known m n l) bs k.known; apart = k.apart }

-- a number that is known, or the next
abbrev Next : ℕ → ℕ → ℕ → Type 0
Next all more k = (IsActor all k × (more ≡ all)) ⊎ ((k ≡ all + 1) × (more ≡ all + 1))

next_known : (known all more k : ℕ) → known ≡ all → Next all more k → (IsActor known k × (known ≡ more)) ⊎ ((k ≡ known + 1) × (known + 1 ≡ more))
next_known known all more k e (inl p) =
    let last = p.0.last in
    inl (record { first = p.0.first; last = omega (arith, last, e) }, omega (arith, p.1, e))
next_known known all more k e (inr p) = inr (omega (arith, p.0, e), omega (arith, p.1, e))

numbered_push : (known : ℕ) (ks : List ℕ) (all more k : ℕ) → AreNumbered known ks all → Next all more k → AreNumbered known (ks ++ k ∷ []) more
numbered_push known [] all more k h w = next_known known all more k h w
numbered_push known (x ∷ ks) all more k (inl p) w = inl (p.0, numbered_push known ks all more k p.1 w)
numbered_push known (x ∷ ks) all more k (inr p) w = inr (p.0, numbered_push (known + 1) ks all more k p.1 w)

-- one more block of an actor of these actors, which stand for those before and may have one more
block_more : (names more : List (List ℕ)) (ps : List (List Block)) (bs : List Block) (n k : ℕ) → ArePhases names (ps ++ bs ∷ []) n
    → length more ≤ 128 → All IsName more → AllPairs Unlike more → length names ≤ length more → IsActor (length more) k → Next (length names) (length more) k → has_block bs k ≡ false
    → ArePhases more (ps ++ (bs ++ record { actor = k; commands = [] } ∷ []) ∷ []) n
block_more names more ps bs n k h few are_names distinct l known next free =
    let b : Block = record { actor = k; commands = [] } in
    let last = more_phase (length names) (length more) l bs (all_last (IsPhase (length names)) ps bs h.phases) in
    let e : mentions (ps ++ (bs ++ b ∷ []) ∷ []) ≡ mentions (ps ++ bs ∷ []) ++ k ∷ [] = grows (map actor_number) ps bs (bs ++ b ∷ []) (k ∷ []) (map-append actor_number bs (b ∷ [])) in
    let total = sum_by_push phase_commands ps bs in
    let total_more = sum_by_push phase_commands ps (bs ++ b ∷ []) in
    let part = sum_by_push block_commands bs b in
    record {
      few = few;
      names = are_names;
      distinct = distinct;
      phases = all_push (IsPhase (length more)) ps (bs ++ b ∷ []) (all_weaker _ _ (more_phase (length names) (length more) l) ps (all_front (IsPhase (length names)) ps bs h.phases))
          (record { known = all_push _ bs b last.known known; apart = apart_push bs b last.apart free });
      numbered = rw e (numbered_push 0 (mentions (ps ++ bs ∷ [])) (length names) (length more) k h.numbered next);
      commands = all_push (AllByRecursion IsBlock) ps (bs ++ b ∷ []) (all_front (AllByRecursion IsBlock) ps bs h.commands)
          (all_push IsBlock bs b (all_last (AllByRecursion IsBlock) ps bs h.commands) (λ i d lt. absurd (omega (arith, lt))));
      counted = omega (arith, h.counted, total, total_more, part);
      many = h.many;
    }

new_by : (names : List (List ℕ)) (name : List ℕ) → nat_lt (length names) (index names name + 1) ≡ true → has_text names name ≡ false
new_by names name e = let f : length names < index names name + 1 = ltb-true (length names) (index names name + 1) e in sym (index_found names name) ∙ not_below (index names name) (length names) (omega (arith, f))
  where
    not_below : (i l : ℕ) → l ≤ i → nat_lt i l ≡ false
    not_below i l h = grind (arith, nat_tests)

actor_by : (t : Bool) (names : List (List ℕ)) (ps : List (List Block)) (bs : List Block) (n : ℕ) (name : List ℕ) → ArePhases names (ps ++ bs ∷ []) n
    → nat_lt (length names) (index names name + 1) ≡ t → IsName name → has_block bs (index names name + 1) ≡ false → index names name + 1 ≤ 128
    → ArePhases (if t then names ++ name ∷ [] else names) (ps ++ (bs ++ record { actor = index names name + 1; commands = [] } ∷ []) ∷ []) n
actor_by true names ps bs n name h e is free room =
    let l = ltb-true (length names) (index names name + 1) e in
    let m = index_most names name in
    let g = length_push names name in
    block_more names (names ++ name ∷ []) ps bs n (index names name + 1) h (omega (arith, l, m, g, room)) (All-push IsName names name h.names is)
    (all_pairs_push Unlike names name h.distinct (unlike_each names name (new_by names name e))) (omega (arith, g))
    (record { first = omega arith; last = omega (arith, m, g) }) (inr (omega (arith, l, m), g)) free
actor_by false names ps bs n name h e is free room =
    let l = ltb-false (length names) (index names name + 1) e in
    let k : IsActor (length names) (index names name + 1) = record { first = omega arith; last = omega (arith, l) } in
    block_more names names ps bs n (index names name + 1) h h.few h.names h.distinct (omega arith) k (inl (k, refl)) free

-- one more block of the actor of a name
pub actor_more : (names : List (List ℕ)) (ps : List (List Block)) (bs : List Block) (n : ℕ) (name : List ℕ) (k : ℕ) → number_of names name ≡ k → ArePhases names (ps ++ bs ∷ []) n
    → IsName name → has_block bs k ≡ false → k ≤ 128 → ArePhases (with_actor names name k) (ps ++ (bs ++ record { actor = k; commands = [] } ∷ []) ∷ []) n
actor_more names ps bs n name k e h is free room =
    let f = sym e ∙ number_is names name in
    rw f (actor_by (nat_lt (length names) (index names name + 1)) names ps bs n name h refl is (rw f at free) (rw f at room))

same_numbers : (bs : List Block) (b c : Block) → b.actor ≡ c.actor → map actor_number (bs ++ b ∷ []) ≡ map actor_number (bs ++ c ∷ [])
same_numbers [] b c e = ap (λ (k : ℕ). k ∷ []) e
same_numbers (x ∷ bs) b c e = ap (λ l. x.actor ∷ l) (same_numbers bs b c e)

-- one more command in the last block
pub command_more : (names : List (List ℕ)) (ps : List (List Block)) (bs : List Block) (b : Block) (n : ℕ) (c : Command) → ArePhases names (ps ++ (bs ++ b ∷ []) ∷ []) n
    → IsCommand c → n < 65536 → ArePhases names (ps ++ (bs ++ record b { commands = b.commands ++ c ∷ [] } ∷ []) ∷ []) (n + 1)
command_more names ps bs b n c h is room =
    let d : Block = record b { commands = b.commands ++ c ∷ [] } in
    let last = all_last (IsPhase (length names)) ps (bs ++ b ∷ []) h.phases in
    let held = all_last (AllByRecursion IsBlock) ps (bs ++ b ∷ []) h.commands in
    let e = same_numbers bs d b refl in
    let m : mentions (ps ++ (bs ++ d ∷ []) ∷ []) ≡ mentions (ps ++ (bs ++ b ∷ []) ∷ []) = last_same (map actor_number) ps (bs ++ b ∷ []) (bs ++ d ∷ []) e in
    let total = sum_by_push phase_commands ps (bs ++ b ∷ []) in
    let total_more = sum_by_push phase_commands ps (bs ++ d ∷ []) in
    let part = sum_by_push block_commands bs b in
    let part_more = sum_by_push block_commands bs d in
    let longer = length_push b.commands c in
    record {
      few = h.few;
      names = h.names;
      distinct = h.distinct;
      phases = all_push (IsPhase (length names)) ps (bs ++ d ∷ []) (all_front (IsPhase (length names)) ps (bs ++ b ∷ []) h.phases)
          (record { known = all_push _ bs d (all_front _ bs b last.known) (all_last (λ (x : Block). IsActor (length names) x.actor) bs b last.known); apart = rw e last.apart });
      numbered = rw m h.numbered;
      commands = all_push (AllByRecursion IsBlock) ps (bs ++ d ∷ []) (all_front (AllByRecursion IsBlock) ps (bs ++ b ∷ []) h.commands)
          (all_push IsBlock bs d (all_front IsBlock bs b held) (All-push IsCommand b.commands c (all_last IsBlock bs b held) is));
      counted = omega (arith, h.counted, total, total_more, part, part_more, longer);
      many = omega (arith, room);
    }
