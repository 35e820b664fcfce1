-- Blocks one after another.
use Rattle.std.proofs.Common.{◌≡◌, ◌≢◌, ◌∙◌, refl, sym, ap, subst, ℕ, zero, suc, ◌+◌, ◌-◌, ◌*◌, ◌≤◌, ◌<◌, Bool, true, false, List, [], ◌∷◌, ◌++◌, length, if◌then◌else◌, eqb, eq-eqb, ne_eqb, append-nil, append_assoc, length-append, length-set, get_or-set_same, get_or-set_other, arith}
use native.Mathlib.Decide.{ℕ_discrete}
use mathlib.Core.Logic.{dite}
use Rattle.std.specs.Prelude.{slice_index_or, slice_set}
use Rattle.std.proofs.lemmas.List.Sums.{sum_by-cons, sum_by-append}
use Rattle.std.proofs.lemmas.List.Concat.{flat_map-append}
use Rattle.std.proofs.lemmas.List.Elements.{All-from_recursion}
use Rattle.turn_hall.specs.declared.entry.Entry.{Entry}
use Rattle.catalogue_state.specs.State.{State}
use Rattle.catalogue_state.specs.declared.ask.Ask.{Ask}
use Rattle.catalogue_state.specs.declared.reply.Reply.{Reply}
use Rattle.catalogue_hall.specs.History.{History}
use Rattle.script_read.specs.declared.script.Command.{Command}
use Rattle.script_read.specs.declared.script.Block.{Block}
use Rattle.script_read.specs.Phases.{IsActor, block_commands, phase_commands}
use Rattle.session_run.specs.Turns.{Work}
use Rattle.session_run.specs.Ran.{IsAtWork, Ran, OnlyOwn}
use Rattle.session_run.proofs.Runs.{ran_none, ran_on}
use Rattle.script_run.specs.declared.member.Member.{Member}
use Rattle.script_run.specs.Members.{fresh_member, member_of, with_member, member_work, commands_of, PhaseRan, PhasesRan}
use Rattle.script_run.specs.Run.{blocks_of, InBlocks, InPhases}
use Rattle.script_run.specs.Leaves.{AreAtRest, Followed, EachFollowed, BlocksRan, AllRan}
use Rattle.script_run.proofs.Others.{added_own}
use Rattle.script_run.proofs.Phases.{past, ran_past, phases_more, ends, ends_first}

-- ---- what each actor has

member_here : (ms : List Member) (who : ℕ) (m : Member) → IsActor (length ms) who → member_of (with_member ms who m) who ≡ m
member_here ms zero m is = absurd (let p = is.first in omega arith)
member_here ms (suc k) m is =
    let last = is.last in
    ap (λ (j : ℕ). slice_index_or (slice_set ms j m) k fresh_member) (let e : suc k - 1 ≡ k = omega arith in e)
    ∙ get_or-set_same ms k m fresh_member (omega arith)

member_else : (ms : List Member) (who other : ℕ) (m : Member) → 0 < who → other ≢ who → member_of (with_member ms who m) other ≡ member_of ms other
member_else ms who zero m positive differ = refl
member_else ms who (suc k) m positive differ =
    get_or-set_other ms (who - 1) k m fresh_member (λ same. differ (omega (arith, same, positive)))

members_many : (ms : List Member) (who : ℕ) (m : Member) → length (with_member ms who m) ≡ length ms
members_many ms who m = length-set ms (who - 1) m

-- one actor has something else
pub record Replaced (ms : List Member) (who : ℕ) (m : Member) (ns : List Member) : Type 0 where
  pub here : member_of ns who ≡ m
  pub others : (other : ℕ) → other ≢ who → member_of ns other ≡ member_of ms other
  pub many : length ns ≡ length ms

-- what an actor has was taken out, and put back changed
pub put_back : (ms ls ns : List Member) (who : ℕ) (m n : Member) → IsActor (length ms) who → ls ≡ with_member ms who m → ns ≡ with_member ls who n → Replaced ms who n ns
put_back ms ls ns who m n is took put =
    let many = ap length took ∙ members_many ms who m in
    record {
      here = ap (λ l. member_of l who) put ∙ member_here ls who n (subst (λ (k : ℕ). IsActor k who) (sym many) is);
      others = λ other differ.
          ap (λ l. member_of l other) put ∙ member_else ls who other n is.first differ
          ∙ (ap (λ l. member_of l other) took ∙ member_else ms who other m is.first differ);
      many = ap length put ∙ members_many ls who n ∙ many;
    }

pub may_put : (ms ls : List Member) (who : ℕ) (m : Member) → IsActor (length ms) who → ls ≡ with_member ms who m → IsActor (length ls) who
may_put ms ls who m is took = subst (λ (k : ℕ). IsActor k who) (sym (ap length took ∙ members_many ms who m)) is

-- ---- the calls of blocks

pub in_blocks_on : (xs ys : List Block) (a b : List (Entry Ask Reply)) → InBlocks xs a → InBlocks ys b → InBlocks (xs ++ ys) (a ++ b)
in_blocks_on [] ys a b x y = subst (λ (l : List (Entry Ask Reply)). InBlocks ys (l ++ b)) (sym x) y
in_blocks_on (block ∷ xs) ys a b x y =
    (x.0, x.1 ++ b, ap (λ l. l ++ b) x.2 ∙ append_assoc x.0 x.1 b, x.3, in_blocks_on xs ys x.1 b x.4 y)

pub followed_none : (book : List (Entry Ask Reply)) → Followed [] book book
followed_none book = ([], sym (append-nil book), refl)

pub followed_on : (xs ys : List Block) (a b c : List (Entry Ask Reply)) → Followed xs a b → Followed ys b c → Followed (xs ++ ys) a c
followed_on xs ys a b c x y = (x.0 ++ y.0, y.1 ∙ ap (λ l. l ++ y.0) x.1 ∙ append_assoc a x.0 y.0, in_blocks_on xs ys x.0 y.0 x.2 y.2)

-- ---- one block

own_commands : (who : ℕ) (b : Block) → b.actor ≡ who → commands_of who (b ∷ []) ≡ b.commands
own_commands who b same = ap (λ (x : Bool). (if x then b.commands else []) ++ []) (eq-eqb b.actor who same) ∙ append-nil b.commands

no_commands : (who : ℕ) (b : Block) → b.actor ≢ who → commands_of who (b ∷ []) ≡ []
no_commands who b differ = ap (λ (x : Bool). (if x then b.commands else []) ++ []) (ne_eqb b.actor who differ)

module _ (b : Block) (h k : History) (ms ns : List Member) (m : Member) (rest : (who : ℕ) → IsAtWork who (member_work h (member_of ms who)))
    (put : Replaced ms b.actor m ns) (ran : Ran b.actor b.commands (member_work h (member_of ms b.actor)) (member_work k m))
    (own : OnlyOwn b.actor (257 * length b.commands) h k) where
  abbrev DidRan : ℕ → List Command → Type 0
  DidRan who cs = Ran who cs (member_work h (member_of ms who)) (member_work k (member_of ns who))

  own_ran : (who : ℕ) → b.actor ≡ who → DidRan who (commands_of who (b ∷ []))
  own_ran who same =
      subst (λ (l : List Command). DidRan who l) (sym (own_commands who b same))
      (subst (λ (w : ℕ). DidRan w b.commands) same
      (subst (λ (n : Member). Ran b.actor b.commands (member_work h (member_of ms b.actor)) (member_work k n)) (sym put.here) ran))

  other_ran : (who : ℕ) → b.actor ≢ who → DidRan who (commands_of who (b ∷ []))
  other_ran who differ =
      let w = member_work h (member_of ms who) in
      let later = ran_past who w k.book (rest who) ran.grew.begins (own.others who (λ same. differ (sym same))) in
      let now : record { start = h.start; book = k.book } ≡ k = ap (λ (s : State). record { start = s; book = k.book }) (sym ran.grew.start) in
      let there : past w k.book ≡ member_work k (member_of ns who)
      = ap (λ (x : History). member_work x (member_of ms who)) now ∙ ap (λ (n : Member). member_work k n) (sym (put.others who (λ same. differ (sym same)))) in
      subst (λ (l : List Command). DidRan who l) (sym (no_commands who b differ)) (subst (λ (v : Work). Ran who [] w v) there later)

  -- the block was run: its actor did its commands, and nobody else did anything
  pub block_ran : BlocksRan (b ∷ []) h ms k ns
  block_ran =
      let few = own.few in
      let sum = sum_by-cons block_commands b [] in
      let added = ran.grew.begins in
      record {
        ran = λ who. dite (ℕ_discrete b.actor who) (own_ran who) (other_ran who);
        order = (
          added.0,
          added.1,
          (added.0, [], sym (append-nil added.0), All-from_recursion (λ e. e.who ≡ b.actor) added.0 (added_own b.actor h.book added.0 k.book added.1 own.others), refl),
        );
        few = omega arith;
        many = put.many;
      }

-- ---- blocks of one phase

pub no_blocks_ran : (h : History) (ms : List Member) (commands : ℕ) → AreAtRest h ms commands → BlocksRan [] h ms h ms
no_blocks_ran h ms commands rest = record {
  ran = λ who. ran_none who (member_work h (member_of ms who)) (rest.works who);
  order = followed_none h.book;
  few = omega arith;
  many = refl;
}

-- blocks, and then others of the same phase
pub blocks_on : (xs ys : List Block) (h : History) (ms : List Member) (g : History) (ls : List Member) (k : History) (ns : List Member)
    → BlocksRan xs h ms g ls → BlocksRan ys g ls k ns → BlocksRan (xs ++ ys) h ms k ns
blocks_on xs ys h ms g ls k ns r q =
    let few = r.few in let few' = q.few in
    let sum = sum_by-append block_commands xs ys in
    record {
      ran = λ who.
          subst (λ (l : List Command). Ran who l (member_work h (member_of ms who)) (member_work k (member_of ns who)))
          (sym (flat_map-append (λ (b : Block). if eqb b.actor who then b.commands else []) xs ys))
          (ran_on who (commands_of who xs) (commands_of who ys) (member_work h (member_of ms who)) (member_work g (member_of ls who)) (member_work k (member_of ns who)) (r.ran who) (q.ran who));
      order = followed_on xs ys h.book g.book k.book r.order q.order;
      few = omega arith;
      many = q.many ∙ r.many;
    }

few_if : (x : Bool) (cs more : List Command) (n : ℕ) → length more ≤ n → length ((if x then cs else []) ++ more) ≤ length cs + n
few_if true cs more n few = omega (arith, length-append cs more, few)
few_if false cs more n few = omega (arith, few)

-- an actor has no more commands than the phase
few_commands : (who : ℕ) (blocks : List Block) → length (commands_of who blocks) ≤ phase_commands blocks
few_commands who [] = omega arith
few_commands who (b ∷ bs) =
    let sum = sum_by-cons block_commands b bs in
    let few = few_if (eqb b.actor who) b.commands (commands_of who bs) (phase_commands bs) (few_commands who bs) in
    omega arith

-- there is room for the commands that are left
pub still_at_rest : (blocks : List Block) (h : History) (ms : List Member) (k : History) (ns : List Member) (all commands : ℕ)
    → all ≡ phase_commands blocks + commands → BlocksRan blocks h ms k ns → AreAtRest h ms all → AreAtRest k ns commands
still_at_rest blocks h ms k ns all commands is r rest =
    let few = r.few in let calls = rest.calls in
    record {
      works = λ who. (r.ran who).work;
      calls = omega arith;
      records = λ who.
          let grew = (r.ran who).grew in
          let long = ap length grew.records ∙ length-append (member_of ms who).records grew.added in
          let added = grew.few in
          let most = few_commands who blocks in
          let room = rest.records who in
          omega arith;
    }

-- fewer commands
pub at_rest_less : (h : History) (ms : List Member) (a n : ℕ) → a ≤ n → AreAtRest h ms n → AreAtRest h ms a
at_rest_less h ms a n few rest =
    let calls = rest.calls in
    record {
      works = rest.works;
      calls = omega arith;
      records = λ who. let room = rest.records who in omega arith;
    }

-- ---- phases

pub no_phases_ran : (h : History) (ms : List Member) → AllRan [] h ms h ms
no_phases_ran h ms = record { ran = (refl, refl); order = tt; many = refl }

each_more : (phases : List (List Block)) (blocks : List Block) (h : History) (ms : List Member) (g : History) (ls : List Member) (k : History) (ns : List Member)
    (r : PhasesRan phases h ms g ls) (p : PhaseRan blocks g ls k ns) → EachFollowed phases h ms g ls r → Followed blocks g.book k.book
    → EachFollowed (phases ++ blocks ∷ []) h ms k ns (phases_more phases blocks h ms g ls k ns r p)
each_more [] blocks h ms g ls k ns r p e f = (subst (λ (x : History). Followed blocks x.book k.book) r.0 f, tt)
each_more (b ∷ phases) blocks h ms g ls k ns r p e f = (e.0, each_more phases blocks r.0 r.1 g ls k ns r.3 p e.1 f)

-- one phase more
pub phases_on : (phases : List (List Block)) (blocks : List Block) (h : History) (ms : List Member) (g : History) (ls : List Member) (k : History) (ns : List Member)
    → AllRan phases h ms g ls → BlocksRan blocks g ls k ns → AllRan (phases ++ blocks ∷ []) h ms k ns
phases_on phases blocks h ms g ls k ns r q = record {
  ran = phases_more phases blocks h ms g ls k ns r.ran q.ran;
  order = each_more phases blocks h ms g ls k ns r.ran q.ran r.order q.order;
  many = q.many ∙ r.many;
}

-- the calls of phases stand between the ends of the phases
pub in_phases : (phases : List (List Block)) (h : History) (ms : List Member) (k : History) (ns : List Member) (r : PhasesRan phases h ms k ns) → EachFollowed phases h ms k ns r
    → (total : ℕ → ℕ) (phase : ℕ) → ((n : ℕ) → total (phase + n) ≡ ends phases h ms k ns r n)
    → (added : List (Entry Ask Reply)) × (k.book ≡ h.book ++ added) × InPhases total phase phases added
in_phases [] h ms k ns r e total phase at = ([], ap (λ (x : History). x.book) r.0 ∙ sym (append-nil h.book), refl)
in_phases (blocks ∷ phases) h ms k ns r e total phase at =
    let g = r.0 in
    let f = e.0 in
    let later = in_phases phases g r.1 k ns r.3 e.1 total (phase + 1)
    (λ n. subst (λ (m : ℕ). total m ≡ ends phases g r.1 k ns r.3 n) (let e : phase + suc n ≡ phase + 1 + n = omega arith in e) (at (suc n))) in
    let low : total phase ≡ length h.book = subst (λ (n : ℕ). total n ≡ length h.book) (let e : phase + 0 ≡ phase = omega arith in e) (at 0) in
    let high : total (phase + 1) ≡ length g.book = at 1 ∙ ends_first phases g r.1 k ns r.3 in
    let long = ap length f.1 ∙ length-append h.book f.0 in (
      f.0 ++ later.0,
      later.1 ∙ ap (λ l. l ++ later.0) f.1 ∙ append_assoc h.book f.0 later.0,
      (f.0, later.0, refl, omega (arith, low, high, long), f.2, later.2),
    )

-- and one block after another
pub in_order : (phases : List (List Block)) (total : ℕ → ℕ) (phase : ℕ) (history : List (Entry Ask Reply)) → InPhases total phase phases history → InBlocks (blocks_of phases) history
in_order [] total phase history i = i
in_order (blocks ∷ phases) total phase history i =
    subst (λ (l : List (Entry Ask Reply)). InBlocks (blocks ++ blocks_of phases) l) (sym i.2)
    (in_blocks_on blocks (blocks_of phases) i.0 i.1 i.4 (in_order phases total (phase + 1) i.1 i.5))
