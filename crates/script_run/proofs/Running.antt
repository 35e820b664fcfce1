-- A whole script.
use Rattle.std.proofs.Common.{◌≡◌, ◌∙◌, refl, sym, ap, subst, ℕ, suc, ◌+◌, ◌≤◌, ◌<◌, List, [], ◌∷◌, ◌++◌, length, map, drop, get_or, append_assoc, arith}
use Rattle.std.proofs.Math.Seq.{drop-cons}
use Rattle.std.specs.Prelude.{All}
use Rattle.std.specs.List.{AllByRecursion}
use Rattle.std.proofs.lemmas.List.{length-map}
use Rattle.std.proofs.lemmas.List.Elements.{All-append, All-nil}
use Rattle.turn_hall.specs.declared.entry.Entry.{Entry}
use Rattle.turn_hall.specs.Replay.{IsLegal}
use Rattle.actor_records.specs.Walk.{walk}
use Rattle.catalogue_state.specs.Step.{step}
use Rattle.catalogue_state.specs.declared.ask.Ask.{Ask}
use Rattle.catalogue_state.specs.declared.reply.Reply.{Reply}
use Rattle.catalogue_state.specs.declared.parts.SourceData.{SourceData}
use Rattle.catalogue_hall.specs.History.{History}
use Rattle.script_read.specs.declared.script.Block.{Block}
use Rattle.script_read.specs.declared.script.Script.{Script}
use Rattle.script_read.specs.Phases.{IsActor, IsPhase, MayRun}
use Rattle.session_run.specs.Record.{ActorRecord}
use Rattle.session_run.specs.Ran.{IsAtWork}
use Rattle.script_run.specs.declared.member.Member.{Member}
use Rattle.script_run.specs.Members.{fresh_member, member_of, member_work}
use Rattle.script_run.specs.Run.{blocks_of, InBlocks, InPhases, IsRunInOrder}
use Rattle.script_run.specs.Leaves.{AreAtRest, AllRan}
use Rattle.script_run.proofs.Phases.{before_any, ends, ends_first, run_is_of}
use Rattle.script_run.proofs.Blocks.{in_phases, in_order}

-- what is left of a list at a place
pub drop_here : {X : Type 0} (xs : List X) (i : ℕ) (x : X) → i < length xs → x ≡ get_or xs i x → drop i xs ≡ x ∷ drop (i + 1) xs
drop_here xs i x lt is =
    drop-cons xs i x lt ∙ ap (λ y. y ∷ drop (suc i) xs) (sym is) ∙ ap (λ (k : ℕ). x ∷ drop k xs) (let e : suc i ≡ i + 1 = omega arith in e)

-- an actor that has done nothing is at work
fresh_work : (sources : List SourceData) (who : ℕ) → IsAtWork who (member_work (before_any sources) fresh_member)
fresh_work sources who = record { held = refl; place = refl; index = omega arith }

-- before the first phase
pub at_first : (sources : List SourceData) (h : History) (ms : List Member) (commands : ℕ) → h ≡ before_any sources → ((who : ℕ) → member_of ms who ≡ fresh_member)
    → commands ≤ 65536 → AreAtRest h ms commands
at_first sources h ms commands new idle few =
    let none = ap (λ (x : History). length x.book) new in
    record {
      works = λ who.
          subst (λ (x : History). IsAtWork who (member_work x (member_of ms who))) (sym new)
          (subst (λ (m : Member). IsAtWork who (member_work (before_any sources) m)) (sym (idle who)) (fresh_work sources who));
      calls = omega arith;
      records = λ who. let none = ap (λ (m : Member). length m.records) (idle who) in omega arith;
    }

-- the journal of the run
pub ran_in_order : (script : Script) (sources : List SourceData) (h : History) (ms : List Member) (k : History) (ns : List Member) (parts : List (List ActorRecord)) (J : List ActorRecord)
    → h ≡ before_any sources → ((who : ℕ) → member_of ms who ≡ fresh_member) → length ms ≡ length script.actors
    → AllRan script.phases h ms k ns → IsLegal step k.start k.book
    → parts ≡ map (λ (m : Member). m.records) ns → J ≡ walk k.book parts → IsRunInOrder script sources J
ran_in_order script sources h ms k ns parts J new idle many ran legal are is =
    let whole = subst (λ (x : History). AllRan script.phases x ms k ns) new ran in
    let made = run_is_of script sources ms k ns parts J idle whole.ran legal are (ap length are ∙ length-map ns (λ (m : Member). m.records) ∙ whole.many ∙ many) is in
    let total = made.0.ends in
    let at : (n : ℕ) → total (0 + n) ≡ ends script.phases (before_any sources) ms k ns whole.ran n
    = λ n. ap total (let e : 0 + n ≡ n = omega arith in e) ∙ made.1 n in
    let calls = in_phases script.phases (before_any sources) ms k ns whole.ran whole.order total 0 at in
    let pieces = subst (λ (b : List (Entry Ask Reply)). InPhases total 0 script.phases b) (sym calls.1) calls.2 in
    record {
      book = k.book;
      run = made.0;
      order = in_order script.phases total 0 k.book pieces;
      begins = made.1 0 ∙ ends_first script.phases (before_any sources) ms k ns whole.ran;
      phases = pieces;
    }

-- ---- laws

pub in_blocks_cut : (xs ys : List Block) (history : List (Entry Ask Reply)) → InBlocks (xs ++ ys) history
    → (first : List (Entry Ask Reply)) × (later : List (Entry Ask Reply)) × (history ≡ first ++ later) × InBlocks xs first × InBlocks ys later
in_blocks_cut [] ys history i = ([], history, refl, refl, i)
in_blocks_cut (b ∷ xs) ys history i =
    let r = in_blocks_cut xs ys i.1 i.4 in
    (i.0 ++ r.0, r.1, i.2 ∙ ap (λ l. i.0 ++ l) r.2 ∙ sym (append_assoc i.0 r.0 r.1), (i.0, r.0, refl, i.3, r.3), r.4)

pub cut : (script : Script) (sources : List SourceData) (J : List ActorRecord) (run : IsRunInOrder script sources J)
    (before behind : List Block) → blocks_of script.phases ≡ before ++ behind
    → (first : List (Entry Ask Reply)) × (later : List (Entry Ask Reply)) × (run.book ≡ first ++ later) × InBlocks before first × InBlocks behind later
cut script sources J run before behind is = in_blocks_cut before behind run.book (subst (λ (bs : List Block). InBlocks bs run.book) is run.order)

abbrev OfOne : Block → Type 0
OfOne b = b.actor ≡ 1

calls_of_one : (bs : List Block) (history : List (Entry Ask Reply)) → AllByRecursion OfOne bs → InBlocks bs history → All (λ e. e.who ≡ 1) history
calls_of_one [] history are i = subst (λ (l : List (Entry Ask Reply)). All (λ e. e.who ≡ 1) l) (sym i) (All-nil (λ e. e.who ≡ 1))
calls_of_one (b ∷ bs) history are i =
    subst (λ (l : List (Entry Ask Reply)). All (λ e. e.who ≡ 1) l) (sym i.2)
    (All-append (λ e. e.who ≡ 1) i.0 i.1 (subst (λ (w : ℕ). All (λ e. e.who ≡ w) i.0) are.0 i.3) (calls_of_one bs i.1 are.1 i.4))

of_one_on : (xs ys : List Block) → AllByRecursion (λ (b : Block). IsActor 1 b.actor) xs → AllByRecursion OfOne ys → AllByRecursion OfOne (xs ++ ys)
of_one_on [] ys known are = are
of_one_on (b ∷ xs) ys known are = ((let first = known.0.first in let last = known.0.last in omega arith), of_one_on xs ys known.1 are)

blocks_of_one : (phases : List (List Block)) → AllByRecursion (λ (blocks : List Block). IsPhase 1 blocks) phases → AllByRecursion OfOne (blocks_of phases)
blocks_of_one [] are = tt
blocks_of_one (blocks ∷ phases) are = of_one_on blocks (blocks_of phases) are.0.known (blocks_of_one phases are.1)

pub one_actor : (script : Script) (sources : List SourceData) (J : List ActorRecord) (run : IsRunInOrder script sources J)
    → MayRun script → length script.actors ≡ 1 → All (λ e. e.who ≡ 1) run.book
one_actor script sources J run may one =
    calls_of_one (blocks_of script.phases) run.book
    (blocks_of_one script.phases (subst (λ (n : ℕ). AllByRecursion (λ (blocks : List Block). IsPhase n blocks) script.phases) one may.phases)) run.order
