-- Phases one after another: the records of each actor agree with the history at the end.
use Rattle.std.proofs.Common.{◌≡◌, ◌∙◌, refl, sym, ap, subst, ℕ, zero, suc, ◌+◌, ◌≤◌, Bool, true, false, List, [], ◌∷◌, ◌++◌, length, map, if◌then◌else◌, eqb, append-nil, arith}
use Rattle.std.specs.Prelude.{slice_index_or}
use Rattle.std.specs.List.{flat_map}
use Rattle.std.proofs.lemmas.List.{map-append}
use Rattle.turn_hall.specs.declared.entry.Entry.{Entry}
use Rattle.turn_hall.specs.Replay.{entries_of, IsLegal}
use Rattle.turn_hall.specs.Seen.{StartsWith}
use Rattle.actor_records.specs.Agreement.{Stand, AgreesWith, fresh}
use Rattle.actor_records.specs.Calls.{Todo}
use Rattle.actor_records.specs.Journal.{AreRecords, IsJournal}
use Rattle.actor_records.specs.Records.{parts_of}
use Rattle.actor_records.specs.Walk.{walk}
use Rattle.actor_records.proofs.Agreement.{agrees_other}
use Rattle.actor_records.proofs.Journal.{walks_to_journal}
use Rattle.catalogue_state.specs.Step.{step}
use Rattle.catalogue_state.specs.State.{State}
use Rattle.catalogue_state.specs.Bound.{opened, unfed, data_of}
use Rattle.catalogue_state.specs.declared.ask.Ask.{Ask}
use Rattle.catalogue_state.specs.declared.reply.Reply.{Reply}
use Rattle.catalogue_state.specs.declared.parts.SourceData.{SourceData}
use Rattle.catalogue_hall.specs.declared.held.Named.{Named}
use Rattle.catalogue_hall.specs.History.{History}
use Rattle.script_read.specs.declared.script.Command.{Command}
use Rattle.script_read.specs.declared.script.Block.{Block}
use Rattle.script_read.specs.declared.script.Script.{Script}
use Rattle.session_run.specs.Own.{fresh_own}
use Rattle.session_run.specs.Language.{ActorMind, rules, first_mind, in_phase, block_todo, phases_todo}
use Rattle.session_run.specs.Record.{ActorRecord}
use Rattle.session_run.specs.Turns.{Work, sources_of, stand, Stands}
use Rattle.session_run.specs.Ran.{between, IsAtWork, Ran}
use Rattle.session_run.proofs.Growth.{begins_shorter}
use Rattle.script_run.specs.declared.member.Member.{Member}
use Rattle.script_run.specs.Members.{fresh_member, member_of, member_work, commands_of, PhaseRan, PhasesRan}
use Rattle.script_run.specs.Run.{HasNoCommand, IsRunOf}
use Rattle.script_run.proofs.Others.{none_added, holds_longer}

-- ---- calls of others

-- the same actor after a history that goes on
abbrev pub past : Work → List (Entry Ask Reply) → Work
past w book = record w { history = record { start = w.history.start; book = book } }

-- others called, and the actor did nothing
pub ran_past : (who : ℕ) (w : Work) (book : List (Entry Ask Reply)) → IsAtWork who w → StartsWith book w.history.book
    → entries_of who book ≡ entries_of who w.history.book → Ran who [] w (past w book)
ran_past who w book at begins same = record {
  work = record {
    held = at.held ∙ sym (holds_longer w.history.start w.history.book book who begins same);
    place = at.place;
    index = at.index;
  };
  grew = record { start = refl; begins = begins; added = []; records = sym (append-nil w.records); few = omega arith };
  leads = λ ends phase first later on a.
      let none = none_added who w.history.book begins.0 (ap (entries_of who) (sym begins.1) ∙ same) in
      let u = rules (sources_of w) ends in
      let longer = agrees_other u who 0 w.history.start (fresh u who w.history.start first) (stand w (between w.own later)) w.history.book begins.0 w.records none a in
      subst (λ (b : List (Entry Ask Reply)). AgreesWith u w.history.start first who b w.records (stand w (between w.own later))) (sym begins.1) longer;
}

-- ---- the commands of a phase

todo_if : (phase : ℕ) (b : Bool) (commands : List Command) → (if b then in_phase phase commands else []) ≡ in_phase phase (if b then commands else [])
todo_if phase true commands = refl
todo_if phase false commands = refl

-- what a phase has for an actor are its commands
pub phase_todo : (who phase : ℕ) (blocks : List Block) → flat_map (block_todo who phase) blocks ≡ in_phase phase (commands_of who blocks)
phase_todo who phase [] = refl
phase_todo who phase (b ∷ blocks) =
    ap (λ l. l ++ flat_map (block_todo who phase) blocks) (todo_if phase (eqb b.actor who) b.commands)
    ∙ ap (λ l. in_phase phase (if eqb b.actor who then b.commands else []) ++ l) (phase_todo who phase blocks)
    ∙ sym (map-append _ (if eqb b.actor who then b.commands else []) (commands_of who blocks))

-- ---- phases one after another

-- the length of the history at the end of each phase; 0 stands for the start of the first one
abbrev pub ends : (phases : List (List Block)) (h : History) (ms : List Member) (k : History) (ns : List Member) → PhasesRan phases h ms k ns → ℕ → ℕ
ends [] h ms k ns r n = length h.book
ends (blocks ∷ phases) h ms k ns r zero = length h.book
ends (blocks ∷ phases) h ms k ns r (suc n) = ends phases r.0 r.1 k ns r.3 n

pub ends_first : (phases : List (List Block)) (h : History) (ms : List Member) (k : History) (ns : List Member) (r : PhasesRan phases h ms k ns) → ends phases h ms k ns r 0 ≡ length h.book
ends_first [] h ms k ns r = refl
ends_first (blocks ∷ phases) h ms k ns r = refl

ends_rise : (phases : List (List Block)) (h : History) (ms : List Member) (k : History) (ns : List Member) (r : PhasesRan phases h ms k ns) (n : ℕ)
    → ends phases h ms k ns r n ≤ ends phases h ms k ns r (suc n)
ends_rise [] h ms k ns r n = omega arith
ends_rise (blocks ∷ phases) h ms k ns r zero =
    let first = ends_first phases r.0 r.1 k ns r.3 in
    let shorter = begins_shorter h.book r.0.book (r.2 0).grew.begins in
    omega arith
ends_rise (blocks ∷ phases) h ms k ns r (suc n) = ends_rise phases r.0 r.1 k ns r.3 n

-- where the records of an actor agreed and the commands of the phases came next, they agree and no command is left
phases_stand : (phases : List (List Block)) (h : History) (ms : List Member) (k : History) (ns : List Member) (r : PhasesRan phases h ms k ns)
    (total : ℕ → ℕ) (phase : ℕ) → ((n : ℕ) → total (phase + n) ≡ ends phases h ms k ns r n) → (who : ℕ) (first : ActorMind) (sources : List SourceData)
    → map data_of h.start.sources ≡ sources
    → Stands sources total first who (member_work h (member_of ms who)) (between (member_of ms who).own (phases_todo who phase phases))
    → Stands sources total first who (member_work k (member_of ns who)) (between (member_of ns who).own [])
phases_stand [] h ms k ns r total phase at who first sources from a =
    subst (λ (x : History). Stands sources total first who (member_work x (member_of ns who)) (between (member_of ns who).own [])) (sym r.0)
    (subst (λ (l : List Member). Stands sources total first who (member_work h (member_of l who)) (between (member_of l who).own [])) (sym r.1) a)
phases_stand (blocks ∷ phases) h ms k ns r total phase at who first sources from a =
    let g = r.0 in
    let ran = r.2 who in
    let low : total phase ≡ length h.book = subst (λ (n : ℕ). total n ≡ length h.book) (let e : phase + 0 ≡ phase = omega arith in e) (at 0) in
    let high : total (phase + 1) ≡ length g.book = at 1 ∙ ends_first phases g r.1 k ns r.3 in
    let todo : phases_todo who phase (blocks ∷ phases) ≡ in_phase phase (commands_of who blocks) ++ phases_todo who (phase + 1) phases
    = ap (λ l. l ++ phases_todo who (phase + 1) phases) (phase_todo who phase blocks) in
    let before = subst (λ (l : List (Todo Command)). Stands sources total first who (member_work h (member_of ms who)) (between (member_of ms who).own l)) todo a in
    let after = ran.leads total phase first (phases_todo who (phase + 1) phases) (omega arith, omega arith)
    (subst (λ (l : List SourceData). Stands l total first who (member_work h (member_of ms who)) (between (member_of ms who).own (in_phase phase (commands_of who blocks) ++ phases_todo who (phase + 1) phases))) (sym from) before) in
    phases_stand phases g r.1 k ns r.3 total (phase + 1)
    (λ n. subst (λ (m : ℕ). total m ≡ ends phases g r.1 k ns r.3 n) (let e : phase + suc n ≡ phase + 1 + n = omega arith in e) (at (suc n)))
    who first sources (ap (λ (s : State). map data_of s.sources) ran.grew.start ∙ from)
    (subst (λ (l : List SourceData). Stands l total first who (member_work g (member_of r.1 who)) (between (member_of r.1 who).own (phases_todo who (phase + 1) phases))) from after)

-- one phase more
abbrev pub phases_more : (phases : List (List Block)) (blocks : List Block) (h : History) (ms : List Member) (g : History) (ls : List Member) (k : History) (ns : List Member)
    → PhasesRan phases h ms g ls → PhaseRan blocks g ls k ns → PhasesRan (phases ++ blocks ∷ []) h ms k ns
phases_more [] blocks h ms g ls k ns r p =
    (k, ns, subst (λ (x : History). PhaseRan blocks x ms k ns) r.0 (subst (λ (l : List Member). PhaseRan blocks g l k ns) r.1 p), (refl, refl))
phases_more (b ∷ phases) blocks h ms g ls k ns r p = (r.0, r.1, r.2, phases_more phases blocks r.0 r.1 g ls k ns r.3 p)

-- the state before any call stays that in which all began
pub start_stays : (phases : List (List Block)) (h : History) (ms : List Member) (k : History) (ns : List Member) → PhasesRan phases h ms k ns → k.start ≡ h.start
start_stays [] h ms k ns r = ap (λ (x : History). x.start) r.0
start_stays (blocks ∷ phases) h ms k ns r = start_stays phases r.0 r.1 k ns r.3 ∙ (r.2 0).grew.start

-- ---- the run

-- the history before any call
abbrev pub before_any : List SourceData → History
before_any sources = record { start = opened sources; book = [] }

seen_back : (sources : List SourceData) → map data_of (map unfed sources) ≡ sources
seen_back [] = refl
seen_back (s ∷ ss) = ap (λ l. s ∷ l) (seen_back ss)

records_at : (ms : List Member) (k : ℕ) → slice_index_or (map (λ (m : Member). m.records) ms) k [] ≡ (slice_index_or ms k fresh_member).records
records_at [] k = refl
records_at (m ∷ ms) zero = refl
records_at (m ∷ ms) (suc k) = records_at ms k

-- the records of each number
pub records_of : (ms : List Member) (who : ℕ) → parts_of (map (λ (m : Member). m.records) ms) who ≡ (member_of ms who).records
records_of ms zero = refl
records_of ms (suc k) = records_at ms k

-- The walk over the records of the actors, where all phases were run from the start, is the journal of the run
pub run_is_of : (script : Script) (sources : List SourceData) (ms : List Member) (k : History) (ns : List Member) (parts : List (List ActorRecord)) (J : List ActorRecord)
    → ((who : ℕ) → member_of ms who ≡ fresh_member)
    → (ran : PhasesRan script.phases (before_any sources) ms k ns) → IsLegal step k.start k.book
    → parts ≡ map (λ (m : Member). m.records) ns → length parts ≡ length script.actors
    → J ≡ walk k.book parts → (run : IsRunOf script sources k.book J) × ((n : ℕ) → run.ends n ≡ ends script.phases (before_any sources) ms k ns ran n)
run_is_of script sources ms k ns parts J idle ran legal are many is =
    let h = before_any sources in
    let start : k.start ≡ opened sources = start_stays script.phases h ms k ns ran in
    let total = ends script.phases h ms k ns ran in
    let u = rules sources total in
    let first = first_mind script.phases in
    let finals : ℕ → Stand ActorMind (List Named) = λ who. stand (member_work k (member_of ns who)) (between (member_of ns who).own []) in
    let agrees : (who : ℕ) → AgreesWith u (opened sources) (first who) who k.book (parts_of parts who) (finals who)
    = λ who.
    let begun : Stands sources total (first who) who (member_work h fresh_member) (between fresh_own (phases_todo who 0 script.phases)) = refl in
    let stands = phases_stand script.phases h ms k ns ran total 0 (λ n. ap total (let e : 0 + n ≡ n = omega arith in e)) who (first who) sources (seen_back sources)
    (subst (λ (m : Member). Stands sources total (first who) who (member_work h m) (between m.own (phases_todo who 0 script.phases))) (sym (idle who)) begun) in
    subst (λ (s : State). AgreesWith u s (first who) who k.book (parts_of parts who) (finals who)) start
    (subst (λ (rs : List ActorRecord). AgreesWith u k.start (first who) who k.book rs (finals who)) (sym (ap (λ (l : List (List ActorRecord)). parts_of l who) are ∙ records_of ns who)) stands) in
    let all : AreRecords u (opened sources) first HasNoCommand k.book parts = record {
      legal = subst (λ (s : State). IsLegal step s k.book) start legal;
      stands = finals;
      agrees = agrees;
      finished = λ who. refl;
    } in
    let made = (walks_to_journal u (opened sources) first HasNoCommand k.book parts all).journal in (
      record {
        ends = total;
        rises = λ phase. subst (λ (n : ℕ). total phase ≤ total n) (let e : suc phase ≡ phase + 1 = omega arith in e) (ends_rise script.phases h ms k ns ran phase);
        journal = subst (λ (n : ℕ). IsJournal u (opened sources) first HasNoCommand n k.book J) many
            (subst (λ (l : List ActorRecord). IsJournal u (opened sources) first HasNoCommand (length parts) k.book l) (sym is) made);
      },
      λ n. refl,
    )
