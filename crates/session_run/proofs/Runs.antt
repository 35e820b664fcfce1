-- Commands, done call by call and one after another.
use Rattle.std.proofs.Common.{◌≡◌, ℕ, ◌+◌, ◌*◌, ◌<◌, ◌≤◌, inl, inr, Bool, true, false, List, [], ◌∷◌, ◌++◌, length, map, length-append, append_assoc, if◌then◌else◌, sym, refl, ap, ◌∙◌, subst, arith}
use Rattle.std.proofs.lemmas.List.{map-append}
use Rattle.std.specs.Prelude.{Option, Some, None, is_none}
use Rattle.turn_hall.specs.Replay.{entry}
use Rattle.actor_records.specs.Calls.{Todo}
use Rattle.catalogue_state.specs.Bound.{data_of}
use Rattle.catalogue_state.specs.declared.ask.Ask.{Ask}
use Rattle.catalogue_state.specs.declared.reply.Reply.{Reply}
use Rattle.catalogue_state.specs.declared.parts.SourceData.{SourceData}
use Rattle.journal_text.specs.Asks.{ask_text}
use Rattle.script_read.specs.declared.script.Command.{Command}
use Rattle.session_run.specs.Own.{own_local}
use Rattle.session_run.specs.Next.{next_call, is_local}
use Rattle.session_run.specs.Language.{ActorMind, in_phase}
use Rattle.session_run.specs.Turns.{Work, Stands, answered, starved, sources_of, CallEnds, CallStops, LocalEnds}
use Rattle.session_run.specs.Ran.{between, IsAtWork, IsOn, Ran, Stopped, Going}
use Rattle.session_run.proofs.Nexts.{first_call, local_has_none}
use Rattle.session_run.proofs.Growth.{place_behind, starved_records, locally_records, grew_none, grew_answered, grew_starved, grew_locally, grew_within, grew_on, longer_book, longer_records}
use Rattle.session_run.proofs.Stepped.{amid, core_stands, core_starves, local_stands, local_starves}

-- before the first call of a command that is not local
pub going_start : (who : ℕ) (command : Command) (w : Work) → is_local command.form ≡ false → IsAtWork who w → Going who command [] w w
going_start who command w shared at = record {
  work = at;
  grew = grew_none w;
  goes = λ ends phase first later on a.
      let t : Todo Command = record { phase = phase; command = command } in
      subst (λ (b : Bool). Stands (sources_of w) ends first who w (if b then between w.own later else amid (sources_of w) ends first who w.own (t ∷ later) []))
      (sym (first_call command.form w.own shared)) a;
}

-- where the command has a further call, the actor is in the midst of it
still : (who : ℕ) (command : Command) (replies : List Reply) (w v : Work) (ask : Ask) → next_call command v.own replies ≡ Some ask
    → Going who command replies w v → (ends : ℕ → ℕ) (phase : ℕ) (first : ActorMind) (later : List (Todo Command)) → IsOn ends phase w v
    → Stands (sources_of w) ends first who w (between w.own (record { phase = phase; command = command } ∷ later))
    → Stands (sources_of w) ends first who v (amid (sources_of w) ends first who v.own (record { phase = phase; command = command } ∷ later) replies)
still who command replies w v ask due g ends phase first later on a =
    let t : Todo Command = record { phase = phase; command = command } in
    subst (λ (b : Bool). Stands (sources_of w) ends first who v (if b then between v.own later else amid (sources_of w) ends first who v.own (t ∷ later) replies))
    (ap is_none due) (g.goes ends phase first later on a)

-- a call was answered
pub going_answered : (who : ℕ) (command : Command) (replies : List Reply) (w v x : Work) (ask : Ask) (reply : Reply)
    → next_call command v.own replies ≡ Some ask → (result : Option Reply) → result ≡ Some reply → CallEnds v who ask result x
    → Going who command replies w v → Going who command (replies ++ reply ∷ []) w x
going_answered who command replies w v x ask reply due result is ended g =
    let end : CallEnds v who ask (Some reply) x = subst (λ (r : Option Reply). CallEnds v who ask r x) is ended in
    let others = end.0 in
    let shorter = longer_book (length replies) w v g.grew in
    let found = length-append v.history.book others in
    let whole = length-append (v.history.book ++ others) (entry who ask reply ∷ []) in
    subst (λ (x : Work). Going who command (replies ++ reply ∷ []) w x) (sym end.2)
    (record {
      work = record { held = refl; place = place_behind v.records _; index = omega arith };
      grew = grew_within (length replies + 1) (length (replies ++ reply ∷ [])) w (answered v others who ask reply)
          (let more = length-append replies (reply ∷ []) in omega arith) (grew_answered (length replies) w v others who ask reply g.grew);
      goes = λ ends phase first later on a.
          let low = on.0 in let high = on.1 in let t : Todo Command = record { phase = phase; command = command } in
          core_stands (sources_of w) ends first who v t later replies others ask reply end.1 due (omega arith) (omega arith)
          (still who command replies w v ask due g ends phase first later (on.0, omega arith) a);
    })

-- a call found no memory
pub going_starved : (who : ℕ) (command : Command) (replies : List Reply) (w v x : Work) (ask : Ask)
    → length replies < 257 → next_call command v.own replies ≡ Some ask → (result : Option Reply) → result ≡ None → CallEnds v who ask result x
    → Going who command replies w v → Ran who (command ∷ []) w x
going_starved who command replies w v x ask few due result is ended g =
    let end : CallEnds v who ask None x = subst (λ (r : Option Reply). CallEnds v who ask r x) is ended in
    let more = starved_records v who (ask_text ask) in
    let index = g.work.index in
    subst (λ (x : Work). Ran who (command ∷ []) w x) (sym end)
    (record {
      work = record { held = g.work.held; place = place_behind v.records _; index = omega arith };
      grew = grew_within (length replies + 1) (257 * 1) w (starved v who (ask_text ask)) (omega arith) (grew_starved (length replies) w v who (ask_text ask) g.grew);
      leads = λ ends phase first later on a.
          core_starves (sources_of w) ends first who v (record { phase = phase; command = command }) later replies ask (local_has_none command.form v.own replies ask due) due
          (still who command replies w v ask due g ends phase first later on a);
    })

-- the command has no further call
pub going_ended : (who : ℕ) (command : Command) (replies : List Reply) (w v : Work) → length replies ≤ 257 → next_call command v.own replies ≡ None
    → Going who command replies w v → Ran who (command ∷ []) w v
going_ended who command replies w v few none g = record {
  work = g.work;
  grew = grew_within (length replies) (257 * 1) w v (omega arith) g.grew;
  leads = λ ends phase first later on a.
      let t : Todo Command = record { phase = phase; command = command } in
      subst (λ (b : Bool). Stands (sources_of w) ends first who v (if b then between v.own later else amid (sources_of w) ends first who v.own (t ∷ later) replies))
      (ap is_none none) (g.goes ends phase first later on a);
}

-- a local command was done
pub ran_locally : (who : ℕ) (command : Command) (w v : Work) → is_local command.form ≡ true → IsAtWork who w → LocalEnds w who command v → Ran who (command ∷ []) w v
ran_locally who command w v local at (inl done) =
    let due = own_local (sources_of w) w.own w.held command in
    let more = locally_records w who command due.0 due.1 in
    let index = at.index in
    subst (λ (v : Work). Ran who (command ∷ []) w v) (sym done)
    (record {
      work = record { held = at.held; place = place_behind w.records _; index = omega arith };
      grew = grew_within 1 (257 * 1) w _ (omega arith) (grew_locally 0 w w who command due.0 due.1 (grew_none w));
      leads = λ ends phase first later on a. local_stands (sources_of w) ends first who w (record { phase = phase; command = command }) later local a;
    })
ran_locally who command w v local at (inr starves) =
    let more = starved_records w who command.line in
    let index = at.index in
    subst (λ (v : Work). Ran who (command ∷ []) w v) (sym starves)
    (record {
      work = record { held = at.held; place = place_behind w.records _; index = omega arith };
      grew = grew_within 1 (257 * 1) w _ (omega arith) (grew_starved 0 w w who command.line (grew_none w));
      leads = λ ends phase first later on a. local_starves (sources_of w) ends first who w (record { phase = phase; command = command }) later local a;
    })

-- between two calls: the actor's place
pub going_has_room : (who : ℕ) (command : Command) (replies : List Reply) (w v : Work) (records : ℕ) → length replies < 257
    → length w.records + 257 < records → Going who command replies w v → v.place.index < records
going_has_room who command replies w v records few kept g = let index = g.work.index in let more = longer_records (length replies) w v g.grew in omega arith

-- room for the records of one command more, behind some of the commands
pub ran_has_room : (who : ℕ) (cs : List Command) (w v : Work) (n records : ℕ) → length cs + 1 ≤ n → length w.records + 257 * n ≤ records → Ran who cs w v
    → length v.records + 257 ≤ records
ran_has_room who cs w v n records some kept r = let more = longer_records (257 * length cs) w v r.grew in omega arith

-- no command
pub ran_none : (who : ℕ) (w : Work) → IsAtWork who w → Ran who [] w w
ran_none who w at = record { work = at; grew = grew_none w; leads = λ ends phase first later on a. a }

-- commands, and then others
pub ran_on : (who : ℕ) (cs ds : List Command) (w v x : Work) → Ran who cs w v → Ran who ds v x → Ran who (cs ++ ds) w x
ran_on who cs ds w v x r q =
    let count = length-append cs ds in
    let book = longer_book (257 * length cs) w v r.grew in
    let later_book = longer_book (257 * length ds) v x q.grew in
    record {
      work = q.work;
      grew = grew_within (257 * length cs + 257 * length ds) (257 * length (cs ++ ds)) w x (omega arith) (grew_on (257 * length cs) (257 * length ds) w v x r.grew q.grew);
      leads = λ ends phase first later on a.
          let todo : in_phase phase (cs ++ ds) ++ later ≡ in_phase phase cs ++ (in_phase phase ds ++ later)
          = ap (λ l. l ++ later) (map-append _ cs ds) ∙ append_assoc (in_phase phase cs) (in_phase phase ds) later in
          let low = on.0 in let high = on.1 in
          let mid = r.leads ends phase first (in_phase phase ds ++ later) (on.0, omega arith)
          (subst (λ (l : List (Todo Command)). Stands (sources_of w) ends first who w (between w.own l)) todo a) in
          let same : sources_of v ≡ sources_of w = ap (λ s. map data_of s.sources) r.grew.start in
          subst (λ (l : List SourceData). Stands l ends first who x (between x.own later)) same
          (q.leads ends phase first later (omega arith, on.1)
          (subst (λ (l : List SourceData). Stands l ends first who v (between v.own (in_phase phase ds ++ later))) (sym same) mid));
    }

-- ---- where memory ran out

-- between two calls of a command, or behind its last
stopped_at : (who : ℕ) (command : Command) (replies : List Reply) (w v : Work) → length replies ≤ 257 → (b : Bool) → is_none (next_call command v.own replies) ≡ b
    → Going who command replies w v → Stopped who (command ∷ []) w v
stopped_at who command replies w v few true ends g = record {
  work = g.work;
  grew = grew_within (length replies) (257 * 1) w v (omega arith) g.grew;
  done = command ∷ [];
  left = [];
  parts = refl;
  replies = [];
  leads = λ ends' phase first later on a.
      let t : Todo Command = record { phase = phase; command = command } in
      subst (λ (b : Bool). Stands (sources_of w) ends' first who v (if b then between v.own later else amid (sources_of w) ends' first who v.own (t ∷ later) replies))
      ends (g.goes ends' phase first later on a);
}
stopped_at who command replies w v few false goes g = record {
  work = g.work;
  grew = grew_within (length replies) (257 * 1) w v (omega arith) g.grew;
  done = [];
  left = command ∷ [];
  parts = refl;
  replies = replies;
  leads = λ ends phase first later on a.
      let t : Todo Command = record { phase = phase; command = command } in
      subst (λ (b : Bool). Stands (sources_of w) ends first who v (if b then between v.own later else amid (sources_of w) ends first who v.own (t ∷ later) replies))
      goes (g.goes ends phase first later on a);
}

pub going_stopped : (who : ℕ) (command : Command) (replies : List Reply) (w v : Work) → length replies ≤ 257 → Going who command replies w v
    → Stopped who (command ∷ []) w v
going_stopped who command replies w v few g = stopped_at who command replies w v few (is_none (next_call command v.own replies)) refl g

-- before a call was made, or behind it
pub call_stopped : (who : ℕ) (command : Command) (replies : List Reply) (w v x : Work) (ask : Ask)
    → length replies < 257 → next_call command v.own replies ≡ Some ask → CallStops v who ask x → Going who command replies w v → Stopped who (command ∷ []) w x
call_stopped who command replies w v x ask few due (inl same) g =
    subst (λ (x : Work). Stopped who (command ∷ []) w x) (sym same) (going_stopped who command replies w v (omega arith) g)
call_stopped who command replies w v x ask few due (inr told) g =
    let more = length-append replies (told.0 ∷ []) in
    going_stopped who command (replies ++ told.0 ∷ []) w x (omega arith)
    (going_answered who command replies w v x ask told.0 due (Some told.0) refl told.1 g)

-- before a local command was done
pub locally_stopped : (who : ℕ) (command : Command) (w v : Work) → IsAtWork who w → v ≡ w → Stopped who (command ∷ []) w v
locally_stopped who command w v at same = subst (λ (v : Work). Stopped who (command ∷ []) w v) (sym same) (record {
  work = at;
  grew = grew_within 0 (257 * 1) w w (omega arith) (grew_none w);
  done = [];
  left = command ∷ [];
  parts = refl;
  replies = [];
  leads = λ ends phase first later on a. a;
})

-- some commands and others, in a phase
in_phase_on : (phase : ℕ) (cs ds : List Command) (later : List (Todo Command)) → in_phase phase (cs ++ ds) ++ later ≡ in_phase phase cs ++ (in_phase phase ds ++ later)
in_phase_on phase cs ds later = ap (λ l. l ++ later) (map-append _ cs ds) ∙ append_assoc (in_phase phase cs) (in_phase phase ds) later

-- behind commands that are done
pub stopped_behind : (who : ℕ) (cs ds : List Command) (w v x : Work) → Ran who cs w v → Stopped who ds v x → Stopped who (cs ++ ds) w x
stopped_behind who cs ds w v x r q =
    let count = length-append cs ds in
    let book = longer_book (257 * length cs) w v r.grew in
    let later_book = longer_book (257 * length ds) v x q.grew in
    record {
      work = q.work;
      grew = grew_within (257 * length cs + 257 * length ds) (257 * length (cs ++ ds)) w x (omega arith) (grew_on (257 * length cs) (257 * length ds) w v x r.grew q.grew);
      done = cs ++ q.done;
      left = q.left;
      parts = ap (λ l. cs ++ l) q.parts ∙ sym (append_assoc cs q.done q.left);
      replies = q.replies;
      leads = λ ends phase first later on a.
          let low = on.0 in let high = on.1 in
          let mid = r.leads ends phase first (in_phase phase ds ++ later) (on.0, omega arith)
          (subst (λ (l : List (Todo Command)). Stands (sources_of w) ends first who w (between w.own l)) (in_phase_on phase cs ds later) a) in
          let same : sources_of v ≡ sources_of w = ap (λ s. map data_of s.sources) r.grew.start in
          subst (λ (l : List SourceData). Stands l ends first who x (record { own = x.own; todo = in_phase phase q.left ++ later; replies = q.replies })) same
          (q.leads ends phase first later (omega arith, on.1)
          (subst (λ (l : List SourceData). Stands l ends first who v (between v.own (in_phase phase ds ++ later))) (sym same) mid));
    }

-- before commands that were not begun
pub stopped_before : (who : ℕ) (cs ds : List Command) (w v : Work) → Stopped who cs w v → Stopped who (cs ++ ds) w v
stopped_before who cs ds w v q =
    let count = length-append cs ds in
    record {
      work = q.work;
      grew = grew_within (257 * length cs) (257 * length (cs ++ ds)) w v (omega arith) q.grew;
      done = q.done;
      left = q.left ++ ds;
      parts = ap (λ l. l ++ ds) q.parts ∙ append_assoc q.done q.left ds;
      replies = q.replies;
      leads = λ ends phase first later on a.
          subst (λ (l : List (Todo Command)). Stands (sources_of w) ends first who v (record { own = v.own; todo = l; replies = q.replies })) (sym (in_phase_on phase q.left ds later))
          (q.leads ends phase first (in_phase phase ds ++ later) on
          (subst (λ (l : List (Todo Command)). Stands (sources_of w) ends first who w (between w.own l)) (in_phase_on phase cs ds later) a));
    }

-- at the command of a place
pub stopped_amid : (who : ℕ) (cs : List Command) (c : Command) (ds all : List Command) (w v x : Work)
    → all ≡ (cs ++ c ∷ []) ++ ds → Ran who cs w v → Stopped who (c ∷ []) v x → Stopped who all w x
stopped_amid who cs c ds all w v x parts r q =
    subst (λ (l : List Command). Stopped who l w x) (sym parts)
    (stopped_before who (cs ++ c ∷ []) ds w x (stopped_behind who cs (c ∷ []) w v x r q))
