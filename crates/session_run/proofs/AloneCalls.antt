-- Calls of an actor on a catalogue that it has to itself.
use Rattle.std.proofs.Common.{◌≡◌, ◌≢◌, ◌∙◌, ℕ, ◌+◌, ◌≤◌, List, [], ◌∷◌, ◌++◌, length, length-append, append-nil, if◌then◌else◌, ne_eqb, Bool, refl, sym, ap, arith}
use Rattle.std.specs.Prelude.{Some, Result, Ok, Err, OnErr}
use Rattle.turn_hall.specs.Replay.{entry, entries_of}
use Rattle.turn_hall.proofs.Merging.{same_entries}
use Rattle.actor_records.specs.declared.record.Did.TheVariants.{Core}
use Rattle.catalogue_state.specs.declared.ask.Ask.{Ask}
use Rattle.catalogue_state.specs.declared.reply.Reply.{Reply}
use Rattle.catalogue_hall.specs.declared.held.Named.{Named}
use Rattle.catalogue_hall.specs.History.{History, held_by}
use Rattle.session_run.specs.declared.place.Place.{Place}
use Rattle.session_run.specs.Own.{OwnPart, own_told}
use Rattle.session_run.specs.Record.{ActorRecord}
use Rattle.session_run.specs.Turns.{CallEnds, work}
use Rattle.session_run.specs.Ran.{OnlyOwn}

pub own_none : (who : ℕ) (h : History) → OnlyOwn who 0 h h
own_none who h = record { others = λ other differ. refl; few = omega arith }

pub own_on : (who a b most : ℕ) (h k g : History) → a + b ≤ most → OnlyOwn who a h k → OnlyOwn who b k g → OnlyOwn who most h g
own_on who a b most h k g within u v =
    let one = u.few in let two = v.few in
    record { others = λ other differ. v.others other differ ∙ u.others other differ; few = omega arith }

pub own_same : (who most : ℕ) (h k : History) → k ≡ h → OnlyOwn who most h k
own_same who most h k same =
    let long = ap (λ (x : History). length x.book) same in
    record { others = λ other differ. ap (λ (x : History). entries_of other x.book) same; few = omega arith }

not_its : (who other : ℕ) (ask : Ask) (reply : Reply) → other ≢ who → entries_of other (entry who ask reply ∷ []) ≡ []
not_its who other ask reply differ = ap (λ (b : Bool). if b then (entry who ask reply ∷ []) else []) (ne_eqb who other (λ same. differ (sym same)))

pub own_call : (who : ℕ) (h k : History) (ask : Ask) (reply : Reply) → k ≡ record { start = h.start; book = h.book ++ entry who ask reply ∷ [] } → OnlyOwn who 1 h k
own_call who h k ask reply is =
    let book = ap (λ (x : History). x.book) is in
    let long = ap length book ∙ length-append h.book (entry who ask reply ∷ []) in
    record {
      others = λ other differ. ap (entries_of other) book ∙ same_entries other h.book (entry who ask reply ∷ []) (not_its who other ask reply differ);
      few = omega arith;
    }

-- what a call leaves that was answered: no other call came between
pub alone_answered : (h k : History) (held held' : List Named) (own own' : OwnPart) (place : Place) (records records' : List ActorRecord) (who : ℕ) (ask : Ask) (reply : Reply) (number : ℕ)
    → k ≡ record { start = h.start; book = h.book ++ entry who ask reply ∷ [] } → held' ≡ held_by k who → number ≡ length k.book → own' ≡ own_told own ask reply
    → records' ≡ records ++ record { number = Some number; after = 0; index = 0; who = who; did = Core ask reply } ∷ []
    → CallEnds (work h held own place records) who ask (Some reply) (work k held' own' (record { after = number; index = 0 }) records')
alone_answered h k held held' own own' place records records' who ask reply number is hd n o rs =
    let e = entry who ask reply in
    let whole : k ≡ record { start = h.start; book = (h.book ++ []) ++ e ∷ [] } = is ∙ ap (λ l. record { start = h.start; book = l ++ e ∷ [] }) (sym (append-nil h.book)) in
    let holds = hd ∙ ap (λ (x : History). held_by x who) whole in
    let many : number ≡ length (h.book ++ []) + 1 = n ∙ ap (λ (x : History). length x.book) whole ∙ length-append (h.book ++ []) (e ∷ []) in
    let all = rs ∙ ap (λ (m : ℕ). records ++ record { number = Some m; after = 0; index = 0; who = who; did = Core ask reply } ∷ []) many in
    ([], refl, λ i. record { history = whole i; held = holds i; own = o i; place = record { after = many i; index = 0 }; records = all i })

-- what holds anyway holds where there is an error
pub on_err : {T E P : Type 0} (r : Result T E) → P → OnErr r P
on_err (Ok x) p = tt
on_err (Err e) p = p
