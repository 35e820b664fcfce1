-- What an actor's turns add to the history and to its records.
use Rattle.std.proofs.Common.{◌≡◌, ℕ, ◌+◌, ◌≤◌, List, [], ◌∷◌, ◌++◌, length, length-append, append-nil, append_assoc, sym, refl, ap, ◌∙◌, arith}
use Rattle.std.specs.Prelude.{Some, slice_get, ◌-◌}
use Rattle.turn_hall.specs.declared.entry.Entry.{Entry}
use Rattle.turn_hall.specs.Replay.{entry}
use Rattle.turn_hall.specs.Seen.{StartsWith}
use Rattle.actor_records.specs.Records.{core_record}
use Rattle.catalogue_state.specs.declared.ask.Ask.{Ask}
use Rattle.catalogue_state.specs.declared.reply.Reply.{Reply}
use Rattle.script_read.specs.declared.script.Command.{Command}
use Rattle.session_run.specs.declared.record.LocalReply.{LocalReply}
use Rattle.session_run.specs.Own.{OwnPart}
use Rattle.session_run.specs.Record.{ActorRecord}
use Rattle.session_run.specs.Turns.{Work, answered, starved, done_locally, behind, behind_last, place_after}
use Rattle.session_run.specs.Ran.{Grew}

-- histories that begin one another
pub begins_itself : {N R : Type 0} (xs : List (Entry N R)) → StartsWith xs xs
begins_itself xs = ([], sym (append-nil xs))

pub begins_on : {N R : Type 0} (xs ys zs : List (Entry N R)) → StartsWith ys xs → StartsWith zs ys → StartsWith zs xs
begins_on xs ys zs a b = (a.0 ++ b.0, b.1 ∙ ap (λ l. l ++ b.0) a.1 ∙ append_assoc xs a.0 b.0)

pub begins_shorter : {N R : Type 0} (xs ys : List (Entry N R)) → StartsWith ys xs → length xs ≤ length ys
begins_shorter xs ys a = let all = ap length a.1 ∙ length-append xs a.0 in omega arith

-- nothing was done
pub grew_none : (w : Work) → Grew 0 w w
grew_none w = record {
  start = refl;
  begins = begins_itself w.history.book;
  added = [];
  records = sym (append-nil w.records);
  few = omega arith;
}

-- one more record
one_more : (records : List ActorRecord) (r : ActorRecord) → length (records ++ r ∷ []) ≡ length records + 1
one_more records r = length-append records (r ∷ [])

pub answered_records : (w : Work) (between : List (Entry Ask Reply)) (who : ℕ) (ask : Ask) (reply : Reply) → length (answered w between who ask reply).records ≡ length w.records + 1
answered_records w between who ask reply = one_more w.records _

pub starved_records : (w : Work) (who : ℕ) (head : List ℕ) → length (starved w who head).records ≡ length w.records + 1
starved_records w who head = one_more w.records _

pub locally_records : (w : Work) (who : ℕ) (command : Command) (reply : LocalReply) (own : OwnPart) → length (done_locally w who command reply own).records ≡ length w.records + 1
locally_records w who command reply own = one_more w.records _

at_end : (xs : List ActorRecord) (x : ActorRecord) → slice_get (xs ++ x ∷ []) (length xs) ≡ Some x
at_end [] x = refl
at_end (y ∷ xs) x = at_end xs x

-- the next record stands behind the one that came last
pub place_behind : (records : List ActorRecord) (r : ActorRecord) → behind r.number r.after r.index ≡ place_after (records ++ r ∷ [])
place_behind records r =
    let long = one_more records r in
    let there : length (records ++ r ∷ []) - 1 ≡ length records = omega arith in
    sym (ap behind_last (ap (slice_get (records ++ r ∷ [])) there ∙ at_end records r))

-- a core call
pub grew_answered : (most : ℕ) (w v : Work) (between : List (Entry Ask Reply)) (who : ℕ) (ask : Ask) (reply : Reply) → Grew most w v
    → Grew (most + 1) w (answered v between who ask reply)
grew_answered most w v between who ask reply g =
    let r : ActorRecord = core_record (length (v.history.book ++ between) + 1) (entry who ask reply) in
    let more = one_more g.added r in
    let few = g.few in
    record {
      start = g.start;
      begins = begins_on w.history.book v.history.book _ g.begins (between ++ entry who ask reply ∷ [], append_assoc v.history.book between (entry who ask reply ∷ []));
      added = g.added ++ r ∷ [];
      records = ap (λ l. l ++ r ∷ []) g.records ∙ append_assoc w.records g.added (r ∷ []);
      few = omega arith;
    }

-- a record without a core call
grew_record : (most : ℕ) (w v x : Work) (r : ActorRecord) → x.history ≡ v.history → x.records ≡ v.records ++ r ∷ [] → Grew most w v → Grew (most + 1) w x
grew_record most w v x r same more g =
    let long = one_more g.added r in
    let few = g.few in
    record {
      start = ap (λ h. h.start) same ∙ g.start;
      begins = (g.begins.0, ap (λ h. h.book) same ∙ g.begins.1);
      added = g.added ++ r ∷ [];
      records = more ∙ ap (λ l. l ++ r ∷ []) g.records ∙ append_assoc w.records g.added (r ∷ []);
      few = omega arith;
    }

pub grew_starved : (most : ℕ) (w v : Work) (who : ℕ) (head : List ℕ) → Grew most w v → Grew (most + 1) w (starved v who head)
grew_starved most w v who head g = grew_record most w v (starved v who head) _ refl refl g

pub grew_locally : (most : ℕ) (w v : Work) (who : ℕ) (command : Command) (reply : LocalReply) (own : OwnPart) → Grew most w v
    → Grew (most + 1) w (done_locally v who command reply own)
grew_locally most w v who command reply own g = grew_record most w v (done_locally v who command reply own) _ refl refl g

-- a greater bound holds as well
pub grew_within : (most more : ℕ) (w v : Work) → most ≤ more → Grew most w v → Grew more w v
grew_within most more w v within g =
    let few = g.few in record { start = g.start; begins = g.begins; added = g.added; records = g.records; few = omega arith }

-- one thing after another
pub grew_on : (a b : ℕ) (w v x : Work) → Grew a w v → Grew b v x → Grew (a + b) w x
grew_on a b w v x g h =
    let long = length-append g.added h.added in
    let few = g.few in let few' = h.few in
    record {
      start = h.start ∙ g.start;
      begins = begins_on w.history.book v.history.book x.history.book g.begins h.begins;
      added = g.added ++ h.added;
      records = h.records ∙ ap (λ l. l ++ h.added) g.records ∙ append_assoc w.records g.added h.added;
      few = omega arith;
    }

-- the history never gets shorter
pub longer_book : (most : ℕ) (w v : Work) → Grew most w v → length w.history.book ≤ length v.history.book
longer_book most w v g = begins_shorter w.history.book v.history.book g.begins

-- the records grow by at most so many
pub longer_records : (most : ℕ) (w v : Work) → Grew most w v → length v.records ≤ length w.records + most
longer_records most w v g = let all = ap length g.records ∙ length-append w.records g.added in let few = g.few in omega arith
