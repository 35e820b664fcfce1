-- When the records of one actor agree with a history.
use Rattle.std.specs.Prelude.{◌≡◌, ℕ, ◌+◌, ◌==◌, ⊤, List, [], ◌∷◌, ◌++◌, None}
use Rattle.std.specs.Bool.{MatchBool}
use Rattle.turn_hall.specs.declared.entry.Entry.{Entry}
use Rattle.actor_records.specs.declared.record.Record.{Record}
use Rattle.actor_records.specs.declared.record.Did.{Did}
use Rattle.actor_records.specs.declared.record.Did.TheVariants.{Core, Local, Starved}
use Rattle.actor_records.specs.Records.{core_record}
use Rattle.actor_records.specs.Rules.{Rules}

-- where an actor stands: the number of its last core record, or 0; how many records it has since then; what it held after that
-- core record; and what it has in mind
pub record Stand (M H : Type 0) : Type 0 where
  pub after : ℕ
  pub index : ℕ
  pub held : H
  pub mind : M

module _ {S N R C A T M H : Type 0} (u : Rules S N R C A T M H) where
  abbrev pub mind_after : M → H → Did N R C A T → M
  mind_after m held (Core note reply) = u.told m note reply
  mind_after m held (Local command reply) = (u.local m held command).1
  mind_after m held (Starved head) = u.starved m

  -- a local record has the reply that is due; a core record is none of these
  abbrev pub Answers : M → H → Did N R C A T → Type 0
  Answers m held (Core note reply) = ⊥
  Answers m held (Local command reply) = (u.local m held command).0 ≡ reply
  Answers m held (Starved head) = ⊤

  abbrev pub after_local : Stand M H → Did N R C A T → Stand M H
  after_local at did = record { after = at.after; index = at.index + 1; held = at.held; mind = mind_after at.mind at.held did }

  -- after the core record of the entry at the place n, which left the state s
  abbrev pub after_core : ℕ → ℕ → S → Stand M H → Entry N R → Stand M H
  after_core w n s at e = record { after = n; index = 0; held = u.holds s w; mind = u.told at.mind e.note e.reply }

  -- the next record of an actor, where it is no core record
  pub record IsLocal (w : ℕ) (at : Stand M H) (r : Record N R C A T) : Type 0 where
    pub number : r.number ≡ None
    pub after : r.after ≡ at.after
    pub index : r.index ≡ at.index + 1
    pub who : r.who ≡ w
    pub due : u.Due at.after at.mind r.did
    pub answers : Answers at.mind at.held r.did

  -- records without a core record among them lead from one stand to another
  abbrev pub AreLocals : ℕ → Stand M H → List (Record N R C A T) → Stand M H → Type 0
  AreLocals w at [] to = to ≡ at
  AreLocals w at (r ∷ rs) to = IsLocal w at r × AreLocals w (after_local at r.did) rs to

  -- the records reach their first core record, which is that of the entry at the place n, and what comes behind goes on
  pub record Reaches (w n : ℕ) (at : Stand M H) (e : Entry N R) (rs : List (Record N R C A T)) (GoesOn : Stand M H → List (Record N R C A T) → Type 0) : Type 0 where
    pub locals : List (Record N R C A T)
    pub more : List (Record N R C A T)
    pub here : Stand M H
    pub parts : rs ≡ locals ++ core_record n e ∷ more
    pub before : AreLocals w at locals here
    pub due : u.Due n here.mind (Core e.note e.reply)
    pub behind : GoesOn here more

  -- the records of an actor agree with the history that comes after n entries, which left the state s, and lead from one stand
  -- to another: its core records are exactly its entries
  abbrev pub Agrees : ℕ → ℕ → S → Stand M H → List (Entry N R) → List (Record N R C A T) → Stand M H → Type 0
  Agrees w n s at [] rs to = AreLocals w at rs to
  Agrees w n s at (e ∷ es) rs to =
      let t = (u.step s e.who e.note).1 in
      MatchBool (e.who == w)
      (Reaches w (n + 1) at e rs (λ here more. Agrees w (n + 1) t (after_core w (n + 1) t here e) es more to))
      (Agrees w (n + 1) t at es rs to)

  -- where an actor w stands that has done nothing
  abbrev pub fresh : ℕ → S → M → Stand M H
  fresh w s m = record { after = 0; index = 0; held = u.holds s w; mind = m }

  -- the records of an actor agree with a history from its start, and leave the actor at this stand
  abbrev pub AgreesWith : S → M → ℕ → List (Entry N R) → List (Record N R C A T) → Stand M H → Type 0
  AgreesWith start m w history rs to = Agrees w 0 start (fresh w start m) history rs to
