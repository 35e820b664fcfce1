-- What a row does to the open changes, in words of its own.
use Rattle.std.specs.Prelude.{◌≡◌, ℕ, ◌+◌, ◌++◌, List, [], ◌∷◌, length, Result, Ok}
use Rattle.graph_model.specs.declared.change.Change.{Change}
use Rattle.change_feed.specs.declared.fault.FeedFault.{FeedFault}
use Rattle.session_run.specs.Own.{OwnPart}

-- what was read is one change; it stands behind those that were open, and all are counted
pub record AddsOne (own : OwnPart) (read : Result (List Change) FeedFault) (n : ℕ) (left : OwnPart) : Type 0 where
  pub change : Change
  pub row : read ≡ Ok (change ∷ [])
  pub behind : left.open ≡ own.open ++ change ∷ []
  pub count : n ≡ length own.open + 1
