use Rattle.std.proofs.Common.{◌∙◌, ap}
use Rattle.column_reclaim.specs.Registry.{ids_of, count_of}
use Rattle.catalogue_state.specs.State.{State}
use Rattle.catalogue.specs.Registry.{Rows}
use Rattle.catalogue.proofs.Keys.{keys_are_reach}
use Rattle.catalogue.proofs.catalogue.Catalogue.registry.Goals as goal

pub returns-clause-numbers : goal.returns-clause-numbers
returns-clause-numbers c =
    let in_ = c.self.inside in
    let m : State = record { sources = in_.sources; lines = in_.lines; sessions = in_.sessions; next_sid = in_.next_sid; next_column = in_.next_column } in
    rw (← c.self.view_is) (ap (λ (l : Rows). ids_of l) c.list.ensures.rows ∙ keys_are_reach m in_.registry.rows c.self.invariant.registry)

pub returns-clause-counts : goal.returns-clause-counts
returns-clause-counts c = λ k. rw (← c.self.view_is) (ap (λ (l : Rows). count_of l k) c.list.ensures.rows ∙ c.self.invariant.registry.counts k)

pub returns-clause-parts : goal.returns-clause-parts
returns-clause-parts c = rw (← c.self.view_is, c.list.ensures.rows) c.self.invariant.registry.parts
