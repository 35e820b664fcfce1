use Rattle.std.proofs.Common.{◌≢◌, ◌∷◌, [], None, inl, inr, sym, subst, arith}
use Rattle.std.specs.Prelude.{Contains}
use Rattle.std.proofs.lemmas.List.Elements.{Contains-append_left, Contains-push, Contains-push_cases}
use Rattle.algo_core.specs.Peeling.{core_of}
use Rattle.algo_core.proofs.peel.peel_some.Goals as goal

pub peel_wave-requires-clause-queued : goal.peel_wave-requires-clause-queued
peel_wave-requires-clause-queued g c κs within = rw c.as_slice.ensures.value c.requires.queued

pub peel_vertex-requires-clause-vertex : goal.peel_vertex-requires-clause-vertex
peel_vertex-requires-clause-vertex g c =
    (c.requires.queued c.in-Some.v (subst (λ l. Contains l c.in-Some.v) (sym c.in-Some.ensures.items) (Contains-push c.pop.new.self.items c.in-Some.v))).0

pub returns-clause-queued : goal.returns-clause-queued
returns-clause-queued g c =
    let e = c.in_ok-peel_vertex.ensures in
    λ w h.
    elim (e.queued w h) [
      | inl early ↦
          (let q = c.requires.queued w (subst (λ l. Contains l w) (sym c.in-Some.ensures.items) (Contains-append_left c.pop.new.self.items (c.in-Some.v ∷ []) w early)) in
          (q.0, omega (arith, q.1, e.less w)))
      | inr got ↦ got
    ]

pub returns-clause-done : goal.returns-clause-done
returns-clause-done g c =
    let e = c.in_ok-peel_vertex.ensures in
    λ w h.
    elim (Contains-push_cases c.pop.new.self.items c.in-Some.v w (subst (λ l. Contains l w) c.in-Some.ensures.items h)) [
      | inl early ↦ inl (e.stays w early)
      | inr same ↦ inr (subst (λ x. core_of c.peel_vertex.new.cores x ≢ None) same e.gone)
    ]
