use Rattle.std.proofs.Common.{◌-◌, w64}
use Rattle.std.proofs.lemmas.Int.{to_z-of_z}
use Rattle.std.proofs.lemmas.Result.{on_ok_weaker}
use Rattle.changeset.specs.declared.state.VertexState.{VertexState}
use Rattle.changeset.specs.Overlay.{told}
use Rattle.changeset.proofs.Written.{put_state}
use Rattle.changeset.proofs.overlay.Overlay.lower.Goals as goal

pub returns : goal.returns
returns c =
    let g = c.args.base.now in
    let read = rw (to_z-of_z w64 c.args.key c.ranges.key) at c.vertex-state.ensures in
    let wrote = rw (to_z-of_z w64 c.args.key c.ranges.key) at c.put_vertex.ensures in
    on_ok_weaker c.put_vertex.result
    (λ all. put_state (told g c.args.self.now) (told g c.put_vertex.new.self) c.args.table c.args.key (λ x. let y : VertexState = record { there = x.there; ends = x.ends - 1 } in y) c.vertex-state.result (rw c.saturating_sub.ensures at (all g)) read)
    wrote
