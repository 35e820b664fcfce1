use Rattle.std.proofs.Common.{◌≡◌, ◌++◌, ◌∷◌, [], length, map, ap, ◌∙◌, arith}
use Rattle.std.proofs.lemmas.Result.{on_ok_weaker}
use Rattle.std.proofs.lemmas.List.Sums.{sum_by-cons}
use Rattle.graph_slots.specs.declared.slot.SlotName.TheVariants.{VertexKey}
use Rattle.graph_slots.specs.Meaning.{longs}
use Rattle.delta_fold.specs.declared.slots.TableName.TheVariants.{Vertices}
use Rattle.delta_fold.specs.Pieces.{Piece, prop_slot_of, prop_pieces, picked, picked_steps}
use Rattle.delta_fold.proofs.PieceLists.{slots_more, vertex_props_few}
use Rattle.delta_fold.proofs.slots.push_vertex_table.Goals as goal

pub push_props-requires-clause-few : goal.push_props-requires-clause-few
push_props-requires-clause-few g c = omega (arith, c.requires.width, vertex_props_few c.args.base.now.schema c.args.table c.sound.ensures.schema c.requires.table)

pub push_props-requires-clause-slots : goal.push_props-requires-clause-slots
push_props-requires-clause-slots g c = λ p h. (c.requires.table, omega (arith, h, c.requires.width))

pub returns-clause-slots : goal.returns-clause-slots
returns-clause-slots g c =
    let f = picked c.args.base.now.schema c.args.marks.now in
    let key : Piece = record { name = VertexKey c.args.table; part = longs c.args.columns.keys; steps = length c.args.columns.keys } in
    let props = prop_pieces (prop_slot_of (Vertices c.args.table)) 0 c.args.columns.values in
    let first : c.push.new.self ≡ c.args.derived.now ++ map f (key ∷ []) = c.in_ok-push.ensures.ok ∙ ap (λ d. c.args.derived.now ++ d ∷ []) c.in_ok-key_slot.ensures.slot in
    on_ok_weaker c.push_props.result (λ grown. slots_more f (key ∷ []) props c.args.derived.now c.push.new.self c.push_props.new.derived first grown) c.push_props.ensures.slots

pub returns-clause-counted : goal.returns-clause-counted
returns-clause-counted g c =
    let key : Piece = record { name = VertexKey c.args.table; part = longs c.args.columns.keys; steps = length c.args.columns.keys } in
    let props = prop_pieces (prop_slot_of (Vertices c.args.table)) 0 c.args.columns.values in
    on_ok_weaker c.push_props.result (λ counted. omega (arith, counted, c.in_ok-key_slot.ensures.counted, sum_by-cons (picked_steps c.args.base.now.schema c.args.marks.now) key props)) c.push_props.ensures.counted
