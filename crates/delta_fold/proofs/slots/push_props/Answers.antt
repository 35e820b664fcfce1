use Rattle.std.proofs.Common.{◌<◌, ◌+◌, ◌++◌, refl, map, sum_by, arith, rules, subst, sym, ap, ◌∙◌}
use Rattle.std.proofs.lemmas.List.{length_push}
use Rattle.graph_model.proofs.ColumnsOf.{next_item, all_handed}
use Rattle.graph_slots.specs.Numbers.{HasSlot}
use Rattle.delta_fold.specs.Pieces.{prop_slot_of, prop_pieces, picked, picked_steps}
use Rattle.delta_fold.proofs.PieceLists.{props_more, props_take, nothing_more}
use Rattle.delta_fold.proofs.slots.push_props.Goals as goal

pub loop-column-init : goal.loop-column-init
loop-column-init g c = record {
  whole = cc;
  prop = refl;
  done = nothing_more c.args.base.now.schema c.args.marks.now c.args.derived.now c.args.steps.now;
}

pub prop_slot-requires : goal.prop_slot-requires
prop_slot-requires g c =
    let l = c.loop-column in
    let next = next_item l.yielded l.column-iterator.rest.items _ c.args.values c.in-Some.column l.invariant.whole c.in-Some.ensures.steps.0 in
    record { slot = subst (HasSlot c.args.base.now.schema) (sym c.prop_name-name.ensures) (c.requires.slots l.prop (omega (arith, l.invariant.prop, next.0))) }

pub overflow_add-prop : goal.overflow_add-prop
overflow_add-prop g c =
    let l = c.loop-column in
    let next = next_item l.yielded l.column-iterator.rest.items _ c.args.values c.in-Some.column l.invariant.whole c.in-Some.ensures.steps.0 in
    let small : l.prop < 64 = omega (arith, l.invariant.prop, next.0, c.requires.few) in
    search rules

pub loop-column-preserved : goal.loop-column-preserved
loop-column-preserved g c =
    let l = c.loop-column in
    let next = next_item l.yielded l.column-iterator.rest.items _ c.args.values c.in-Some.column l.invariant.whole c.in-Some.ensures.steps.0 in
    let more = length_push l.yielded c.in-Some.column in
    record {
      whole = next.2;
      prop = omega (arith, l.invariant.prop, more);
      done = props_more c.args.base.now.schema c.args.marks.now (prop_slot_of c.args.table) l.prop c.prop_name-name.result l.yielded c.in-Some.column c.in_ok-prop_slot.field-0 c.args.derived.now l.derived c.push.new.self c.args.steps.now l.steps c.prop_slot.new.steps
          c.prop_name-name.ensures l.invariant.prop c.in_ok-prop_slot.ensures.slot c.in_ok-push.ensures.ok c.in_ok-prop_slot.ensures.counted l.invariant.done;
    }

pub returns-clause-slots : goal.returns-clause-slots
returns-clause-slots g c =
    let l = c.loop-column in
    let all = all_handed l.yielded l.column-iterator.rest.items c.args.values l.invariant.whole (omega (arith, l.column-iterator.rest.ok.0, c.in-None.ensures.steps.0)) in
    l.invariant.done.slots_are ∙ ap (λ cs. c.args.derived.now ++ map (picked c.args.base.now.schema c.args.marks.now) (prop_pieces (prop_slot_of c.args.table) 0 cs)) all

pub returns-clause-counted : goal.returns-clause-counted
returns-clause-counted g c =
    let l = c.loop-column in
    let all = all_handed l.yielded l.column-iterator.rest.items c.args.values l.invariant.whole (omega (arith, l.column-iterator.rest.ok.0, c.in-None.ensures.steps.0)) in
    l.invariant.done.took_are ∙ ap (λ cs. c.args.steps.now + sum_by (picked_steps c.args.base.now.schema c.args.marks.now) (prop_pieces (prop_slot_of c.args.table) 0 cs)) all

pub returns-in_err-prop_slot-clause-most : goal.returns-in_err-prop_slot-clause-most
returns-in_err-prop_slot-clause-most g c =
    let l = c.loop-column in
    let next = next_item l.yielded l.column-iterator.rest.items _ c.args.values c.in-Some.column l.invariant.whole c.in-Some.ensures.steps.0 in
    props_take c.args.base.now.schema c.args.marks.now (prop_slot_of c.args.table) l.prop c.prop_name-name.result l.yielded _ c.args.values c.in-Some.column c.args.steps.now l.steps c.prop_slot.new.steps
    c.prop_name-name.ensures l.invariant.prop next.2 l.invariant.done.took_are c.prop_slot.ensures.counted

pub returns-in_err-push-clause-most : goal.returns-in_err-push-clause-most
returns-in_err-push-clause-most g c =
    let l = c.loop-column in
    let next = next_item l.yielded l.column-iterator.rest.items _ c.args.values c.in-Some.column l.invariant.whole c.in-Some.ensures.steps.0 in
    props_take c.args.base.now.schema c.args.marks.now (prop_slot_of c.args.table) l.prop c.prop_name-name.result l.yielded _ c.args.values c.in-Some.column c.args.steps.now l.steps c.prop_slot.new.steps
    c.prop_name-name.ensures l.invariant.prop next.2 l.invariant.done.took_are c.prop_slot.ensures.counted
