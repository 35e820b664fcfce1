use Rattle.std.proofs.Common.{◌≡◌, false, Option, Some, None, Bor, sym, ap, subst, ◌∙◌, arith}
use Rattle.std.specs.Prelude.{is_some}
use Rattle.std.specs.Option.{option_copied}
use Rattle.std.specs.List.{insert}
use Rattle.column_types.specs.declared.kind.Kind.{Kind}
use Rattle.graph_schema.specs.declared.schema.Prop.{Prop}
use Rattle.transient_props.specs.Transients.{Transient, column_of, entries_of, prop_of, ChangesOnly}
use Rattle.transient_props.proofs.Kept.{as_long}
use Rattle.transient_props.proofs.Putting.{place_in, place_within, added_kept, added_changes}
use Rattle.transient_props.proofs.transients.Transients.add.Goals as goal

pub insert_both-requires-clause-first_place : goal.insert_both-requires-clause-first_place
insert_both-requires-clause-first_place c =
    let ps = c.self.inside.props.items in
    let place : c.place_for-place.result ≡ place_in c.args.name ps =
    c.place_for-place.ensures ∙ ap (λ n. place_in n c.as_slice.result.now) c.as_str-2.ensures ∙ ap (place_in c.args.name) c.as_slice.ensures.value in
    omega (arith, place, place_within ps c.args.name, c.self.inside.props.ok.0)

pub insert_both-requires-clause-second_place : goal.insert_both-requires-clause-second_place
insert_both-requires-clause-second_place c =
    let ps = c.self.inside.props.items in
    let place : c.place_for-place.result ≡ place_in c.args.name ps =
    c.place_for-place.ensures ∙ ap (λ n. place_in n c.as_slice.result.now) c.as_str-2.ensures ∙ ap (place_in c.args.name) c.as_slice.ensures.value in
    omega (arith, place, place_within ps c.args.name, as_long ps c.self.inside.columns.items c.self.invariant, c.self.inside.columns.ok.0)

-- ---- where the property is added

-- the entry that is added
abbrev entry : (c : goal.In_ok-insert_both) → Transient
entry c = record { name = c.args.name; column = c.args.column }

place_is : (c : goal.In_ok-insert_both) → c.place_for-place.result ≡ place_in c.args.name c.self.inside.props.items
place_is c =
    c.place_for-place.ensures ∙ ap (λ n. place_in n c.as_slice.result.now) c.as_str-2.ensures ∙ ap (place_in c.args.name) c.as_slice.ensures.value

none_found : {X : Type 0} (r : Option (Bor X)) (found : Option X) → is_some r ≡ false → option_copied r ≡ found → found ≡ None
none_found None found none is = sym is
none_found (Some x) found none is = cc

-- no entry has the name
is_free : (c : goal.In_ok-insert_both) → column_of (entries_of c.self.inside.props.items c.self.inside.columns.items) c.args.name ≡ None
is_free c =
    let none : is_some c.get.result ≡ false = sym c.is_some.ensures ∙ c.if-is_some.false in
    ap (λ ts. column_of ts c.args.name) c.self.view_is
    ∙ none_found c.get.result (column_of c.args.self.now c.args.name) none (c.get.ensures ∙ ap (column_of c.args.self.now) c.as_str-else-is_vertex_prop.ensures)

props_are : (c : goal.In_ok-insert_both) → c.insert_both.new.firsts.items ≡ insert c.self.inside.props.items (place_in c.args.name c.self.inside.props.items) (prop_of (entry c))
props_are c =
    let ps = c.self.inside.props.items in
    let prop : Kind → Prop = λ kind. record { name = c.args.name; kind = kind } in
    c.in_ok-insert_both.ensures.firsts_grow ∙ ap (λ i. insert ps i (prop c.kind.result)) (place_is c) ∙ ap (λ kind. insert ps (place_in c.args.name ps) (prop kind)) c.kind.ensures

columns_are : (c : goal.In_ok-insert_both) → c.insert_both.new.seconds.items ≡ insert c.self.inside.columns.items (place_in c.args.name c.self.inside.props.items) c.args.column
columns_are c = c.in_ok-insert_both.ensures.seconds_grow ∙ ap (λ i. insert c.self.inside.columns.items i c.args.column) (place_is c)

pub invariant_of-self-2 : goal.invariant_of-self-2
invariant_of-self-2 c =
    added_kept c.self.inside.props.items c.self.inside.columns.items (entry c) c.insert_both.new.firsts.items c.insert_both.new.seconds.items c.self.invariant (is_free c) (props_are c) (columns_are c)

pub returns-clause-added : goal.returns-clause-added
returns-clause-added c =
    let ps = c.self.inside.props.items in
    let cs = c.self.inside.columns.items in
    let qs = c.insert_both.new.firsts.items in
    let ds = c.insert_both.new.seconds.items in
    subst (λ ts. ChangesOnly ts (entries_of qs ds) c.args.name (Some c.args.column)) c.self.view_is
    (added_changes ps cs (entry c) qs ds c.self.invariant (is_free c) (props_are c) (columns_are c))
