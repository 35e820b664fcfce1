use Rattle.std.proofs.Common.{[], ◌∷◌, ◌++◌, ap, sym, ◌∙◌}
use Rattle.std.specs.Prelude.{position}
use Rattle.std.specs.Ordering.{int_eq}
use Rattle.std.proofs.lemmas.Result.{on_ok_weaker}
use Rattle.graph_columns.proofs.Tables.{is_keys, keys_told}
use Rattle.graph_columns.proofs.Pushed.{edge_parts_pushed}
use Rattle.graph_columns.proofs.table_parts.push_edge_table.Goals as goal

pub push_index-requires-clause-keys : goal.push_index-requires-clause-keys
push_index-requires-clause-keys g c =
    is_keys c.args.columns.keys c.in_ok-share.field-0 (c.in_ok-share.ensures ∙ c.in_ok-column.ensures ∙ c.finish-key_column.ensures.column ∙ c.of_longs.ensures)

pub push_index-requires-clause-places : goal.push_index-requires-clause-places
push_index-requires-clause-places g c = λ k.
    c.requires.places k
    ∙ ap (position (λ q. int_eq q k)) (sym (keys_told c.args.columns.keys c.in_ok-share.field-0 (c.in_ok-share.ensures ∙ c.in_ok-column.ensures ∙ c.finish-key_column.ensures.column ∙ c.of_longs.ensures)))

pub returns-clause-indexes : goal.returns-clause-indexes
returns-clause-indexes g c =
    on_ok_weaker c.push_props.result
    (λ grown. c.in_ok-push_index.ensures ∙ ap (λ ks. c.args.indexes.now ++ ks ∷ []) (keys_told c.args.columns.keys c.in_ok-share.field-0 (c.in_ok-share.ensures ∙ c.in_ok-column.ensures ∙ c.finish-key_column.ensures.column ∙ c.of_longs.ensures)))
    c.push_props.ensures.parts

pub returns-clause-parts : goal.returns-clause-parts
returns-clause-parts g c =
    on_ok_weaker c.push_props.result
    (λ grown. edge_parts_pushed c.args.columns c.in_ok-column.column c.args.parts.now c.push.new.self c.push_ends.new.parts c.push_props.new.parts
    (c.in_ok-column.ensures ∙ c.finish-key_column.ensures.column ∙ c.of_longs.ensures) c.in_ok-push.ensures.ok c.in_ok-push_ends.ensures.parts grown)
    c.push_props.ensures.parts
