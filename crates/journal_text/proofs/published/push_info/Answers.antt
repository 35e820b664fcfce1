use Rattle.std.proofs.Common.{◌++◌, ap, ◌∙◌, map}
use Rattle.std.proofs.lemmas.Result.{on_ok_weaker}
use Rattle.journal_text.specs.Lines.{spaced}
use Rattle.journal_text.specs.Published.{snap_text, published_words}
use Rattle.journal_text.proofs.LinesTold.{two_parts}
use Rattle.journal_text.proofs.published.push_info.Goals as goal

pub returns-clause-ok : goal.returns-clause-ok
returns-clause-ok c =
    let info = c.args.info.now in
    on_ok_weaker c.push-3.result
    (λ e. e ∙ two_parts c.args.text.now info.name (published_words c.args.names.now info) (map snap_text info.snaps) c.push.new.self c.push-2.new.self c.push_published.new.text c.push_snaps.new.text
    c.in_ok-push.ensures.ok
    (c.in_ok-push-2.ensures.ok ∙ ap (λ name. c.push.new.self ++ name) c.as_str.ensures)
    c.in_ok-push_published.ensures.ok
    (c.in_ok-push_snaps.ensures.ok ∙ ap (λ snaps. c.push_published.new.text ++ spaced (map snap_text snaps)) c.as_slice.ensures))
    c.push-3.ensures.ok
