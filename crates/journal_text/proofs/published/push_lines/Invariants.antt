use Rattle.std.proofs.Common.{◌≡◌, ◌++◌, take}
use Rattle.journal_text.specs.Published.{published_line}
use Rattle.std.specs.List.{flat_map}
use Rattle.journal_text.proofs.published.push_lines.Given as goal

abbrev pub invariant-loop-info : goal.invariant-loop-info
invariant-loop-info l = l.text ≡ l.initial.text ++ flat_map (published_line l.names) (take l.info-index l.infos)
