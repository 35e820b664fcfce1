use Rattle.std.proofs.Common.{List, sym, subst}
use Rattle.std.specs.Prelude.{Contains}
use Rattle.catalogue_state.specs.declared.parts.Line.{Line}
use Rattle.catalogue.specs.Kept.{IsShort}
use Rattle.catalogue.proofs.lines.Lines.append.Goals as goal

pub add_to_line-requires : goal.add_to_line-requires
add_to_line-requires c = subst (λ (ls : List Line). (l : Line) → Contains ls l → IsShort l) (sym c.self.view_is) c.requires
