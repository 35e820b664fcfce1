use Rattle.graph_columns.proofs.AllSteps.{all_steps, slot_long, sources_long, destinations_long}
use Rattle.graph_columns.proofs.laws.slots_take_all_steps.Goals as goal

pub returns : goal.returns
returns c =
    let g = c.args.graph.now in
    record { columns = slot_long g; out = sources_long g; into = destinations_long g; all = all_steps g c.sound.ensures }
