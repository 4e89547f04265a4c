use Rattle.graphs.specs.Rows.{Holds, width}
use Rattle.graphs.proofs.Rows.{has_none}
use Rattle.graphs.proofs.row.Row.empty.Goals as goal

pub returns : goal.returns
unfolding Holds
returns c x h = has_none width x h.1
