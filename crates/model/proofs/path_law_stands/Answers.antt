use Rattle.model.proofs.path_law_stands.Goals as goal
use Rattle.model.proofs.Complete.{sound_listed, complete_listed}

pub returns : goal.returns
returns c s r S C u w hu hw = (sound_listed S C hu, complete_listed S C hu hw)
