use Rattle.model.proofs.listing_law_stands.Goals as goal
use Rattle.model.proofs.Listings.{written}

pub returns : goal.returns
returns c s r S C o = written s r o C.placed.tree C.placed.copies
