use Rattle.nesting.specs.Copies.{under_wrong, lacks_one}
use Rattle.nesting.proofs.copies.check_copies.Goals as goal

pub returns-in-Some : goal.returns-in-Some
returns-in-Some c = under_wrong c.in-Some.ensures

pub returns-in-Some-lacking : goal.returns-in-Some-lacking
returns-in-Some-lacking c = lacks_one c.in_default.ensures c.in-Some-lacking.ensures
