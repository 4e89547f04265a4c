-- Layer, number and place of each fault of layer 2; a fault of reading keeps its own.
use Rattle.formats.specs.Faults.{reading_fault}
use Rattle.formats.specs.declared.faults.Fault.{Fault}
use Rattle.rules.specs.declared.faults.NestingFault.{NestingFault}
use Rattle.rules.specs.declared.faults.NestingFault.TheVariants.{Reading, Cycle, WholeEnds, LoopRule, ForkRule, EqualDomains, WrongParent, LacksCopy}

abbrev pub nesting_fault : NestingFault → Fault
nesting_fault (Reading f) = reading_fault f
nesting_fault (Cycle vertex) = record { layer = 2; number = 6; place = vertex }
nesting_fault WholeEnds = record { layer = 2; number = 7; place = 0 }
nesting_fault (LoopRule block) = record { layer = 2; number = 8; place = block }
nesting_fault (ForkRule block) = record { layer = 2; number = 9; place = block }
nesting_fault (EqualDomains block) = record { layer = 2; number = 10; place = block }
nesting_fault (WrongParent copy) = record { layer = 2; number = 11; place = copy }
nesting_fault (LacksCopy copy) = record { layer = 2; number = 12; place = copy }
