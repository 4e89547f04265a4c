-- Layer, number and place of each fault of layer 3; a fault of a lower layer keeps its own.
use Rattle.formats.specs.declared.faults.Fault.{Fault}
use Rattle.rules.specs.Faults.{nesting_fault}
use Rattle.conformance.specs.declared.faults.ConformanceFault.{ConformanceFault}
use Rattle.conformance.specs.declared.faults.ConformanceFault.TheVariants.{Nesting, Astray, Repeated, MissingStep, NotDerived, NotListed}

abbrev pub conformance_fault : ConformanceFault → Fault
conformance_fault (Nesting f) = nesting_fault f
conformance_fault (Astray step) = record { layer = 3; number = 13; place = step }
conformance_fault (Repeated step) = record { layer = 3; number = 14; place = step }
conformance_fault (MissingStep copy) = record { layer = 3; number = 15; place = copy }
conformance_fault (NotDerived edge) = record { layer = 3; number = 16; place = edge }
conformance_fault (NotListed step) = record { layer = 3; number = 17; place = step }
