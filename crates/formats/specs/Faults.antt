-- Layer, number and place of each fault, and the text of the three.
use Rattle.std.specs.Prelude.{ℕ, List, ◌++◌, codes, decimal}
use Rattle.formats.specs.declared.faults.Fault.{Fault}
use Rattle.formats.specs.declared.faults.ReadingFault.{ReadingFault}
use Rattle.formats.specs.declared.faults.ReadingFault.TheVariants.{Short, Size, Length, Range, Order}

-- the faults of layer 1, reading
abbrev pub reading_fault : ReadingFault → Fault
reading_fault (Short present) = record { layer = 1; number = 1; place = present }
reading_fault (Size which) = record { layer = 1; number = 2; place = which }
reading_fault (Length needed) = record { layer = 1; number = 3; place = needed }
reading_fault (Range at) = record { layer = 1; number = 4; place = at }
reading_fault (Order at) = record { layer = 1; number = 5; place = at }

-- the three as they are printed
abbrev pub fault_text : Fault → List ℕ
fault_text f = codes "layer=" ++ (decimal f.layer ++ (codes " number=" ++ (decimal f.number ++ (codes " place=" ++ decimal f.place))))
