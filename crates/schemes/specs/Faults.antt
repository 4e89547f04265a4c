-- Layer, number and place of the fault of a scheme.
use Rattle.std.specs.Prelude.{ℕ}
use Rattle.formats.specs.declared.faults.Fault.{Fault}
use Rattle.schemes.specs.declared.faults.Which.{Which}
use Rattle.schemes.specs.declared.faults.Which.TheVariants.{First, Second}
use Rattle.schemes.specs.declared.faults.SchemeFault.{SchemeFault}
use Rattle.schemes.specs.declared.faults.SchemeFault.TheVariants.{NoVertex}

-- 1 for the first of two, 2 for the second
abbrev pub which_place : Which → ℕ
which_place First = 1
which_place Second = 2

abbrev pub scheme_fault : SchemeFault → Fault
scheme_fault (NoVertex which) = record { layer = 4; number = 18; place = which_place which }
