-- The kinds of block, as files number them.
use Rattle.std.specs.Prelude.{ℕ, List, codes}
use Rattle.records.specs.declared.kinds.BlockKind.{BlockKind}
use Rattle.records.specs.declared.kinds.BlockKind.TheVariants.{Whole, Fork, Loop}

abbrev pub kind_number : BlockKind → ℕ
kind_number Whole = 0
kind_number Fork = 1
kind_number Loop = 2

-- the bytes of a kind's name
abbrev pub kind_word : BlockKind → List ℕ
kind_word Whole = codes "whole"
kind_word Fork = codes "fork"
kind_word Loop = codes "loop"
