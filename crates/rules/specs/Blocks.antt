-- The specification whose tables are drawn, and that a block but the whole belongs to.
use Rattle.model.specs.Specifications.{Spec}
use Rattle.rules.specs.Parts.{parts_spec}
use Rattle.rules.specs.declared.drawn.Drawn.{Drawn}
use Rattle.rules.specs.declared.inner.Inner.{Inner}

abbrev pub drawn_spec : Drawn → Spec
drawn_spec drawn = parts_spec drawn.parts

abbrev pub inner_spec : Inner → Spec
inner_spec block = drawn_spec block.drawn
