-- `whole::format` keeps its promise.
use mathlib.Core.Path.{◌∙◌}
use Rattle.layout.specs.Promises.{Formats}
use Rattle.whole.proofs.Shaping.{shape-refused, new_fits, shift_fits, formatted_is}
use Rattle.whole.proofs.format.Goals as goal

pub returns-then-not-good_shape : goal.returns-then-not-good_shape
unfolding Formats
returns-then-not-good_shape c = shape-refused _ _ _ c.good_shape.ensures c.if-not-good_shape.true

pub cut-shape-requires : goal.cut-shape-requires
cut-shape-requires c = shift_fits c.args.card.now _ _ c.good_shape.ensures c.if-not-good_shape.false

pub of-requires : goal.of-requires
of-requires c = (new_fits _ _ _ c.good_shape.ensures c.if-not-good_shape.false _ c.cut-shape.ensures).0

pub format-requires : goal.format-requires
format-requires c = (new_fits _ _ _ c.good_shape.ensures c.if-not-good_shape.false _ c.cut-shape.ensures).1

pub returns : goal.returns
unfolding Formats
returns c = formatted_is _ _ _ c.good_shape.ensures c.if-not-good_shape.false _ _ (c.of.ensures ∙ c.cut-shape.ensures) c.format.ensures
