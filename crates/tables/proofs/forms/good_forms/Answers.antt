-- `tables::forms::good_forms` keeps its promise.
use mathlib.Core.Path.{refl, ◌∙◌}
use native.Mathlib.Omega.{arith}
use Rattle.std.proofs.lemmas.Grind.{common_steps}
use Rattle.std.proofs.lemmas.Iterator.{YieldsList-from_range}
use Rattle.std.proofs.lemmas.Iterator.Search.{all_from_yields_List}
use Rattle.layout.specs.Streams.{live, dead}
use Rattle.layout.specs.Sound.{good_form}
use Rattle.tables.proofs.Every.{every_is}
use Rattle.tables.proofs.forms.good_forms.Goals as goal

pub returns : goal.returns
unfolding live dead
returns c =
    let p = good_form c.args.s c.args.tab.now in
    all_from_yields_List p _ _ _ c.all.ensures.ran (YieldsList-from_range 0 c.args.n c.args.n refl (omega arith)) (λ x b q h. grind (arith, common_steps)) ∙ every_is p 0 c.args.n
