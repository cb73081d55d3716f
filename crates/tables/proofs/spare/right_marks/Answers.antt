-- `tables::spare::right_marks` keeps its promise.
use mathlib.Core.Path.{refl, ◌∙◌}
use native.Mathlib.Omega.{arith}
use Rattle.std.proofs.lemmas.Grind.{common_steps}
use Rattle.std.proofs.lemmas.Iterator.{YieldsList-from_range}
use Rattle.std.proofs.lemmas.Iterator.Search.{all_from_yields_List}
use Rattle.tables.specs.Compared.{right_mark, asked}
use Rattle.tables.proofs.Every.{every_is}
use Rattle.tables.proofs.spare.right_marks.Goals as goal

pub returns : goal.returns
returns c =
    let p = right_mark c.args.marks.now (asked c.args.tab.now c.args.alive) in
    all_from_yields_List p _ _ _ c.all.ensures.ran (YieldsList-from_range 0 c.args.n c.args.n refl (omega arith)) (λ x b q h. grind (arith, common_steps)) ∙ every_is p 0 c.args.n
