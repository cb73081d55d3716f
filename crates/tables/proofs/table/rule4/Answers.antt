-- `tables::table::rule4` keeps its promise.
use native.Mathlib.Omega.{arith}
use mathlib.Core.Path.{refl, ap}
use Rattle.std.proofs.lemmas.Grind.{common_steps}
use Rattle.tables.proofs.Shaped.{rule4_is}
use Rattle.tables.proofs.table.rule4.Goals as goal

pub returns-then-not-whole : goal.returns-then-not-whole
returns-then-not-whole c = let e = rule4_is _ _ _ c.table-t.ensures c.args.marks.now _ c.requires refl in grind (arith, common_steps)

pub returns : goal.returns
returns c = let e = rule4_is _ _ _ c.table-t.ensures _ _ c.requires (rw (ap (λ s. s.count) c.s.view_is) at c.clear.ensures) in grind (arith, common_steps)
