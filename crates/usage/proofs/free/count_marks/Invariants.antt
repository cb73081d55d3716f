-- `usage::free::count_marks` keeps its promise.
use mathlib.Core.Path.{◌≡◌}
use mathlib.Core.Bool.{not}
use lib.ListN.{take}
use lib.Dec.{eqb}
use Rattle.std.specs.Prelude.{count_by}
use Rattle.usage.proofs.free.count_marks.Given as goal

abbrev pub invariant-loop-m : goal.invariant-loop-m
invariant-loop-m l = l.found ≡ count_by (λ m. not (eqb m 0)) (take l.m-index l.marks)
