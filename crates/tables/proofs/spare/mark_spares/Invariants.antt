-- `tables::spare::mark_spares` keeps its promise.
use mathlib.Core.List.{map}
use Prim.Native.Nat.{◌+◌, ◌-◌}
use Rattle.layout.specs.Bytes.{num}
use Rattle.layout.specs.Blocks.{walk}
use Rattle.marking.proofs.Walking.{Rest}
use Rattle.tables.specs.Compared.{number_at, spares}
use Rattle.tables.proofs.spare.mark_spares.Given as goal

abbrev pub invariant-loop : goal.invariant-loop
invariant-loop l = Rest l.n l.marks (map number_at (walk (l.n + 1 - l.counter) (num 8 l.tab) l.x)) l.initial.marks (spares l.tab l.n)
