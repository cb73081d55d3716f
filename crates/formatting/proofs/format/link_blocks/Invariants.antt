-- `formatting::format::link_blocks` keeps its promise.
use mathlib.Core.Path.{◌≡◌}
use Prim.Native.Nat.{◌-◌}
use Rattle.layout.specs.Calls.{links_from}
use Rattle.formatting.proofs.format.link_blocks.Given as goal

abbrev pub invariant-loop-b : goal.invariant-loop-b
invariant-loop-b l = links_from (l.s.count - l.b) l.b l.s l.card ≡ links_from (l.s.count - 1) 1 l.s l.initial.card
