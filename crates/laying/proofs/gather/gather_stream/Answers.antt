-- `laying::gather::gather_stream` keeps its promise.
use mathlib.Core.Path.{sym, ap, ◌∙◌}
use Prim.Native.Nat.{◌<◌}
use native.Mathlib.Omega.{arith}
use Rattle.std.proofs.Common.{rules}
use Rattle.layout.specs.Blocks.{node}
use Rattle.laying.proofs.Blockwise.{gather_none, gather_done, only_top, top_start}
use Rattle.laying.proofs.gather.gather_stream.Goals as goal

pub returns-then-m-eq0 : goal.returns-then-m-eq0
returns-then-m-eq0 c = gather_none _ _ _ _ _ _ _ _ _ c.min-m.ensures c.saturating_sub-there.ensures c.if-m-eq0.true

pub returns-then-h-eq0 : goal.returns-then-h-eq0
returns-then-h-eq0 c =
    let a = c.args in
    let size = ap (λ s. s.size) c.s.view_is in
    let some : 0 < a.s.size = omega (arith, size) in
    let done = c.gather_blocks.ensures (node a.card.now a.s a.t.top 0) (λ k x e. only_top a.card.now a.s some a.t.top k (search rules)) in
    gather_done _ _ _ _ _ _ _ _ _ c.min-m.ensures c.saturating_sub-there.ensures 0 _ _ (sym c.if-h-eq0.true ∙ c.levels-h.ensures) (omega arith) ((rw size at done) ∙ top_start _ _ some _ _ _)

pub returns-else-h-eq0 : goal.returns-else-h-eq0
returns-else-h-eq0 c = gather_done _ _ _ _ _ _ _ _ _ c.min-m.ensures c.saturating_sub-there.ensures _ _ _ c.levels-h.ensures (omega arith) c.gather_rows.ensures
