-- `acts::list::list` keeps its promise.
use mathlib.Core.Path.{sym, ◌∙◌}
use Rattle.acts.proofs.Naming.{row_is, name_here, name_none}
use Rattle.acts.proofs.list.list.Goals as goal

pub returns-in_err-row : goal.returns-in_err-row
returns-in_err-row c =
    let h = row_is _ _ _ _ _ _ c.stream-t.ensures (sym c.in_err-row.was ∙ c.nth_entry.ensures.numbered) in
    (c.from_residual.ensures ∙ h, name_none _ _ _ _ _ c.stream-t.ensures _ h)

pub returns : goal.returns
returns c =
    let h = row_is _ _ _ _ _ _ c.stream-t.ensures (sym c.in_ok-row.was ∙ c.nth_entry.ensures.numbered) in
    (h, name_here _ _ _ _ _ c.stream-t.ensures _ _ _ h c.gather_part.ensures)
