-- `acts::create::create_wants` keeps its promise.
use Rattle.acts.proofs.Creating.{wants-one, wants_two}
use Rattle.acts.proofs.create.create_wants.Goals as goal

pub returns-then-table_number : goal.returns-then-table_number
returns-then-table_number c = wants-one _ _ _ _ _ c.stream-d.ensures _ (rw c.shape-shape.ensures.0 at c.wants-more.ensures).0 _ c.table_number.ensures c.if-table_number.true

pub returns : goal.returns
returns c = wants_two _ _ _ _ _ c.stream-d.ensures _ (rw c.shape-shape.ensures.0 at c.wants-more.ensures).0 _ _ _ c.table_number.ensures c.if-table_number.false c.table-t.ensures (rw c.shape-shape.ensures.0 at c.wants.ensures).0
