-- `acts::delete::undescribe` keeps its promise.
use Rattle.acts.proofs.Deleting.{freed}
use Rattle.acts.proofs.delete.undescribe.Goals as goal

pub returns : goal.returns
returns c = freed _ _ _ _ _ _ _ _ _ c.table_number-first.ensures c.shorten.ensures c.put_number.ensures c.put_number-2.ensures c.lay_in_table.ensures c.put_table_number.ensures
