-- `acts::create::create` keeps its promise.
use Rattle.acts.proofs.Creating.{made}
use Rattle.acts.proofs.create.create.Goals as goal

pub returns : goal.returns
returns c = made _ _ _ _ _ _ _ _ c.new_index-index.ensures c.size-end.ensures c.describe.ensures c.append.ensures
