-- `filing::entries::look_up` keeps its promise.
use Rattle.filing.proofs.Finding.{looked_up}
use Rattle.filing.proofs.entries.look_up.Goals as goal

pub returns : goal.returns
returns c = looked_up _ _ _ _ _ _ c.stream.ensures c.find.ensures
