-- `filing::names::name_is` keeps its promise.
use Rattle.filing.proofs.Naming.{name_other, name_compared}
use Rattle.filing.proofs.names.name_is.Goals as goal

pub returns-then-m-name : goal.returns-then-m-name
returns-then-m-name c = name_compared _ _ _ _ _ c.number.ensures.0 c.min-m.ensures c.saturating_sub.ensures _ c.if-m-name.true c.matches.ensures

pub returns-else-m-name : goal.returns-else-m-name
returns-else-m-name c = name_other _ _ _ _ _ c.number.ensures.0 c.min-m.ensures c.saturating_sub.ensures c.if-m-name.false
