-- `filing::names::good_name` keeps its promise.
use mathlib.Core.Path.{sym, ◌∙◌}
use Rattle.filing.proofs.Naming.{name-short, name-long, name-rest}
use Rattle.filing.proofs.names.good_name.Goals as goal
use Rattle.filing.proofs.names.good_name.Goals.{then-not-is_empty, else-not-is_empty}

pub returns-then-name-longest_name : goal.returns-then-name-longest_name
returns-then-name-longest_name c = elim c.if-not-is_empty.branch [
  | then-not-is_empty w ↦ name-rest _ _ w.longest_name.ensures (sym c.is_empty.ensures ∙ w.if-not-is_empty.true) _ (sym w.value-is ∙ c.if-name-longest_name.true) (c.contains.ensures.value ∙ rw c.slash.ensures)
  | else-not-is_empty w ↦ absurd (cc)
]

pub returns-else-name-longest_name : goal.returns-else-name-longest_name
returns-else-name-longest_name c = elim c.if-not-is_empty.branch [
  | then-not-is_empty w ↦ c.if-name-longest_name.false ∙ name-long _ _ w.longest_name.ensures (sym c.is_empty.ensures ∙ w.if-not-is_empty.true) (sym w.value-is ∙ c.if-name-longest_name.false)
  | else-not-is_empty w ↦ c.if-name-longest_name.false ∙ name-short _ (sym c.is_empty.ensures ∙ w.if-not-is_empty.false)
]
