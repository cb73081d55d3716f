-- `usage::used::rule6` keeps its promise.
use mathlib.Core.Path.{refl}
use native.Mathlib.Omega.{arith}
use Rattle.tables.proofs.Paged.{slots-few, stream-same}
use Rattle.usage.proofs.Uses.{rule6_is, in_use_lem}
use Rattle.usage.proofs.used.rule6.Goals as goal

pub mark_used-requires : goal.mark_used-requires
mark_used-requires c = omega (arith, slots-few _ _ _ c.requires.0 c.descriptors.ensures)

pub returns : goal.returns
returns c = (
  rule6_is _ _ _ (stream-same _ _ c.requires.1 _ _ refl) _ _ _ _ c.descriptors.ensures c.requires.2 c.mark_used.ensures,
  in_use_lem _ _ _ (stream-same _ _ c.requires.1 _ _ refl) _ _ _ _ c.descriptors.ensures c.requires.2 c.mark_used.ensures,
)
