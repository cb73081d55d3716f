-- `naming::apart::Buckets::file` keeps its promise.
use mathlib.Core.Path.{refl}
use native.Mathlib.Omega.{arith}
use Rattle.naming.proofs.Filed.{entry_fits, name-short, x_le, x_linked, x_own, file_met, file_new, file_filed}
use Rattle.naming.proofs.apart.Buckets.file.Goals as goal

pub slice_bounds-name-end : goal.slice_bounds-name-end
slice_bounds-name-end c = omega (arith, entry_fits _ _ _ c.requires.0 _ c.requires.2 _ c.requires.1 _ c.read_head-n.ensures.1)

pub met-requires : goal.met-requires
met-requires c = let x_low = x_le _ _ _ c.requires.0 _ c.requires.2 _ c.requires.1 _ c.read_head-n.ensures.1 _ refl _ _ c.bucket-h.ensures.0 c.bucket-h.ensures.1 refl in (
  name-short _ _ _ c.requires.0 _ c.requires.2 _ c.requires.1 _ c.read_head-n.ensures.1 _ refl,
  omega (arith, x_low, c.requires.0.inside),
  c.requires.2.long,
  x_linked _ _ _ c.requires.0 _ c.requires.2 _ c.requires.1 _ c.read_head-n.ensures.1 _ refl _ _ c.bucket-h.ensures.0 c.bucket-h.ensures.1 refl,
  x_own _ _ _ c.requires.0 _ c.requires.2 _ c.requires.1 _ c.read_head-n.ensures.1 _ refl _ _ c.bucket-h.ensures.0 c.bucket-h.ensures.1 refl,
)

pub returns-then-met : goal.returns-then-met
returns-then-met c = (
  file_met _ _ _ c.requires.0 _ c.requires.2 _ c.requires.1 _ c.read_head-n.ensures.1 _ refl _ _ c.bucket-h.ensures.0 c.bucket-h.ensures.1 refl _ c.met.ensures c.if-met.true,
  λ z. absurd (z refl),
)

pub returns : goal.returns
returns c = (
  file_new _ _ _ c.requires.0 _ c.requires.2 _ c.requires.1 _ c.read_head-n.ensures.1 _ refl _ _ c.bucket-h.ensures.0 c.bucket-h.ensures.1 refl _ c.met.ensures c.if-met.false,
  λ z. file_filed _ _ _ c.requires.0 _ c.requires.2 _ c.requires.1 _ c.read_head-n.ensures.1 _ refl _ _ c.bucket-h.ensures.0 c.bucket-h.ensures.1 refl,
)
