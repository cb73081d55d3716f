-- A shape with small numbers: what a Cut's invariant says. A sound card's shape has them.
use Rattle.std.specs.Prelude.{◌≤◌}
use Rattle.layout.specs.Limits.{most_blocks}
use Rattle.layout.specs.declared.Shape.{Shape}

pub record Narrow (s : Shape) : Type 0 where
  pub base : s.base ≤ 1024
  pub least : 64 ≤ s.size
  pub most : s.size ≤ 4096
  pub count : s.count ≤ most_blocks
  pub first : s.first ≤ 1024
  pub table : s.table ≤ 1024
