-- A stream whose blocks and bytes an edit of another leaves as they were.
use mathlib.Core.Path.{◌≡◌}
use mathlib.Core.List.{List}
use Prim.Native.Nat.{ℕ}
use Rattle.layout.specs.Blocks.{pyramid}
use Rattle.layout.specs.Streams.{contents}
use Rattle.layout.specs.declared.Shape.{Shape}

-- the other stream's blocks and bytes are the same on the card c'
pub record Kept (s : Shape) (c c' : List ℕ) (top d size : ℕ) : Type 0 where
  pub blocks : pyramid c' s top d ≡ pyramid c s top d
  pub bytes : contents c' s top d size ≡ contents c s top d size
