-- The blocks in use, in the order in which the check comes to them.
use Rattle.std.specs.Prelude.{◌≡◌, true, not, ℕ, zero, suc, ◌+◌, ◌≤◌, ◌<◌, List, [], ◌++◌, length, get_or, eqb}
use Rattle.layout.specs.Bytes.{pick, end8}
use Rattle.layout.specs.Marks.{mark_ok, mark_set}
use Rattle.layout.specs.Blocks.{pyramid}
use Rattle.layout.specs.Streams.{data_of, desc_of}
use Rattle.layout.specs.Sound.{used}
use Rattle.layout.specs.declared.Shape.{Shape}
use Rattle.layout.specs.declared.Desc.{Desc}

-- a stream's blocks; a free descriptor has none
unfoldable pub blocks_of : List ℕ → Shape → Desc → List ℕ
blocks_of c s t = pick (not (eqb t.top end8)) (pyramid c s t.top (data_of s t)) []

-- L99: those of n streams from number k on, by the table's bytes
unfoldable pub used_from : List ℕ → Shape → List ℕ → ℕ → ℕ → List ℕ
used_from c s tab k zero = []
used_from c s tab k (suc n) = blocks_of c s (desc_of tab k) ++ used_from c s tab (k + 1) n

-- marks that hold the blocks in use and no others
pub record InUse (c : List ℕ) (s : Shape) (m : List ℕ) : Type 0 where
  pub start : List ℕ
  pub long : s.count ≤ length start
  pub zeros : (k : ℕ) → k < s.count → get_or start k 0 ≡ 0
  pub ok : mark_ok s.count start (used c s) ≡ true
  pub marks : m ≡ mark_set s.count start (used c s)
