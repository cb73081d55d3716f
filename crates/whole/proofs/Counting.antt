-- The free blocks of a card that passed, counted.
use mathlib.Core.Path.{◌≡◌, ◌∙◌}
use mathlib.Core.List.{List, []}
use Prim.Native.Nat.{ℕ}
use lib.ListN.{length}
use Rattle.layout.specs.Blocks.{chain}
use Rattle.layout.specs.Answers.{counted}
use Rattle.layout.specs.Calls.{room}
use Rattle.front.proofs.Outcomes.{none, past_1}
use Rattle.front.proofs.Passing.{Passed}
use Rattle.layout.specs.declared.Shape.{Shape}

module _ {c : List ℕ} {s : Shape} (p : Passed c s) where
  pub room-done : (n : ℕ) → n ≡ length (chain c s) → counted n c [] ≡ room c
  unfolding room
  room-done n g = rw (g, p.cut) (none c [] _ ∙ past_1 c [] _ [] p.unbroken)
