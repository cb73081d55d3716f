-- The first part of a new card's header.
use Rattle.std.specs.Prelude.{ℕ, List, [], ◌∷◌, ◌++◌, eqb}
use Rattle.layout.specs.Bytes.{pick, bytes, end8}
use Rattle.layout.specs.Header.{head1, head2}
use Rattle.layout.specs.declared.Shape.{Shape}

-- L8 to L13: the fixed values, the shift, and the first free block
abbrev pub new_front : ℕ → Shape → List ℕ
new_front shift s = head1 ++ (shift ∷ []) ++ head2 ++ bytes 8 (pick (eqb s.count 1) end8 1)
