-- Whether a byte lies in a listed part can be told: so one that differs lies in one of them.
use mathlib.Core.Path.{refl, subst}
use mathlib.Core.Logic.{◌⊎◌, inl, inr}
use mathlib.Core.Bool.{Bool, true, false}
use mathlib.Core.List.{List, [], ◌∷◌}
use Prim.Native.Nat.{ℕ, ◌+◌}
use native.Mathlib.Decide.{map_dec, ℕ_discrete, dec_le, dec_lt}
use lib.Dec.{T}
use Rattle.layout.specs.Bytes.{holds, run}
use Rattle.layout.specs.Blocks.{place}
use Rattle.layout.specs.Streams.{offset}
use Rattle.layout.specs.Header.{shape_of}
use Rattle.layout.specs.Calls.{index_of}
use Rattle.laws.proofs.Lists.{In, in_run, run_in, holds_in, holds_read}
use Rattle.demands.specs.Owners.{blocks_of_table, blocks_of_root, blocks_of, free_chain}
use Rattle.demands.specs.Parts.{Within, InBlocks, Among, Taken, TableByte, InDescriptor, StreamParts, DirectoryParts}
use Rattle.demands.specs.Demand3.{SameByte}
use Rattle.layout.specs.declared.Shape.{Shape}

-- ---- what can be told

both : {A B : Type 0} → Dec A → Dec B → Dec (A × B)
both (yes a) (yes b) = yes (a, b)
both (yes a) (no n) = no (λ p. n p.1)
both (no n) d = no (λ p. n p.0)

either : {A B : Type 0} → Dec A → Dec B → Dec (A ⊎ B)
either (yes a) d = yes (inl a)
either (no n) (yes b) = yes (inr b)
either {A} {B} (no n) (no m) = no none
  where
    none : A ⊎ B → ⊥
    none (inl a) = n a
    none (inr b) = m b

never : {A : Type 0} → Dec A → Dec (A → ⊥)
never (yes a) = no (λ f. f a)
never (no n) = yes n

test : (b : Bool) → Dec (T b)
test true = yes tt
test false = no (λ t. t)

-- one of a list's numbers
some : (R : ℕ → Type 0) → ((x : ℕ) → Dec (R x)) → (xs : List ℕ) → Dec ((x : ℕ) × In x xs × R x)
some R d [] = no (λ p. p.1)
some R d (x ∷ xs) = go (d x) (some R d xs)
  where
    go : Dec (R x) → Dec ((y : ℕ) × In y xs × R y) → Dec ((y : ℕ) × In y (x ∷ xs) × R y)
    go (yes r) e = yes (x, inl refl, r)
    go (no n) (yes p) = yes (p.0, inr p.1, p.2)
    go (no n) (no m) = no (λ p. none p.0 p.1 p.2)
      where
        none : (y : ℕ) → In y (x ∷ xs) → R y → ⊥
        none y (inl e) r = n (subst R e r)
        none y (inr i) r = m (y, i, r)

-- ---- the parts

within : (from n i : ℕ) → Dec (Within from n i)
within from n i = both (dec_le from i) (dec_lt i (from + n))

in_blocks : (s : Shape) (bs : List ℕ) (i : ℕ) → Dec (InBlocks s (Among bs) i)
in_blocks s bs i = map_dec (λ p. (p.0, holds_in p.0 bs p.1, p.2)) (λ p. (p.0, holds_read p.0 bs p.1, p.2))
    (some (λ b. Within (place s b) s.size i) (λ b. within (place s b) s.size i) bs)

in_taken : (c c' : List ℕ) (i : ℕ) → Dec (InBlocks (shape_of c) (Taken c c') i)
in_taken c c' i =
    let s = shape_of c in
    map_dec (λ p. (p.0, (holds_in p.0 (free_chain c) p.1, p.2.0), p.2.1)) (λ p. (p.0, holds_read p.0 (free_chain c) p.1.0, (p.1.1, p.2)))
    (some (λ b. (Among (free_chain c') b → ⊥) × Within (place s b) s.size i) (λ b. both (never (test (holds b (free_chain c')))) (within (place s b) s.size i)) (free_chain c))

in_descriptor : (c name : List ℕ) (i : ℕ) → Dec (InDescriptor c name i)
in_descriptor c name i =
    let from = offset (index_of c name) in
    map_dec (λ p. (p.0, run_in from 25 p.0 p.1, p.2)) (λ p. (p.0, in_run from 25 p.0 p.1.0 p.1.1, p.2))
    (some (λ q. TableByte c q i) (λ q. ℕ_discrete i _) (run from 25))

stream-parts : (c name c' : List ℕ) (i : ℕ) → Dec (StreamParts c name c' i)
stream-parts c name c' i =
    let s = shape_of c in
    either (within s.first 8 i) (either (in_descriptor c name i) (either (in_blocks s (blocks_of c name) i) (in_taken c c' i)))

directory_parts : (c name c' : List ℕ) (i : ℕ) → Dec (DirectoryParts c name c' i)
directory_parts c name c' i =
    let s = shape_of c in
    either (within s.first 8 i) (either (within s.table 25 i) (either (in_blocks s (blocks_of_table c) i)
    (either (in_blocks s (blocks_of_root c) i) (either (in_blocks s (blocks_of c name) i) (in_taken c c' i)))))

-- ---- from bytes outside to bytes that differ

differs : {A B : Type 0} → Dec A → ((A → ⊥) → B) → (B → ⊥) → A
differs (yes a) f n = a
differs (no u) f n = absurd (n (f u))

module _ (c name c' : List ℕ) where
  pub stream_differs : ((i : ℕ) → (StreamParts c name c' i → ⊥) → SameByte c c' i) → (i : ℕ) → (SameByte c c' i → ⊥) → StreamParts c name c' i
  stream_differs f i = differs (stream-parts c name c' i) (f i)

  pub directory_differs : ((i : ℕ) → (DirectoryParts c name c' i → ⊥) → SameByte c c' i) → (i : ℕ) → (SameByte c c' i → ⊥) → DirectoryParts c name c' i
  directory_differs f i = differs (directory_parts c name c' i) (f i)
