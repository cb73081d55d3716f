-- Chains: a walk from link to link, as a list. The free chain and the descriptors' chain are both of this kind.
use mathlib.Core.Path.{◌≡◌, refl, ap}
use mathlib.Core.Logic.{◌≢◌, inl, inr}
use mathlib.Core.List.{List, [], ◌∷◌}
use Prim.Native.Nat.{ℕ, zero, suc, ◌<◌}
use native.Mathlib.Decide.{ℕ_discrete}
use native.Mathlib.Omega.{arith}
use lib.ListN.{length}
use Rattle.layout.specs.Bytes.{end8}
use Rattle.layout.specs.Blocks.{walk}
use Rattle.laws.proofs.Picks.{eqb_yes, eqb_no}
use Rattle.laws.proofs.Lists.{In}

-- from b the chain goes through xs and ends
abbrev pub Links : (ℕ → ℕ) → ℕ → List ℕ → Type 0
Links next b [] = b ≡ end8
Links next b (x ∷ xs) = (b ≡ x) × (b ≢ end8) × Links next (next x) xs

-- such a chain is what a walk with more steps than it has links finds
pub walk_links : (g : ℕ) (next : ℕ → ℕ) (b : ℕ) (xs : List ℕ) → Links next b xs → length xs < g → walk g next b ≡ xs
unfolding walk
walk_links zero next b xs l h = absurd (omega arith)
walk_links (suc g) next b [] l h = rw (eqb_yes l)
walk_links (suc g) next b (x ∷ xs) l h =
    rw (eqb_no l.1, l.0) (ap {B = List ℕ} (λ r. x ∷ r) (walk_links g next (next x) xs l.2 (omega arith)))

-- a walk that did not use up its steps came to the end
pub links_walk : (g : ℕ) (next : ℕ → ℕ) (b : ℕ) → length (walk g next b) < g → Links next b (walk g next b)
unfolding walk
links_walk zero next b h = absurd (omega arith)
links_walk (suc g) next b h = elim (ℕ_discrete b end8) [
  | yes e ↦ rw (eqb_yes e) e
  | no n ↦ rw (eqb_no n) (refl, n, links_walk g next (next b) (let h' = rw (eqb_no n) at h in omega arith))
]

-- the same links, the same chain
pub links_same : (next next' : ℕ → ℕ) (b : ℕ) (xs : List ℕ) → Links next b xs → ((x : ℕ) → In x xs → next' x ≡ next x) → Links next' b xs
links_same next next' b [] l e = l
links_same next next' b (x ∷ xs) l e = (l.0, l.1, rw (e x (inl refl)) (links_same next next' (next x) xs l.2 (λ y i. e y (inr i))))
