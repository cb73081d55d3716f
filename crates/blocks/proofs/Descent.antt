-- The reader finds the node: a level down from a block is the pyramid below one of its slots.
use mathlib.Core.Path.{◌≡◌, refl, sym, ap, ◌∙◌}
use mathlib.Core.List.{List}
use Prim.Native.Nat.{ℕ, zero, suc, ◌+◌, ◌-◌, ◌/◌, ◌%◌, ◌≤◌}
use native.Mathlib.Omega.{arith}
use Rattle.layout.specs.Pyramid.{above}
use Rattle.layout.specs.Blocks.{fan, slot, node}
use Rattle.laws.proofs.Shorter.{node_deep}
use Rattle.blocks.specs.Plain.{plain_shape}
use Rattle.layout.specs.declared.Shape.{Shape}

pub node_down : (c : List ℕ) (s : Shape) (two : 2 ≤ fan s) (b h j i v r x : ℕ) → 1 ≤ h → x ≡ above (fan s) (h - 1) j → i ≡ x % fan s → v ≡ slot c s b i → r ≡ node c s v (h - 1) j → r ≡ node c s b h j
unfolding node
node_down c s two b zero j i v r x l a e f g = absurd (omega arith)
node_down c s two b (suc k) j i v r x l a e f g =
    let d : suc k - 1 ≡ k = omega arith in
    let one : suc k ≡ 1 + k = omega arith in
    let x_is : x ≡ above (fan s) k j = rw d at a in
    let v-is : v ≡ slot c s b (above (fan s) k j % fan s) = f ∙ ap (λ (y : ℕ). slot c s b y) (e ∙ ap (λ (y : ℕ). y % fan s) x_is) in
    rw d at g ∙ ap (λ (y : ℕ). node c s y k j) v-is ∙ sym (ap (λ (y : ℕ). node c s b y j) one ∙ node_deep c s two b 1 k j)

-- only base and size matter
pub node-plain : (c : List ℕ) (s : Shape) (top e j : ℕ) → node c (plain_shape s.base s.size) top e j ≡ node c s top e j
unfolding node
node-plain c s top zero j = refl
node-plain c s top (suc e) j = rw (node-plain c s top e (j / fan s))
