-- What the plain list that a card shows has in common with the card: names, bytes, lengths; and how it changes with the card.
use mathlib.Core.Path.{◌≡◌, refl, sym, ap, ◌∙◌}
use mathlib.Core.List.{List}
use Prim.Native.Nat.{ℕ, suc, ◌^◌, ◌<◌}
use native.Mathlib.Nat.{pow-le-pow_right, two-pow-succ, one-le-pow}
use native.Mathlib.Decide.{dec_lt}
use native.Mathlib.Omega.{arith}
use lib.ListN.{length, get_or, length-map}
use Rattle.layout.specs.Streams.{stream_bytes}
use Rattle.layout.specs.Filing.{entries_of, look_in, nothing}
use Rattle.layout.specs.Header.{shape_of, shift_of}
use Rattle.layout.specs.Calls.{root_of, known, index_of, size_of}
use Rattle.laws.proofs.State.{slots_of, length-stream}
use Rattle.demands.specs.Plain.{Item, look_up, no_item, knows, bytes_of, length_of}
use Rattle.demands.specs.Shows.{item_of, plain}
use Rattle.demands.proofs.Items.{items_of, map_at, look_items}
use Rattle.layout.specs.declared.Shape.{Shape}

pub many_same : (c : List ℕ) → length (plain c).items ≡ length (root_of c)
unfolding plain
many_same c = length-map (root_of c) (item_of c (shape_of c))

pub descs-same : (c : List ℕ) → (plain c).descs ≡ slots_of c (shape_of c)
unfolding plain
descs-same c = refl

-- ---- by name

module _ (c name : List ℕ) where
  look_same : look_up (plain c).items name ≡ look_in (root_of c) name
  unfolding plain
  look_same = look_items (stream_bytes c (shape_of c)) (root_of c) name

  pub knows_same : knows (plain c) name ≡ known c name
  knows_same = rw (look_same, many_same c)

  module _ (there : look_in (root_of c) name < length (root_of c)) where
    pub bytes_same : bytes_of (plain c) name ≡ stream_bytes c (shape_of c) (index_of c name)
    unfolding plain
    bytes_same =
        ap (λ (i : ℕ). (get_or (plain c).items i no_item).bytes) look_same
        ∙ ap (λ (f : Item). f.bytes) (map_at (item_of c (shape_of c)) (root_of c) (look_in (root_of c) name) nothing no_item there)

    pub length-same : length_of (plain c) name ≡ size_of c (index_of c name)
    length-same = ap length bytes_same ∙ length-stream c (shape_of c) (index_of c name)

-- ---- from one card to another

pow_apart : (a b : ℕ) → 2 ^ a ≡ 2 ^ b → a ≡ b
pow_apart a b e = elim (dec_lt a b) [
  | yes l ↦ absurd (less a b l e)
  | no n ↦ elim (dec_lt b a) [ yes l ↦ absurd (less b a l (sym e)) | no m ↦ omega arith ]
]
  where
    less : (a b : ℕ) → a < b → 2 ^ a ≡ 2 ^ b → ⊥
    less a b l e = omega (arith, pow-le-pow_right {n = 2} (omega arith) {i = suc a} {j = b} l, two-pow-succ a, one-le-pow a 2 (omega arith))

-- a card of the same shape shows the same shift and count
pub plain-after : (c c' : List ℕ) → shape_of c' ≡ shape_of c → (n : ℕ) (fs : List Item) → slots_of c' (shape_of c) ≡ n
    → items_of (stream_bytes c' (shape_of c)) (entries_of c' (shape_of c) 0) ≡ fs → plain c' ≡ record { shift = (plain c).shift; count = (plain c).count; descs = n; items = fs }
unfolding plain
plain-after c c' e n fs d f =
    let z : shift_of c' ≡ shift_of c = unfold shape_of in pow_apart (shift_of c') (shift_of c) (ap (λ (s : Shape). s.size) e) in
    rw e (λ i. record { shift = z i; count = (shape_of c).count; descs = d i; items = f i })
