-- Descriptors in bytes: read after the bytes, or a part of them, were written.
use mathlib.Core.Path.{◌≡◌, refl, ◌∙◌}
use mathlib.Core.Logic.{◌⊎◌, inl, inr}
use mathlib.Core.List.{List, [], ◌++◌, append_assoc, append-nil}
use Prim.Native.Nat.{ℕ, zero, suc, ◌+◌, ◌-◌, ◌*◌, ◌^◌, ◌≤◌, ◌<◌}
use native.Mathlib.Omega.{arith}
use lib.ListN.{length, get_or, replicate, length-append, get_or-replicate, get_or-append}
use lib.Seq.{get_or-append-add}
use Rattle.layout.specs.Bytes.{num, bytes, over}
use Rattle.layout.specs.Streams.{desc_in, fields}
use Rattle.layout.specs.declared.Desc.{Desc}
use Rattle.laws.proofs.ByteLaws.{num_agree, num-at, num-over, over_in, over_out, length-bytes}
use Rattle.layout.specs.declared.Shape.{Shape}

-- the same bytes, the same descriptor
pub desc_agree : (l l' : List ℕ) (at : ℕ) → ((i : ℕ) → at ≤ i → i < at + 25 → get_or l i 0 ≡ get_or l' i 0) → desc_in l at ≡ desc_in l' at
unfolding desc_in
desc_agree l l' at e =
    let a = num_agree 8 l l' at (λ i p q. e i (omega arith) (omega arith)) in
    let b = num_agree 8 l l' (at + 8) (λ i p q. e i (omega arith) (omega arith)) in
    let r = num_agree 8 l l' (at + 16) (λ i p q. e i (omega arith) (omega arith)) in
    let f = e (at + 24) (omega arith) (omega arith) in
    λ i. record { size = a i; top = b i; reserved = r i; flags = f i }

-- away from what is written
pub desc_away : (tb : List ℕ) (at : ℕ) (vs : List ℕ) (p : ℕ) → (p + 25 ≤ at) ⊎ (at + length vs ≤ p) → desc_in (over tb at vs) p ≡ desc_in tb p
desc_away tb at vs p (inl h) = desc_agree (over tb at vs) tb p (λ i a b. over_out tb at vs i (omega arith))
desc_away tb at vs p (inr h) = desc_agree (over tb at vs) tb p (λ i a b. over_out tb at vs i (omega arith))

-- a descriptor's size is the first number in its bytes
pub desc_size : (tb : List ℕ) (p : ℕ) → (desc_in tb p).size ≡ num 8 tb p
unfolding desc_in
desc_size tb p = refl

-- ---- the three fields written

pub length_fields : (s : Shape) (size top d : ℕ) → length (fields s size top d) ≡ 24
length_fields s size top d = simp (length-append, length-bytes) refl

module _ (s : Shape) (tb : List ℕ) (at size top d : ℕ) (fits : at + 24 ≤ length tb) where
  abbrev tb' : List ℕ
  tb' = over tb at (fields s size top d)

  field : (off v : ℕ) (front back : List ℕ) → fields s size top d ≡ front ++ (bytes 8 v ++ back) → length front ≡ off → off + 8 ≤ 24 → v < 256 ^ 8 → (p : ℕ) → p ≡ at + off → num 8 tb' p ≡ v
  field off v front back e l m small p pe = num-at 8 tb' p v small (λ k h.
      over_in tb at (fields s size top d) (p + k) (off + k) (omega arith) (rw (length_fields s size top d) (omega arith)) (omega arith)
      ∙ rw (e, ← l, get_or-append-add front (bytes 8 v ++ back) k 0) (get_or-append (bytes 8 v) back 0 k (rw length-bytes h)))

  pub desc_put : size < 256 ^ 8 → top < 256 ^ 8 → d * s.size < 256 ^ 8
      → desc_in tb' at ≡ record { size = size; top = top; reserved = d * s.size; flags = (desc_in tb at).flags }
  unfolding desc_in
  desc_put a b r =
      let e₁ = field 0 size [] (bytes 8 top ++ bytes 8 (d * s.size)) (append_assoc (bytes 8 size) (bytes 8 top) _) refl (omega arith) a at (omega arith) in
      let e₂ = field 8 top (bytes 8 size) (bytes 8 (d * s.size)) (append_assoc (bytes 8 size) (bytes 8 top) _) (length-bytes 8 size) (omega arith) b (at + 8) refl in
      let e₃ = field 16 (d * s.size) (bytes 8 size ++ bytes 8 top) [] (rw append-nil) (rw (length-append, length-bytes, length-bytes)) (omega arith) r (at + 16) refl in
      let e₄ : get_or tb' (at + 24) 0 ≡ get_or tb (at + 24) 0 = over_out tb at (fields s size top d) (at + 24) (omega (arith, length_fields s size top d)) in
      λ i. record { size = e₁ i; top = e₂ i; reserved = e₃ i; flags = e₄ i }

-- ---- the two fields of a free descriptor written

module _ (tb : List ℕ) (at a b : ℕ) (fits : at + 16 ≤ length tb) where
  abbrev vs : List ℕ
  vs = bytes 8 a ++ bytes 8 b

  pub length_two : length (bytes 8 a ++ bytes 8 b) ≡ 16
  length_two = simp (length-append, length-bytes) refl

  two_first : a < 256 ^ 8 → num 8 (over tb at vs) at ≡ a
  two_first h = num-at 8 (over tb at vs) at a h (λ k l. over_in tb at vs (at + k) k refl (omega (arith, length_two)) (omega arith) ∙ get_or-append (bytes 8 a) (bytes 8 b) 0 k (rw length-bytes l))

  two_second : b < 256 ^ 8 → num 8 (over tb at vs) (at + 8) ≡ b
  two_second h = num-at 8 (over tb at vs) (at + 8) b h (λ k l. over_in tb at vs (at + 8 + k) (8 + k) (omega arith) (omega (arith, length_two)) (omega arith)
      ∙ (rw (length-bytes 8 a) at (get_or-append-add (bytes 8 a) (bytes 8 b) k 0)))

  pub desc_two : a < 256 ^ 8 → b < 256 ^ 8 → desc_in (over tb at vs) at ≡ record { size = a; top = b; reserved = (desc_in tb at).reserved; flags = (desc_in tb at).flags }
  unfolding desc_in
  desc_two h h' =
      let e₁ = two_first h in
      let e₂ = two_second h' in
      let e₃ = num-over 8 tb at vs (at + 16) (omega (arith, length_two)) in
      let e₄ : get_or (over tb at vs) (at + 24) 0 ≡ get_or tb (at + 24) 0 = over_out tb at vs (at + 24) (omega (arith, length_two)) in
      λ i. record { size = e₁ i; top = e₂ i; reserved = e₃ i; flags = e₄ i }

-- ---- a blank descriptor

pub num-zero : (n : ℕ) (l : List ℕ) (p : ℕ) → ((i : ℕ) → p ≤ i → i < p + n → get_or l i 0 ≡ 0) → num n l p ≡ 0
unfolding num
num-zero zero l p h = refl
num-zero (suc n) l p h = omega (arith, h p (omega arith) (omega arith), num-zero n l (p + 1) (λ i a b. h i (omega arith) (omega arith)))

abbrev pub blank : Desc
blank = record { size = 0; top = 0; reserved = 0; flags = 0 }

pub desc_blank : (l : List ℕ) (p : ℕ) → ((i : ℕ) → p ≤ i → i < p + 25 → get_or l i 0 ≡ 0) → desc_in l p ≡ blank
unfolding desc_in
desc_blank l p h =
    let a = num-zero 8 l p (λ i u v. h i (omega arith) (omega arith)) in
    let b = num-zero 8 l (p + 8) (λ i u v. h i (omega arith) (omega arith)) in
    let d = num-zero 8 l (p + 16) (λ i u v. h i (omega arith) (omega arith)) in
    let e = h (p + 24) (omega arith) (omega arith) in
    λ i. record { size = a i; top = b i; reserved = d i; flags = e i }

-- 25 zeros written
pub zeros-at : (tb : List ℕ) (p : ℕ) → p + 25 ≤ length tb → desc_in (over tb p (replicate 25 0)) p ≡ blank
zeros-at tb p h = desc_blank _ p (λ i a b. over_in tb p (replicate 25 0) i (i - p) (omega arith) (omega arith) (omega arith) ∙ get_or-replicate 25 (i - p) 0 0 (omega arith))
