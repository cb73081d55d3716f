-- An entry laid out on a page, and bytes pulled forward page by page: the steps of the work give the definitions.
use mathlib.Core.Path.{◌≡◌, refl, sym, ap, ◌∙◌}
use mathlib.Core.List.{List, ◌++◌}
use Prim.Native.Nat.{ℕ, zero, suc, ◌+◌, ◌-◌, min, ◌≤◌, ◌<◌}
use native.Mathlib.Decide.{dec_le}
use native.Mathlib.Omega.{arith}
use lib.ListN.{length, take, drop, replicate, length-append, length-take, length-drop, length-replicate}
use lib.Seq.{take_all}
use Rattle.layout.specs.Bytes.{bytes, over, put}
use Rattle.layout.specs.Streams.{data_of, tall, laid, stream, in_stream, lengthened, shortened}
use Rattle.layout.specs.Filing.{entry_bytes}
use Rattle.laws.proofs.Picks.{leb_yes, leb_no}
use Rattle.laws.proofs.ByteLaws.{length-bytes, over-append, take-over}
use Rattle.laws.proofs.Listing.{length-entry}
use Rattle.laws.proofs.Laying.{length-contents}
use Rattle.filing.specs.Edited.{page, bytes_of, moved, entered, drawn, removed}
use Rattle.layout.specs.declared.Shape.{Shape}
use Rattle.layout.specs.declared.Desc.{Desc}

-- ---- an entry more

pub entry-put : (l l₁ l₂ l₃ : List ℕ) (index : ℕ) (name : List ℕ) → l₁ ≡ put 4 l 0 index → l₂ ≡ put 2 l₁ 4 (length name) → l₃ ≡ over l₂ 6 (take (length name) (drop 0 name))
    → l₃ ≡ over l 0 (entry_bytes index name)
unfolding put entry_bytes
entry-put l l₁ l₂ l₃ index name e f g =
    let a = bytes 4 index in
    let b = bytes 2 (length name) in
    let n : length (a ++ b) ≡ 6 = simp (length-append, length-bytes) refl in
    let w : take (length name) name ≡ name = take_all (length name) name (omega arith) in
    let x : over l 0 (a ++ b ++ name) ≡ over (over l 0 (a ++ b)) 6 name = rw (over-append l 0 (a ++ b) name, n) in
    let y : over l 0 (a ++ b) ≡ over (over l 0 a) 4 b = rw (over-append l 0 a b, length-bytes 4 index) in
    g ∙ rw (w, f, e) (sym (x ∙ ap (λ (t : List ℕ). over t 6 name) y))

pub appended : (c c₁ c₂ sheet : List ℕ) (s : Shape) (k p index n : ℕ) (name : List ℕ) → length name ≤ 64 → n ≡ 6 + length name → sheet ≡ over (replicate 70 0) 0 (entry_bytes index name)
    → c₁ ≡ lengthened c s k (p + n) → c₂ ≡ in_stream c₁ s k p (take n sheet) → c₂ ≡ entered c s k p index name
unfolding entered
appended c c₁ c₂ sheet s k p index n name h m e f g =
    let x : take n sheet ≡ entry_bytes index name = rw e (take-over (replicate 70 0) (entry_bytes index name) n (m ∙ sym (length-entry index name)) (rw length-replicate (omega arith))) in
    let y : p + n ≡ p + 6 + length name = omega arith in
    g ∙ rw (x, f, y)

-- ---- pulled forward

module _ (c : List ℕ) (s : Shape) (t : Desc) where
  pub length_part : (q n : ℕ) → q + n ≤ t.size → length (take n (drop q (bytes_of c s t))) ≡ n
  length_part q n h = rw (length-take, length-drop, length-contents) (omega arith)

  pub page-pulled : (c₁ sheet : List ℕ) (p q n : ℕ) → n ≤ page → q + n ≤ t.size → sheet ≡ over (replicate page 0) 0 (take n (drop q (bytes_of c s t)))
      → c₁ ≡ laid c s t.top (tall s (data_of s t)) p (take n (drop 0 sheet)) → c₁ ≡ moved c s t p q n
  page-pulled c₁ sheet p q n a b f g =
      let vs = take n (drop q (bytes_of c s t)) in
      let x : take n sheet ≡ vs = rw f (take-over (replicate page 0) vs n (sym (length_part q n b)) (rw length-replicate a)) in
      g ∙ rw x

module _ (s : Shape) (t : Desc) where
  -- the bound does not matter where it is not below the bytes that are left
  drawn_bound : (g g' : ℕ) (c : List ℕ) (p q : ℕ) → t.size ≤ q + g → t.size ≤ q + g' → drawn g c s t p q ≡ drawn g' c s t p q
  unfolding drawn
  drawn_bound zero zero c p q h k = refl
  drawn_bound zero (suc g') c p q h k = rw (leb_yes {a = t.size} {b = q} (omega arith))
  drawn_bound (suc g) zero c p q h k = rw (leb_yes {a = t.size} {b = q} (omega arith))
  drawn_bound (suc g) (suc g') c p q h k = elim (dec_le t.size q) [
    | yes l ↦ rw (leb_yes {a = t.size} {b = q} l)
    | no l ↦ rw (leb_no {a = t.size} {b = q} (omega arith)) (drawn_bound g g' _ _ (q + min page (t.size - q)) (omega arith) (omega arith))
  ]

  opened : (g : ℕ) (c : List ℕ) (p q n : ℕ) → q < t.size → n ≡ min page (t.size - q) → drawn (suc g) c s t p q ≡ drawn g (moved c s t p q n) s t (p + n) (q + n)
  unfolding drawn
  opened g c p q n h e = rw (leb_no {a = t.size} {b = q} h, e)

  pub drawn-step : (g : ℕ) (c : List ℕ) (p q n : ℕ) → t.size ≤ q + g → q < t.size → n ≡ min page (t.size - q) → drawn g (moved c s t p q n) s t (p + n) (q + n) ≡ drawn g c s t p q
  drawn-step g c p q n h k e = sym (drawn_bound g (suc g) c p q h (omega arith) ∙ opened g c p q n k e)

  pub drawn_stop : (g : ℕ) (c : List ℕ) (p q : ℕ) → t.size ≤ q + g → t.size ≤ q → drawn g c s t p q ≡ c
  unfolding drawn
  drawn_stop g c p q h k = drawn_bound g 0 c p q h (omega arith)

  -- the last page may be short
  pub drawn_page : (c : List ℕ) (p q from n : ℕ) → q ≤ from → from < t.size → n ≡ min page (t.size - from)
      → drawn t.size (moved c s t (p + (from - q)) from n) s t (p + (from + page - q)) (from + page) ≡ drawn t.size c s t (p + (from - q)) from
  drawn_page c p q from n a h e = elim (dec_le page (t.size - from)) [
    | yes l ↦ (let z : n ≡ page = omega arith in
        let y : p + (from + page - q) ≡ p + (from - q) + page = omega arith in
        rw y (ap (λ (x : ℕ). drawn t.size (moved c s t (p + (from - q)) from n) s t (p + (from - q) + x) (from + x)) (sym z) ∙ drawn-step t.size c (p + (from - q)) from n (omega arith) h e))
    | no l ↦ drawn_stop t.size _ _ _ (omega arith) (omega arith) ∙ sym (drawn_stop t.size _ (p + (from - q) + n) (from + n) (omega arith) (omega arith)) ∙ drawn-step t.size c (p + (from - q)) from n (omega arith) h e
  ]

pub taken_out : (c c₁ c₂ : List ℕ) (s : Shape) (k at n m : ℕ) (t : Desc) → t ≡ stream c s k → c₁ ≡ drawn t.size c s t at (at + n) → m ≡ t.size - n → c₂ ≡ shortened c₁ s k m → c₂ ≡ removed c s k at n
unfolding removed
taken_out c c₁ c₂ s k at n m t e f g h = h ∙ rw (g, f, e)

pub size_fits : (c : List ℕ) (s : Shape) (k m : ℕ) (t : Desc) → t ≡ stream c s k → (stream c s k).size < m → t.size < m
size_fits c s k m t e h = rw e h
