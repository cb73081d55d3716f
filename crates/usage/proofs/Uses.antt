-- The blocks in use: the loop over the descriptors, and the definition's list.
use mathlib.Core.Path.{◌≡◌, refl, sym, ◌∙◌}
use mathlib.Core.Bool.{Bool, true, false}
use mathlib.Core.List.{List, [], ◌∷◌, ◌++◌}
use Prim.Native.Nat.{ℕ, zero, suc, ◌+◌, ◌≤◌}
use lib.ListN.{length, replicate}
use Rattle.layout.specs.Bytes.{over, run, those, join, pick}
use Rattle.layout.specs.Sound.{used, rule6}
use Rattle.laws.proofs.Marking.{mark-separate}
use Rattle.layout.specs.Blocks.{pyramid}
use Rattle.layout.specs.Streams.{data_of, desc_of, dead, live, lives, slots, stream, stream_blocks, table, table_blocks, table_bytes}
use Rattle.marking.proofs.Walking.{Marked, Rest, cleared, part_stops, part_goes, rest_goes, rest_stops, rest-ends}
use Rattle.usage.specs.Used.{blocks_of, used_from, InUse}
use Rattle.layout.specs.declared.Shape.{Shape}
use Rattle.layout.specs.declared.Desc.{Desc}

-- ---- the streams, one after the other

module _ (c : List ℕ) (s : Shape) (tab : List ℕ) (k left : ℕ) (m m₀ bs₀ : List ℕ) (rest : Rest s.count m (used_from c s tab k left) m₀ bs₀) where
  module _ (t : Desc) (m' : List ℕ) (r : Bool) (less : ℕ) (more : left ≡ suc less) (e : t ≡ desc_of tab k) (p : Marked s.count m (blocks_of c s t) r m') where
    there : Rest s.count m (blocks_of c s t ++ used_from c s tab (k + 1) less) m₀ bs₀
    unfolding used_from
    there = rw e (rw more at rest)

    pub used_turn : r ≡ true → Rest s.count m' (used_from c s tab (k + 1) less) m₀ bs₀
    used_turn f = rest_goes s.count m m' m₀ (blocks_of c s t) (used_from c s tab (k + 1) less) bs₀ r p f there

    pub used_stop : r ≡ false → Marked s.count m₀ bs₀ false m'
    used_stop f = rest_stops s.count m m' m₀ (blocks_of c s t) (used_from c s tab (k + 1) less) bs₀ r p f there

  pub used-done : left ≡ 0 → Marked s.count m₀ bs₀ true m
  unfolding used_from
  used-done h = rest-ends s.count m m₀ (used_from c s tab k left) bs₀ (rw h) rest

-- ---- the table's blocks first

module _ (c : List ℕ) (s : Shape) (t : Desc) (e : t ≡ table c s) (m m₁ m₂ ys : List ℕ) (r : Bool) (a : m₁ ≡ over m 0 (replicate s.count 0))
    (p : Marked s.count m₁ (pyramid c s t.top (data_of s t)) r m₂) where
  table-marked : Marked s.count (over m 0 (replicate s.count 0)) (table_blocks c s) r m₂
  unfolding table_blocks
  table-marked = rw (a, e) at p

  pub all_stops : r ≡ false → Marked s.count (over m 0 (replicate s.count 0)) (table_blocks c s ++ ys) r m₂
  all_stops f = rw f (part_stops s.count _ m₂ (table_blocks c s) ys r table-marked f)

  pub all_goes : r ≡ true → (q : Bool) (m₃ : List ℕ) → Marked s.count m₂ ys q m₃ → Marked s.count (over m 0 (replicate s.count 0)) (table_blocks c s ++ ys) q m₃
  all_goes f q m₃ t' = part_goes s.count _ m₂ m₃ (table_blocks c s) ys r q table-marked f t'

-- ---- by the table's own bytes it is the definition's list

join-pick : (f : ℕ → List ℕ) (b : Bool) (x : ℕ) (xs : List ℕ) → join f (pick b (x ∷ xs) xs) ≡ pick b (f x) [] ++ join f xs
unfolding join
join-pick f true x xs = refl
join-pick f false x xs = refl

module _ (c : List ℕ) (s : Shape) (tab : List ℕ) (agree : (k : ℕ) → desc_of tab k ≡ stream c s k) where
  used_is : (from n : ℕ) → used_from c s tab from n ≡ join (stream_blocks c s) (those (live (table_bytes c s)) (run from n))
  unfolding used_from those run join blocks_of live dead stream_blocks stream
  used_is from zero = refl
  used_is from (suc n) = rw (agree from, used_is (from + 1) n) (sym (join-pick (stream_blocks c s) (live (table_bytes c s) from) from (those (live (table_bytes c s)) (run (from + 1) n))))

  used_all : (n : ℕ) → n ≡ slots (table_bytes c s) → table_blocks c s ++ used_from c s tab 0 n ≡ used c s
  unfolding used lives
  used_all n e = rw (used_is 0 n, e)

  module _ (n : ℕ) (m m' : List ℕ) (r : Bool) (e : n ≡ slots (table_bytes c s)) (long : s.count ≤ length m)
      (p : Marked s.count (over m 0 (replicate s.count 0)) (table_blocks c s ++ used_from c s tab 0 n) r m') where
    used-marked : Marked s.count (over m 0 (replicate s.count 0)) (used c s) r m'
    used-marked = rw (used_all n e) at p

    pub rule6_is : r ≡ rule6 c s
    unfolding rule6
    rule6_is = let y = cleared m _ s.count long refl in used-marked.0 ∙ mark-separate s.count _ y.0 y.1 (used c s)

    pub in_use_lem : r ≡ true → InUse c s m'
    in_use_lem f =
        let y = cleared m _ s.count long refl in
        record { start = over m 0 (replicate s.count 0); long = y.0; zeros = y.1; ok = sym used-marked.0 ∙ f; marks = used-marked.1 }
