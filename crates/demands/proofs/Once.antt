-- Every block of a whole card stands exactly once among the table's, the directory's, the named streams' and the free ones.
use mathlib.Core.Path.{◌≡◌, refl, sym, ap}
use mathlib.Core.Logic.{◌≢◌, inl, inr}
use mathlib.Core.List.{List, [], ◌∷◌, ◌++◌}
use Prim.Native.Nat.{ℕ, suc, ◌<◌}
use native.Mathlib.Decide.{ℕ_discrete}
use Rattle.layout.specs.Bytes.{join}
use Rattle.layout.specs.Blocks.{chain}
use Rattle.layout.specs.Streams.{table_blocks, stream_blocks}
use Rattle.layout.specs.Filing.{Entry, entries_of}
use Rattle.layout.specs.Header.{shape_of}
use Rattle.layout.specs.Calls.{root_of}
use Rattle.laws.proofs.Picks.{eqb_yes, eqb_no}
use Rattle.laws.proofs.Lists.{In, Distinct, in_left, in_right, in_either, distinct-both}
use Rattle.laws.proofs.Joins.{in_join, join_in, distinct-join}
use Rattle.laws.proofs.Sets.{Same, same_back}
use Rattle.laws.proofs.Entries.{indices}
use Rattle.laws.proofs.State.{lives_of, Whole}
use Rattle.demands.specs.Owners.{all_blocks, times}
use Rattle.demands.proofs.Named.{root_live, named_live, named_other}
use Rattle.demands.proofs.Ownership.{Owned, owned}
use Rattle.layout.specs.declared.Shape.{Shape}

-- ---- how often a number stands in a list

times_none : (b : ℕ) (xs : List ℕ) → (In b xs → ⊥) → times b xs ≡ 0
unfolding times
times_none b [] n = refl
times_none b (x ∷ xs) n = rw (eqb_no {a = b} {b = x} (λ e. n (inl e))) (times_none b xs (λ i. n (inr i)))

times-one : (b : ℕ) (xs : List ℕ) → Distinct xs → In b xs → times b xs ≡ 1
unfolding times
times-one b [] d x'' = elim x'' [ ]
times-one b (x ∷ xs) d (inl e) = rw (eqb_yes e) (ap suc (times_none b xs (λ i. d.0 (rw (← e) i))))
times-one b (x ∷ xs) d (inr i) = elim (ℕ_discrete b x) [
  | yes e ↦ absurd (d.0 (rw (← e) i))
  | no n ↦ rw (eqb_no n) (times-one b xs d.1 i)
]

-- ---- the blocks of a card

join-index : (f : ℕ → List ℕ) (es : List Entry) → join (λ e. f e.index) es ≡ join f (indices es)
unfolding join
join-index f [] = refl
join-index f (e ∷ es) = ap (λ (l : List ℕ). f e.index ++ l) (join-index f es)

module _ (c : List ℕ) (w : Whole c) where
  abbrev s : Shape
  s = shape_of c

  abbrev f : ℕ → List ℕ
  f = stream_blocks c s

  abbrev t : List ℕ
  t = table_blocks c s

  abbrev named : List ℕ
  named = join f (indices (root_of c))

  -- the directory and what it names are the live streams
  reach : Same (0 ∷ indices (root_of c)) (lives_of c s)
  unfolding entries_of
  reach = w.filed.reach

  o : Owned c s
  o = owned c w

  live : (k : ℕ) → In k (indices (root_of c)) → In k (lives_of c s)
  live = named_live c w

  root : In 0 (lives_of c s)
  root = root_live c w

  other : (k : ℕ) → In k (indices (root_of c)) → 0 ≢ k
  other k i e = named_other c w k i (sym e)

  named_in : (b : ℕ) → In b named → (k : ℕ) × (In k (indices (root_of c))) × (In b (f k))
  named_in b i = join_in f b (indices (root_of c)) i

  named_once : Distinct named
  named_once = distinct-join f (indices (root_of c)) reach.once.1 (λ k i. o.stream_once k (live k i)) (λ j k i i'. o.stream-stream j k (live j i) (live k i'))

  once₁ : Distinct (t ++ f 0)
  once₁ = distinct-both t (f 0) o.table_once (o.stream_once 0 root) (o.table-stream 0 root)

  once₂ : Distinct (t ++ f 0 ++ named)
  once₂ = distinct-both (t ++ f 0) named once₁ named_once (λ b i j.
      let r = named_in b j in
      elim (in_either b t (f 0) i) [
        | inl a ↦ o.table-stream r.0 (live r.0 r.1) b a r.2
        | inr a ↦ o.stream-stream 0 r.0 root (live r.0 r.1) (other r.0 r.1) b a r.2
      ])

  once₃ : Distinct (t ++ f 0 ++ named ++ chain c s)
  once₃ = distinct-both (t ++ f 0 ++ named) (chain c s) once₂ o.chain_once (λ b i j.
      elim (in_either b (t ++ f 0) named i) [
        | inl a ↦ elim (in_either b t (f 0) a) [ inl u ↦ o.table-chain b u j | inr u ↦ o.stream-chain 0 root b u j ]
        | inr a ↦ (let r = named_in b a in o.stream-chain r.0 (live r.0 r.1) b r.2 j)
      ])

  of_stream : (b k : ℕ) → In k (0 ∷ indices (root_of c)) → In b (f k) → In b (t ++ f 0 ++ named)
  of_stream b k (inl e) i = in_left b (t ++ f 0) named (in_right b t (f 0) (rw (← e) i))
  of_stream b k (inr m) i = in_right b (t ++ f 0) named (in_join f k b (indices (root_of c)) m i)

  there : (b : ℕ) → b < s.count → In b (t ++ f 0 ++ named ++ chain c s)
  there b l = elim (o.all b l) [
    | inl a ↦ in_left b (t ++ f 0 ++ named) (chain c s) (in_left b (t ++ f 0) named (in_left b t (f 0) a))
    | inr (inl a) ↦ in_left b (t ++ f 0 ++ named) (chain c s) (of_stream b a.0 (same_back (0 ∷ indices (root_of c)) (lives_of c s) reach a.0 a.1) a.2)
    | inr (inr a) ↦ in_right b (t ++ f 0 ++ named) (chain c s) a
  ]

  pub every_once : (b : ℕ) → b < s.count → times b (all_blocks c) ≡ 1
  unfolding all_blocks
  every_once b l = rw (join-index f (root_of c)) (times-one b (t ++ f 0 ++ named ++ chain c s) once₃ (there b l))
