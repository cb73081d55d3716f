-- Bytes written in place.
use mathlib.Core.Path.{◌≡◌, refl, sym, ap, ◌∙◌}
use mathlib.Core.Logic.{◌≢◌}
use mathlib.Core.List.{List}
use Prim.Native.Nat.{ℕ, zero, suc, ◌+◌, ◌-◌, ◌*◌, ◌/◌, ◌%◌, ◌≤◌, ◌<◌}
use native.Mathlib.Nat.{mod-lt, div-add-mod', div-lt_iff_lt-mul}
use native.Mathlib.Decide.{ℕ_discrete, dec_le, dec_lt}
use native.Mathlib.Omega.{arith}
use lib.ListN.{length, get_or, length-set, length-map}
use lib.Seq.{get_or-set_same, get_or-set_other, ext_get_or}
use Rattle.layout.specs.Bytes.{num, run, over}
use Rattle.laws.proofs.ByteLaws.{num_agree, over_in, over_out, length_over}
use Rattle.laws.proofs.Lists.{length_run, map-run-at}
use Rattle.layout.specs.Pyramid.{level}
use Rattle.laws.proofs.Levels.{level_holds}
use Rattle.layout.specs.Blocks.{fan, node, first_free, next}
use Rattle.laws.proofs.Frame.{Inside, SameIn, same-slot, same-node}
use Rattle.laws.proofs.Chain.{Good, Room, one_block, within, same_next}
use Rattle.laws.proofs.Links.{links_same}
use Rattle.laws.proofs.Hanging.{two}
use Rattle.laws.proofs.Growth.{Skeleton}
use Rattle.layout.specs.Streams.{spot, tall, contents, laid_to}
use Rattle.layout.specs.declared.Shape.{Shape}

module _ (s : Shape) (good : Good s) (c : List ℕ) (top h d p : ℕ) (vs free : List ℕ)
    (room : Room c s free) (sk : Skeleton c s top h d free) where
  big : 0 < s.size
  big = omega (arith, good.wide)

  -- the byte's place in its data block
  pub spot-inside : (q : ℕ) → Inside s (node c s top h (q / s.size)) (spot c s top h q)
  spot-inside q = let m : q % s.size < s.size = mod-lt q big in (omega arith, omega arith)

  pub data_in : (q : ℕ) → q < d * s.size → q / s.size < d
  data_in q l = (div-lt_iff_lt-mul {k = s.size} big).1 l

  pub spot-long : (q : ℕ) → q < d * s.size → spot c s top h q < length c
  unfolding level
  spot-long q l = within s good c free room _ (q % s.size) (sk.low h 0 (q / s.size) (omega arith) (data_in q l)) (mod-lt q big)

  -- two bytes of a stream are at two places
  pub spot_apart : (q q' : ℕ) → q < d * s.size → q' < d * s.size → spot c s top h q ≡ spot c s top h q' → q ≡ q'
  unfolding level
  spot_apart q q' l l' e =
      let b = one_block s good _ _ (spot c s top h q') (rw e at (spot-inside q)) (spot-inside q') in
      let z = sk.apart h 0 (q / s.size) h 0 (q' / s.size) (omega arith) (data_in q l) (omega arith) (data_in q' l') b in
      let rem : q % s.size ≡ q' % s.size = omega (arith, e, ap (λ (x : ℕ). x * s.size) b) in
      omega (arith, rw z.1 at (div-add-mod' q s.size), rem, div-add-mod' q' s.size)

  pub laid-long : (n : ℕ) → length (laid_to n c s top h p vs) ≡ length c
  unfolding laid_to
  laid-long zero = refl
  laid-long (suc n) = rw length-set (laid-long n)

  pub laid_else : (n i : ℕ) → ((k : ℕ) → k < n → i ≢ spot c s top h (p + k)) → get_or (laid_to n c s top h p vs) i 0 ≡ get_or c i 0
  unfolding laid_to
  laid_else zero i a = refl
  laid_else (suc n) i a = get_or-set_other (laid_to n c s top h p vs) (spot c s top h (p + n)) i (get_or vs n 0) 0 (a n (omega arith)) ∙ laid_else n i (λ k l. a k (omega arith))

  pub laid_in : (n k : ℕ) → p + n ≤ d * s.size → k < n → get_or (laid_to n c s top h p vs) (spot c s top h (p + k)) 0 ≡ get_or vs k 0
  unfolding laid_to
  laid_in zero k f l = absurd (omega arith)
  laid_in (suc n) k f l = elim (ℕ_discrete k n) [
    | yes e ↦ rw e (get_or-set_same (laid_to n c s top h p vs) (spot c s top h (p + n)) (get_or vs n 0) 0 (rw (laid-long n) (spot-long (p + n) (omega arith))))
    | no u ↦ get_or-set_other (laid_to n c s top h p vs) (spot c s top h (p + n)) (spot c s top h (p + k)) (get_or vs n 0) 0 (λ e. u (omega (arith, spot_apart (p + k) (p + n) (omega arith) (omega arith) e))) ∙ laid_in n k (omega arith) (omega arith)
  ]

  -- a block that is none of the stream's data keeps its bytes
  pub laid_same : (n b : ℕ) → p + n ≤ d * s.size → ((j : ℕ) → j < d → b ≢ node c s top h j) → SameIn s c (laid_to n c s top h p vs) b
  laid_same n b f a i u v = laid_else n i (λ k l e. a ((p + k) / s.size) (data_in (p + k) (omega arith))
      (one_block s good b _ i (u, v) (rw e (spot-inside (p + k)))))

  -- so do the redirectors, and the pyramid stays
  pub laid-node : (n e k j : ℕ) → p + n ≤ d * s.size → e + k ≡ h → j < level (fan s) k d → node (laid_to n c s top h p vs) s top e j ≡ node c s top e j
  unfolding level
  laid-node n e k j f u v = same-node s (two s good) c (laid_to n c s top h p vs) top h d (λ e k j u v.
      same-slot s (two s good) c (laid_to n c s top h p vs) _ _ (mod-lt j (omega (arith, two s good)))
      (laid_same n _ f (λ j' l w. let z = sk.apart e (suc k) (j / fan s) h 0 j' u (level_holds (fan s) (two s good) k d j v) (omega arith) l w in omega arith))) e k j u v

  pub laid_skeleton : (n : ℕ) → p + n ≤ d * s.size → Skeleton (laid_to n c s top h p vs) s top h d free
  laid_skeleton n f = record {
    low = λ e k j u v. rw (laid-node n e k j f u v) (sk.low e k j u v);
    apart = λ e k j e' k' j' u v u' v' w. sk.apart e k j e' k' j' u v u' v' (sym (laid-node n e k j f u v) ∙ w ∙ laid-node n e' k' j' f u' v');
    out = λ e k j u v i. sk.out e k j u v (rw (laid-node n e k j f u v) at i);
  }

  pub laid-room : (n : ℕ) → p + n ≤ d * s.size → Room (laid_to n c s top h p vs) s free
  unfolding level
  laid-room n f =
      let field : num 8 (laid_to n c s top h p vs) s.first ≡ num 8 c s.first = num_agree 8 _ c s.first (λ i u v. laid_else n i (λ k l e. omega (arith, good.header))) in
      record {
        long = rw (laid-long n) room.long;
        links = rw field (links_same (next c s) _ (first_free c s) free room.links (λ x i. same_next s good c _ x
            (laid_same n x f (λ j l e. sk.out h 0 j (omega arith) l (rw (← e) i)))));
        low = room.low;
        apart = room.apart;
      }

-- the stream's bytes, one by one
pub contents-at : (c : List ℕ) (s : Shape) (top d size q : ℕ) → q < size → get_or (contents c s top d size) q 0 ≡ get_or c (spot c s top (tall s d) q) 0
unfolding contents
contents-at c s top d size q l = map-run-at _ 0 size q q (omega arith) l

pub length-contents : (c : List ℕ) (s : Shape) (top d size : ℕ) → length (contents c s top d size) ≡ size
unfolding contents
length-contents c s top d size = length-map (run 0 size) _ ∙ length_run 0 size

-- what was written is what is read
module _ (s : Shape) (good : Good s) (c : List ℕ) (top d size p : ℕ) (vs free : List ℕ)
    (room : Room c s free) (sk : Skeleton c s top (tall s d) d free) (room_for : size ≤ d * s.size) (fits : p + length vs ≤ size) where
  abbrev new : List ℕ
  new = laid_to (length vs) c s top (tall s d) p vs

  -- a byte is where it was
  pub spot_stays : (q : ℕ) → q < size → spot new s top (tall s d) q ≡ spot c s top (tall s d) q
  unfolding level
  spot_stays q l = rw (laid-node s good c top (tall s d) d p vs free room sk (length vs) (tall s d) 0 (q / s.size) (omega arith) (omega arith)
      (data_in s good c top (tall s d) d p vs free room sk q (omega arith)))

  byte : (q : ℕ) → q < size → get_or new (spot c s top (tall s d) q) 0 ≡ get_or (over (contents c s top d size) p vs) q 0
  byte q l = elim (dec_le p q) [
    | yes a ↦ elim (dec_lt q (p + length vs)) [
      | yes b ↦ (let e : p + (q - p) ≡ q = omega arith in
          rw e at (laid_in s good c top (tall s d) d p vs free room sk (length vs) (q - p) (omega arith) (omega arith))
          ∙ sym (over_in (contents c s top d size) p vs q (q - p) (sym e) (omega arith) (rw length-contents l)))
      | no b ↦ away (omega arith)
    ]
    | no a ↦ away (omega arith)
  ]
    where
      away : (p ≤ q → q < p + length vs → ⊥) → get_or new (spot c s top (tall s d) q) 0 ≡ get_or (over (contents c s top d size) p vs) q 0
      away n =
          laid_else s good c top (tall s d) d p vs free room sk (length vs) _
          (λ k u e. let z = spot_apart s good c top (tall s d) d p vs free room sk q (p + k) (omega arith) (omega arith) e in n (omega arith) (omega arith))
          ∙ sym (over_out (contents c s top d size) p vs q n ∙ contents-at c s top d size q l)

  pub contents-laid_to : contents new s top d size ≡ over (contents c s top d size) p vs
  contents-laid_to = ext_get_or 0 _ _ (length-contents _ s top d size ∙ sym (length_over _ p vs ∙ length-contents c s top d size)) (λ q l.
      let l' : q < size = rw length-contents at l in
      contents-at new s top d size q l' ∙ rw (spot_stays q l') (byte q l'))
