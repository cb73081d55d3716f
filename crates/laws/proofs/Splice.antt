-- Bytes written over a list, from a place in it, perhaps past its end.
use mathlib.Core.Path.{◌≡◌, refl, sym, ◌∙◌}
use mathlib.Core.List.{List, ◌++◌, append-nil, append_assoc}
use Prim.Native.Nat.{ℕ, ◌+◌, ◌-◌, ◌≤◌, ◌<◌, max}
use native.Mathlib.Decide.{dec_lt}
use native.Mathlib.Omega.{arith}
use lib.ListN.{length, get_or, take, drop, length-take, length-drop, length-append, drop_of_length-le, take-append-drop, get_or-append}
use lib.Seq.{ext_get_or, get_or-take, get_or-drop, get_or-append-add, take_all, take_at}
use Rattle.layout.specs.Bytes.{over, spliced}
use Rattle.laws.proofs.ByteLaws.{over_in, over_out, length_over}

-- the front, the new bytes, and what is left behind them
append_at : (xs ys : List ℕ) (n q : ℕ) → q ≡ length xs + n → get_or (xs ++ ys) q 0 ≡ get_or ys n 0
append_at xs ys n q e = rw e (get_or-append-add xs ys n 0)

module _ (l : List ℕ) (p : ℕ) (vs : List ℕ) (at : p ≤ length l) where
  front : length (take p l) ≡ p
  front = rw length-take (omega arith)

  pub length-spliced : length (spliced l p vs) ≡ max (length l) (p + length vs)
  unfolding spliced
  length-spliced = rw (length-append, front, length-append, length-drop) (omega arith)

  -- byte q, before the new bytes, in them and behind them
  spliced_fore : (q : ℕ) → q < p → get_or (spliced l p vs) q 0 ≡ get_or l q 0
  unfolding spliced
  spliced_fore q u = get_or-append (take p l) _ 0 q (rw front u) ∙ get_or-take p l q 0 u

  spliced_new : (q k : ℕ) → q ≡ p + k → k < length vs → get_or (spliced l p vs) q 0 ≡ get_or vs k 0
  unfolding spliced
  spliced_new q k e v = append_at (take p l) (vs ++ drop (p + length vs) l) k q (rw front e) ∙ get_or-append vs (drop (p + length vs) l) 0 k v

  spliced_aft : (q k : ℕ) → q ≡ p + length vs + k → get_or (spliced l p vs) q 0 ≡ get_or l q 0
  unfolding spliced
  spliced_aft q k e =
      append_at (take p l) (vs ++ drop (p + length vs) l) (length vs + k) q (rw front (omega arith))
      ∙ append_at vs (drop (p + length vs) l) k (length vs + k) refl
      ∙ get_or-drop (p + length vs) l k 0
      ∙ rw (← e)

  -- a list just long enough, with the old bytes in front, written over from p on
  pub splice_over : (t : List ℕ) → length t ≡ max (length l) (p + length vs) → ((q : ℕ) → q < length l → get_or t q 0 ≡ get_or l q 0) → over t p vs ≡ spliced l p vs
  splice_over t n same = ext_get_or 0 _ _ (length_over t p vs ∙ n ∙ sym length-spliced) (λ q m. byte q (rw length_over at m))
    where
      byte : (q : ℕ) → q < length t → get_or (over t p vs) q 0 ≡ get_or (spliced l p vs) q 0
      byte q m = elim (dec_lt q p) [
        | yes u ↦ over_out t p vs q (omega arith) ∙ same q (omega arith) ∙ sym (spliced_fore q u)
        | no u ↦ elim (dec_lt q (p + length vs)) [
          | yes v ↦ over_in t p vs q (q - p) (omega arith) (omega arith) m ∙ sym (spliced_new q (q - p) (omega arith) (omega arith))
          | no v ↦ over_out t p vs q (omega arith) ∙ same q (omega arith) ∙ sym (spliced_aft q (q - p - length vs) (omega arith))
        ]
      ]

-- at the very end
pub spliced_end : (l vs : List ℕ) (p : ℕ) → length l ≡ p → spliced l p vs ≡ l ++ vs
unfolding spliced
spliced_end l vs p e = rw (take_all p l (omega arith), drop_of_length-le l {i = p + length vs} (omega arith), append-nil)

-- a list that is at least as long as r and starts as it does, with the rest of r written over it, starts with r
pub over-rest : (t r : List ℕ) (p : ℕ) → p ≤ length r → length r ≤ length t → take p t ≡ take p r → take (length r) (over t p (drop p r)) ≡ r
over-rest t r p a b e =
    let d = length-drop p r in
    let o : over t p (drop p r) ≡ spliced t p (drop p r) = splice_over t p (drop p r) (omega arith) t (omega arith) (λ q m. refl) in
    let w : spliced t p (drop p r) ≡ r ++ drop (p + length (drop p r)) t = unfold spliced in rw (e, ← append_assoc, take-append-drop p r) in
    rw (o, w) (take_at r (drop (p + length (drop p r)) t) (length r) refl)
