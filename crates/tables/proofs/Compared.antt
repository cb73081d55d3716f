-- Marks compared with a test: a list that could be marked, and whose marks are right, has the same numbers as those that pass.
use mathlib.Core.Path.{◌≡◌, refl, sym, ap, ◌∙◌}
use mathlib.Core.Bool.{Bool, true, false, not}
use mathlib.Core.List.{List, [], ◌∷◌, map}
use Prim.Native.Nat.{ℕ, ◌≤◌, ◌<◌}
use native.Mathlib.Omega.{arith}
use lib.ListN.{length, get_or}
use lib.Dec.{T, eqb}
use Rattle.layout.specs.Bytes.{pick, both, run, those, all_b, holds, separate, below}
use Rattle.layout.specs.Marks.{mark_ok, mark_set}
use Rattle.layout.specs.Sound.{same_set}
use Rattle.laws.proofs.Lists.{In, Distinct, in_map, map_in, in_run, run_in, run-distinct, map-distinct}
use Rattle.laws.proofs.Lives.{those_in, in_those, those-distinct}
use Rattle.laws.proofs.Sets.{Same, same_of, same_back, is_same-set}
use Rattle.laws.proofs.Tests.{Is, is_holds, is_below, is_separate}
use Rattle.laws.proofs.Marking.{mark-separate, set_law, at-marked, both_true}
use Rattle.tables.specs.Compared.{right_mark}
use Rattle.tables.proofs.Every.{is_all_in}

-- two tests of statements that follow from each other are the same
pub same_test : {a b : Bool} {A B : Type 0} → Is a A → Is b B → (A → B) → (B → A) → a ≡ b
same_test {a} {b} {A} {B} p q f g = go a b (λ t. q.back (f (p.out t))) (λ t. p.back (g (q.out t)))
  where
    go : (a b : Bool) → (T a → T b) → (T b → T a) → a ≡ b
    go true true f g = refl
    go true false f g = absurd (f tt)
    go false true f g = absurd (g tt)
    go false false f g = refl

right_two : (h q : Bool) → Is (pick (not h) (not q) q) ((T q → T h) × (T h → T q))
right_two true true = record { out = λ t. (λ x. tt, λ x. tt); back = λ r. tt }
right_two true false = record { out = λ t. absurd t; back = λ r. r.1 tt }
right_two false true = record { out = λ t. absurd t; back = λ r. r.0 tt }
right_two false false = record { out = λ t. (λ x. x, λ x. x); back = λ r. tt }

yes : (b : Bool) → T b → b ≡ true
yes true t = refl
yes false t = absurd t

-- enc k is how the list writes number k; key finds the number of what it writes, and one that is not below n for anything else
module _ (n : ℕ) (m : List ℕ) (long : n ≤ length m) (zeros : (k : ℕ) → k < n → get_or m k 0 ≡ 0) (p : ℕ → Bool) (enc key : ℕ → ℕ)
    (key-enc : (k : ℕ) → k < n → key (enc k) ≡ k) (enc-key : (x : ℕ) → key x < n → x ≡ enc (key x)) (xs : List ℕ) where
  abbrev ks : List ℕ
  ks = map key xs

  abbrev ys : List ℕ
  ys = map enc (those p (run 0 n))

  -- what a mark says
  abbrev Right : ℕ → Type 0
  Right k = (T (p k) → T (holds k ks)) × (T (holds k ks) → T (p k))

  all_right : mark_ok n m ks ≡ true → Is (all_b (right_mark (mark_set n m ks) p) (run 0 n)) ((k : ℕ) → In k (run 0 n) → Right k)
  unfolding right_mark
  all_right ok = is_all_in (right_mark (mark_set n m ks) p) Right (run 0 n) (λ k i.
      let sep = (is_separate n ks).out (rw (← mark-separate n m long zeros ks, ok) tt) in
      let low : below (length m) ks ≡ true = yes (below (length m) ks) ((is_below (length m) ks).back (λ x j. omega (arith, sep.0 x j))) in
      let a : eqb (get_or (mark_set n m ks) k 0) 0 ≡ not (holds k ks) = rw (set_law n ks m ok) (at-marked ks m k low ∙ rw (zeros k (omega (arith, run_in 0 n k i))) (both_true (not (holds k ks)))) in
      rw a (right_two (holds k ks) (p k)))

  -- of a list with the same numbers
  module _ (w : Same xs ys) where
    each : (x : ℕ) → In x xs → (k : ℕ) × (In k (those p (run 0 n))) × (x ≡ enc k)
    each x i = map_in enc x (those p (run 0 n)) (w.all x i)

    low_of : (k : ℕ) → In k (those p (run 0 n)) → k < n
    low_of k i = omega (arith, run_in 0 n k (those_in p (run 0 n) k i).0)

    key_of : (x : ℕ) (i : In x xs) → key x ≡ (each x i).0
    key_of x i = let r = each x i in ap key r.2 ∙ key-enc r.0 (low_of r.0 r.1)

    same-separate : T (separate n ks)
    same-separate = (is_separate n ks).back (
      λ k i. (let r = map_in key k xs i in let e = key_of r.0 r.1 in rw (r.2, e) (low_of _ (each r.0 r.1).1)),
      map-distinct key xs w.once (λ x y i j e. (each x i).2 ∙ ap enc (sym (key_of x i) ∙ e ∙ key_of y j) ∙ sym (each y j).2),
    )

    same_right : (k : ℕ) → In k (run 0 n) → Right k
    same_right k i = (
      λ t. (is_holds k ks).back (let l = run_in 0 n k i in rw (key-enc k (omega (arith, l))) at (in_map key (enc k) xs (same_back xs ys w (enc k) (in_map enc k (those p (run 0 n)) (in_those p (run 0 n) k i t))))),
      λ t. (let r = map_in key k xs ((is_holds k ks).out t) in let e = r.2 ∙ key_of r.0 r.1 in rw e (those_in p (run 0 n) _ (each r.0 r.1).1).1),
    )

  -- of marks that are right
  module _ (sep : T (separate n ks)) (right : (k : ℕ) → In k (run 0 n) → Right k) where
    in_range : (x : ℕ) → In x xs → key x < n
    in_range x i = ((is_separate n ks).out sep).0 (key x) (in_map key x xs i)

    is_enc : (x : ℕ) → In x xs → x ≡ enc (key x)
    is_enc x i = enc-key x (in_range x i)

    right_same : Same xs ys
    right_same = same_of xs ys
        (unmap xs ((is_separate n ks).out sep).1)
        (map-distinct enc (those p (run 0 n)) (those-distinct p (run 0 n) (run-distinct 0 n)) (λ a b i j e.
        sym (key-enc a (omega (arith, run_in 0 n a (those_in p (run 0 n) a i).0))) ∙ ap key e ∙ key-enc b (omega (arith, run_in 0 n b (those_in p (run 0 n) b j).0))))
        (λ x i. (let k = key x in let l = in_run 0 n k (omega arith) (omega (arith, in_range x i)) in
        rw (is_enc x i) (in_map enc k (those p (run 0 n)) (in_those p (run 0 n) k l ((right k l).1 ((is_holds k ks).back (in_map key x xs i)))))))
        (λ y i. (let r = map_in enc y (those p (run 0 n)) i in let u = those_in p (run 0 n) r.0 r.1 in
        let v = map_in key r.0 xs ((is_holds r.0 ks).out ((right r.0 u.0).0 u.1)) in
        let e : y ≡ v.0 = r.2 ∙ ap enc v.2 ∙ sym (is_enc v.0 v.1) in
        rw e v.1))
      where
        unmap : (xs : List ℕ) → Distinct (map key xs) → Distinct xs
        unmap [] d = tt
        unmap (x ∷ xs) d = (λ i. d.0 (in_map key x xs i), unmap xs d.1)

  pub compared : both (mark_ok n m ks) (all_b (right_mark (mark_set n m ks) p) (run 0 n)) ≡ same_set xs ys
  compared = by (mark_ok n m ks) refl
    where
      by : (t : Bool) → mark_ok n m ks ≡ t → both t (all_b (right_mark (mark_set n m ks) p) (run 0 n)) ≡ same_set xs ys
      by true e = same_test (all_right e) (is_same-set xs ys) (right_same (rw (← mark-separate n m long zeros ks, e) tt)) same_right
      by false e = no (same_set xs ys) (λ t. (let a = same-separate ((is_same-set xs ys).out t) in rw (← mark-separate n m long zeros ks, e) at a))
        where
          no : (b : Bool) → (T b → ⊥) → false ≡ b
          no true f = absurd (f tt)
          no false f = refl
