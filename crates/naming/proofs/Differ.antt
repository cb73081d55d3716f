-- Names that differ from all earlier ones: the definition's test, and the loop over the entries.
use mathlib.Core.Path.{◌≡◌, refl, sym, ap, ◌∙◌}
use mathlib.Core.Logic.{inl, inr}
use mathlib.Core.Bool.{Bool, true, false}
use mathlib.Core.List.{List, [], ◌∷◌, map}
use Prim.Native.Nat.{ℕ, zero, suc, ◌+◌, ◌-◌, ◌≤◌, ◌<◌}
use native.Mathlib.Decide.{ℕ_discrete}
use native.Mathlib.Omega.{arith}
use lib.ListN.{length, drop, replicate, length-drop, length-replicate, get_or-replicate}
use lib.Dec.{T}
use Rattle.std.specs.Prelude.{Option, Some, None}
use Rattle.layout.specs.Bytes.{pick, both, same, run, all_b}
use Rattle.layout.specs.Filing.{Entry, name_length, entries_from, entries, distinct_names}
use Rattle.laws.proofs.Lists.{In, Distinct, in_run, run_in}
use Rattle.laws.proofs.Tests.{Is, is_not, is_same}
use Rattle.laws.proofs.Entries.{is_names}
use Rattle.filing.proofs.Finding.{entries_stop}
use Rattle.naming.specs.Buckets.{name_at, among, first_of, last_in, up_to, unlinked, Filed}
use Rattle.naming.specs.declared.apart.Link.{Link}
use Rattle.naming.specs.Rooted.{good_at, tidy_from, Tidy, Here}
use Rattle.tables.proofs.Every.{is_all_in}
use Rattle.tables.proofs.Compared.{same_test}
use Rattle.naming.proofs.Rooted.{tidy_step, here_is, rest-turn}

-- ---- what the tests say

module _ (es : List Entry) where
  is_among : (i : ℕ) (name : List ℕ) → Is (among es i name) ((j : ℕ) × (j < i) × (name_at es j ≡ name))
  unfolding among
  is_among zero name = record { out = λ t. absurd t; back = λ w. absurd (omega (arith, w.1)) }
  is_among (suc j) name = record { out = out (same (name_at es j) name) (is_same (name_at es j) name).out (is_among j name).out; back = back (is_among j name).back }
    where
      out : (b : Bool) → (T b → name_at es j ≡ name) → (T (among es j name) → (k : ℕ) × (k < j) × (name_at es k ≡ name)) → T (pick b true (among es j name)) → (k : ℕ) × (k < suc j) × (name_at es k ≡ name)
      out true f g t = (j, omega arith, f tt)
      out false f g t = let w = g t in (w.0, omega (arith, w.1), w.2)

      pick_left : (b x : Bool) → T b → T (pick b true x)
      pick_left true x t = tt
      pick_left false x t = absurd t

      pick_right : (b x : Bool) → T x → T (pick b true x)
      pick_right true x t = tt
      pick_right false x t = t

      back : ((k : ℕ) × (k < j) × (name_at es k ≡ name) → T (among es j name)) → (k : ℕ) × (k < suc j) × (name_at es k ≡ name) → T (pick (same (name_at es j) name) true (among es j name))
      back g w = elim (ℕ_discrete w.0 j) [
        | yes e ↦ pick_left (same (name_at es j) name) _ ((is_same (name_at es j) name).back (rw e at w.2))
        | no n ↦ pick_right (same (name_at es j) name) _ (g (w.0, omega (arith, w.1), w.2))
      ]

  is_first : (i : ℕ) → Is (first_of es i) (((j : ℕ) × (j < i) × (name_at es j ≡ name_at es i)) → ⊥)
  is_first i = is_not (is_among i (name_at es i))

abbrev Differ : List Entry → Type 0
Differ es = (i : ℕ) → i < length es → ((j : ℕ) × (j < i) × (name_at es j ≡ name_at es i)) → ⊥

in_name : (es : List Entry) (name : List ℕ) → In name (map (λ e. e.name) es) → (k : ℕ) × (k < length es) × (name_at es k ≡ name)
in_name [] name x' = elim x' [ ]
in_name (e ∷ es) name (inl z) = (0, omega arith, sym z)
in_name (e ∷ es) name (inr i) = let w = in_name es name i in (suc w.0, omega (arith, w.1), w.2)

name_in : (es : List Entry) (k : ℕ) → k < length es → In (name_at es k) (map (λ e. e.name) es)
name_in [] k h = absurd (omega arith)
name_in (e ∷ es) zero h = inl refl
name_in (e ∷ es) (suc k) h = inr (name_in es k (omega arith))

differ_out : (es : List Entry) → Distinct (map (λ e. e.name) es) → Differ es
differ_out [] d i h w = omega arith
differ_out (e ∷ es) d zero h w = omega (arith, w.1)
differ_out (e ∷ es) d (suc i) h w = go w.0 w.1 w.2 (differ_out es d.1 i (omega arith))
  where
    go : (j : ℕ) → j < suc i → name_at (e ∷ es) j ≡ name_at es i → (((k : ℕ) × (k < i) × (name_at es k ≡ name_at es i)) → ⊥) → ⊥
    go zero l z f = d.0 (rw z (name_in es i (omega arith)))
    go (suc j) l z f = f (j, omega arith, z)

differ_back : (es : List Entry) → Differ es → Distinct (map (λ e. e.name) es)
differ_back [] f = tt
differ_back (e ∷ es) f = (
  λ i. (let w = in_name es e.name i in f (suc w.0) (omega (arith, w.1)) (0, omega arith, sym w.2)),
  differ_back es (λ i h w. f (suc i) (omega arith) (suc w.0, omega (arith, w.1), w.2)),
)

differ_is : (es : List Entry) → all_b (first_of es) (run 0 (length es)) ≡ distinct_names es
differ_is es =
    same_test (is_all_in (first_of es) (λ i. ((j : ℕ) × (j < i) × (name_at es j ≡ name_at es i)) → ⊥) (run 0 (length es)) (λ i k. is_first es i)) (is_names es)
    (λ f. differ_back es (λ i h. f i (in_run 0 (length es) i (omega arith) (omega arith))))
    (λ d i k. differ_out es d i (omega (arith, run_in 0 (length es) i k)))

-- ---- the loop over the entries

-- empty buckets: nothing is filed
pub none_filed : (es : List Entry) → Filed es 0 (record { last = replicate 1024 None; links = replicate 256 unlinked })
unfolding last_in
none_filed es = record {
  linked = λ j h. absurd (omega arith);
  headed = λ h l. ap up_to (get_or-replicate {A = Option ℕ} 1024 h None None l);
  long = length-replicate {A = Link} 256 unlinked;
  wide = length-replicate {A = Option ℕ} 1024 None;
}

module _ (r : List ℕ) where
  abbrev es : List Entry
  es = entries r

  -- what is left to file, from entry i at `at` on
  pub record Rest (at i : ℕ) : Type 0 where
    pub rest : drop i es ≡ entries_from (length r) r at
    pub tidy : tidy_from r at ≡ true
    pub inside : at ≤ length r
    pub count : i ≤ length es
    pub goes : all_b (first_of es) (run i (length es - i)) ≡ distinct_names es

  pub rest-start : Tidy r → Rest 0 0
  unfolding entries
  rest-start t = record { rest = refl; tidy = t.whole; inside = omega arith; count = omega arith; goes = (let z : length es - 0 ≡ length es = omega arith in rw z (differ_is es)) }

  pub rest_end : (size at i : ℕ) → size ≡ length r → size ≤ at → Rest at i → true ≡ distinct_names es
  unfolding run all_b
  rest_end size at i long h w =
      let l = ap length (w.rest ∙ entries_stop r at (omega arith)) in
      let z : length es - i ≡ 0 = omega (arith, l, length-drop i es) in
      rw z at w.goes

  module _ (size at i : ℕ) (long : size ≡ length r) (h : at < size) (w : Rest at i) (t : Tidy r) where
    both_ways : (good_at r at ≡ true) × (tidy_from r (at + 6 + name_length r at) ≡ true)
    both_ways = go (good_at r at) (rw (tidy_step r at (omega arith)) at w.tidy)
      where
        go : (b : Bool) → both b (tidy_from r (at + 6 + name_length r at)) ≡ true → (b ≡ true) × (tidy_from r (at + 6 + name_length r at) ≡ true)
        go true e = (refl, e)
        go false e = (e, absurd (no e))
          where
            no : false ≡ true → ⊥
            no z = let a : ◌≡◌ {A = ℕ} 0 1 = ap (λ (b : Bool). pick b 1 0) z in omega arith

    pub rest_here : Here r at i
    rest_here = here_is r at (rw both_ways.0 tt) t i (omega arith) w.rest

    step : both (first_of es i) (all_b (first_of es) (run (i + 1) (length es - (i + 1)))) ≡ distinct_names es
    unfolding run all_b
    step = let z : length es - i ≡ suc (length es - (i + 1)) = omega (arith, rest_here.inside) in rw z at w.goes

    module _ (x : Option ℕ) (e : x ≡ pick (among es i (name_at es i)) None (Some (name_length r at))) where
      pub rest-met : x ≡ None → false ≡ distinct_names es
      rest-met z = let a = met (among es i (name_at es i)) (sym e ∙ z) in rw a at step
        where
          met : (b : Bool) → pick b None (Some (name_length r at)) ≡ None → b ≡ true
          met true d = refl
          met false d = cc

      pub rest-next : (n : ℕ) → x ≡ Some n → Rest (at + (6 + n)) (i + 1)
      rest-next n z =
          let a = new (among es i (name_at es i)) (sym e ∙ z) in
          let y : at + (6 + n) ≡ at + 6 + name_length r at = omega (arith, a.1) in
          rw y (record {
            rest = rest-turn r i at (omega arith) w.rest;
            tidy = both_ways.1;
            inside = rest_here.whole;
            count = omega (arith, rest_here.inside);
            goes = rw a.0 at step;
          })
        where
          new : (b : Bool) → pick b None (Some (name_length r at)) ≡ Some n → (b ≡ false) × (n ≡ name_length r at)
          new true d = cc
          new false d = (refl, cc)
