-- Rule 8: an entry tested and its stream marked, one after the other, and the definition.
use mathlib.Core.Path.{◌≡◌, refl, sym, ap, ◌∙◌}
use mathlib.Core.Logic.{◌≢◌}
use mathlib.Core.Bool.{Bool, true, false}
use mathlib.Core.List.{List, [], ◌∷◌, map}
use Prim.Native.Nat.{ℕ, zero, suc, ◌+◌, ◌-◌, ◌*◌, ◌%◌, ◌^◌, min, ◌≤◌, ◌<◌}
use native.Mathlib.Nat.{div-add-mod', mod-lt, mul-le-mul}
use native.Mathlib.Decide.{dec_le}
use native.Mathlib.Omega.{arith}
use lib.ListN.{length, set, replicate, length-map}
use lib.Dec.{leb, eqb, T}
use Rattle.std.specs.Prelude.{Option, Some, None}
use Rattle.std.proofs.lemmas.Option.{none-some}
use Rattle.layout.specs.Limits.{most_streams}
use Rattle.layout.specs.Bytes.{pick, both, num, over, run, those, all_b}
use Rattle.layout.specs.Pyramid.{up}
use Rattle.layout.specs.Ranges.{Small}
use Rattle.layout.specs.Marks.{fresh, mark_ok, mark_set}
use Rattle.layout.specs.Streams.{data_of, desc_of, live, lives, frees, desc_chain, slots, stream, stream_bytes, table_bytes}
use Rattle.layout.specs.Filing.{Entry, name_length, entry_at, entries_from, entries, entries_of, good_name, reads, reads_from, distinct_names, good_directory}
use Rattle.layout.specs.Sound.{right_desc, live_form, free_form, good_form, same_set, reached, rule4, rule5, rule8}
use Rattle.laws.proofs.Picks.{leb_yes, leb_no}
use Rattle.laws.proofs.Lists.{in_run, length_run}
use Rattle.laws.proofs.Sets.{distinct_le}
use Rattle.laws.proofs.Laying.{length-contents}
use Rattle.laws.proofs.Tests.{is_both, is_eqb, is_leb, is_itself, is_all, is_separate}
use Rattle.laws.proofs.Marking.{mark-separate}
use Rattle.filing.specs.Paged.{piece_size, piece_at}
use Rattle.filing.proofs.Finding.{entries-start, entries-step, entries_stop}
use Rattle.filing.proofs.Paging.{length_piece, piece_index, piece_length, piece_name}
use Rattle.marking.proofs.Walking.{cleared}
use Rattle.tables.specs.Compared.{right_mark, asked}
use Rattle.tables.specs.OnPage.{Reads}
use Rattle.naming.specs.Rooted.{bytes_of, good_at, named, tidy_from, indices, Tidy}
use Rattle.tables.proofs.Compared.{compared}
use Rattle.naming.proofs.Rooted.{parts, name-long, tidy_step, tidy_stop}
use Rattle.tables.proofs.Paged.{slots-few, desc_same, live_same}
use Rattle.layout.specs.declared.Shape.{Shape}
use Rattle.layout.specs.declared.Desc.{Desc}

untrue : (b : Bool) → (T b → ⊥) → b ≡ false
untrue true f = absurd (f tt)
untrue false f = refl

is_two : (a b : Bool) → both a b ≡ true → (a ≡ true) × (b ≡ true)
is_two true b h = (refl, h)
is_two false b h = absurd (cc)

pub none_of : (b : Bool) → both b false ≡ false
none_of true = refl
none_of false = refl

-- ---- the entry in front of a piece

-- what is found of the entry in front of a piece holds of the directory
module _ (r : List ℕ) (at : ℕ) (p : List ℕ) (e : p ≡ piece_at r at) (inside : at ≤ length r) where
  i_is : num 4 p 0 ≡ num 4 r at
  i_is = piece_index r at p e (num 4 p 0) refl

  n_is : name_length p 0 ≡ name_length r at
  n_is = piece_length r at p e (name_length p 0) refl

  p_long : length p ≡ min piece_size (length r - at)
  p_long = ap length e ∙ length_piece r at

  whole_is : name_length r at ≤ 65 → leb (6 + name_length p 0) (length p) ≡ leb (at + 6 + name_length r at) (length r)
  whole_is h = elim (dec_le (at + 6 + name_length r at) (length r)) [
    | yes l ↦ leb_yes {a = 6 + name_length p 0} {b = length p} (omega (arith, n_is, p_long)) ∙ sym (leb_yes l)
    | no l ↦ leb_no {a = 6 + name_length p 0} {b = length p} (omega (arith, n_is, p_long)) ∙ sym (leb_no {a = at + 6 + name_length r at} {b = length r} (omega arith))
  ]

  good_same : good_at p 0 ≡ good_at r at
  good_same = elim (dec_le (name_length r at) 65) [
    | yes h ↦ ap (λ (b : Bool). both b (good_name (entry_at p 0).name)) (whole_is h) ∙ ap (λ (v : List ℕ). both (leb (at + 6 + name_length r at) (length r)) (good_name v)) (piece_name r at p e h)
    | no h ↦ untrue (good_at p 0) (λ t. omega (arith, (parts p 0 t).0, n_is, p_long)) ∙ sym (untrue (good_at r at) (λ t. omega (arith, (parts r at t).2, name-long r at t)))
  ]

  pub entry-same : (n : ℕ) (m : List ℕ) (x : Option ℕ) → x ≡ pick (both (good_at p 0) (fresh n m (num 4 p 0))) (Some (name_length p 0)) None → x ≡ pick (both (good_at r at) (fresh n m (num 4 r at))) (Some (name_length r at)) None
  entry-same n m x f = f ∙ (λ j. pick (both (good_same j) (fresh n m (i_is j))) (Some (n_is j)) None)

  entry-marked : (m m' : List ℕ) → m' ≡ set m (num 4 p 0) 1 → m' ≡ set m (num 4 r at) 1
  entry-marked m m' f = f ∙ ap (λ (k : ℕ). set m k 1) i_is

-- ---- one after the other

module _ (r : List ℕ) (n : ℕ) (m₀ : List ℕ) where
  -- what is left, in tail form
  pub record Left (m : List ℕ) (at : ℕ) : Type 0 where
    pub inside : at ≤ length r
    pub ok : both (tidy_from r at) (mark_ok n m (indices (entries_from (length r) r at))) ≡ both (tidy_from r 0) (mark_ok n m₀ (indices (entries r)))
    pub marks : mark_set n m (indices (entries_from (length r) r at)) ≡ mark_set n m₀ (indices (entries r))

  pub left_start : Left m₀ 0
  unfolding entries
  left_start = record { inside = omega arith; ok = refl; marks = refl }

  module _ (m : List ℕ) (at : ℕ) (w : Left m at) where
    pub left_end : (size : ℕ) → size ≡ length r → size ≤ at → (true ≡ both (tidy_from r 0) (mark_ok n m₀ (indices (entries r)))) × (m ≡ mark_set n m₀ (indices (entries r)))
    unfolding mark_ok mark_set
    left_end size long h =
        let z : at ≡ length r = omega (arith, w.inside) in
        let s = entries_stop r at (omega arith) in
        let t : tidy_from r at ≡ true = rw z (tidy_stop r) in
        (rw (s, t) at w.ok, rw s at w.marks)

    module _ (size : ℕ) (long : size ≡ length r) (h : at < size) (x : Option ℕ) (e : x ≡ pick (both (good_at r at) (fresh n m (num 4 r at))) (Some (name_length r at)) None) where
      abbrev next : ℕ
      next = at + 6 + name_length r at

      opened : both (both (good_at r at) (tidy_from r next)) (pick (fresh n m (num 4 r at)) (mark_ok n (set m (num 4 r at) 1) (indices (entries_from (length r) r next))) false) ≡ both (tidy_from r 0) (mark_ok n m₀ (indices (entries r)))
      unfolding mark_ok
      opened = rw (tidy_step r at (omega arith), entries-step r at (omega arith)) at w.ok

      opened_set : pick (fresh n m (num 4 r at)) (mark_set n (set m (num 4 r at) 1) (indices (entries_from (length r) r next))) m ≡ mark_set n m₀ (indices (entries r))
      unfolding mark_set
      opened_set = rw (entries-step r at (omega arith)) at w.marks

      pub left_stop : x ≡ None → false ≡ both (tidy_from r 0) (mark_ok n m₀ (indices (entries r)))
      left_stop z = go (good_at r at) (fresh n m (num 4 r at)) (sym e ∙ z) opened
        where
          go : (g f : Bool) → pick (both g f) (Some (name_length r at)) None ≡ None
              → both (both g (tidy_from r next)) (pick f (mark_ok n (set m (num 4 r at) 1) (indices (entries_from (length r) r next))) false) ≡ both (tidy_from r 0) (mark_ok n m₀ (indices (entries r)))
              → false ≡ both (tidy_from r 0) (mark_ok n m₀ (indices (entries r)))
          go true true a o = cc
          go true false a o = by (tidy_from r next) o
            where
              by : (t : Bool) → both t false ≡ both (tidy_from r 0) (mark_ok n m₀ (indices (entries r))) → false ≡ both (tidy_from r 0) (mark_ok n m₀ (indices (entries r)))
              by true o = o
              by false o = o
          go false f a o = o

      left_turn : (len : ℕ) (m' : List ℕ) → x ≡ Some len → m' ≡ set m (num 4 r at) 1 → Left m' (at + (6 + len))
      left_turn len m' z g = go (good_at r at) (fresh n m (num 4 r at)) (sym e ∙ z) (λ t. (parts r at t).0) opened opened_set
        where
          go : (a f : Bool) → pick (both a f) (Some (name_length r at)) None ≡ Some len → (T a → next ≤ length r)
              → both (both a (tidy_from r next)) (pick f (mark_ok n (set m (num 4 r at) 1) (indices (entries_from (length r) r next))) false) ≡ both (tidy_from r 0) (mark_ok n m₀ (indices (entries r)))
              → pick f (mark_set n (set m (num 4 r at) 1) (indices (entries_from (length r) r next))) m ≡ mark_set n m₀ (indices (entries r))
              → Left m' (at + (6 + len))
          go true true a b o p =
              let l : name_length r at ≡ len = cc in
              let y : at + (6 + len) ≡ next = omega (arith, l) in
              rw (y, g) (record { inside = b tt; ok = o; marks = p })
          go true false a b o p = absurd (cc)
          go false f a b o p = absurd (cc)

-- the entry in front of a piece is marked
pub left-next : (r : List ℕ) (n : ℕ) (m₀ m : List ℕ) (at : ℕ) (v : Left r n m₀ m at) (size : ℕ) → size ≡ length r → at < size → (p : List ℕ) → p ≡ piece_at r at
    → (x : Option ℕ) → x ≡ pick (both (good_at p 0) (fresh n m (num 4 p 0))) (Some (name_length p 0)) None → (m' : List ℕ) → (x ≢ None → m' ≡ set m (num 4 p 0) 1) → (len : ℕ) → x ≡ Some len → Left r n m₀ m' (at + (6 + len))
left-next r n m₀ m at v size long h p w x e m' f len z =
    left_turn r n m₀ m at v size long h x (entry-same r at p w v.inside n m x e) len m' z (entry-marked r at p w v.inside m m' (f (λ y. none-some len (sym y ∙ z))))

pub not_both : {A : Type 0} → false ≡ true → A
not_both z = let a : ◌≡◌ {A = ℕ} 0 1 = ap (λ (b : Bool). pick b 1 0) z in absurd (omega arith)

-- ---- the root's size

-- entries in order are short, and so is a directory of few
module _ (r : List ℕ) where
  short_from : (d at : ℕ) → length r ≤ at + d → tidy_from r at ≡ true → length r ≤ at + 70 * length (entries_from (length r) r at)
  short_from zero at h t = omega arith
  short_from (suc d) at h t = elim (dec_le (length r) at) [
    | yes k ↦ omega arith
    | no k ↦ (let l : at < length r = omega arith in
        let two = is_two (good_at r at) (tidy_from r (at + 6 + name_length r at)) (sym (tidy_step r at l) ∙ t) in
        let good : T (good_at r at) = rw two.0 tt in
        let w = short_from d (at + 6 + name_length r at) (omega arith) two.1 in
        omega (arith, w, (parts r at good).2, name-long r at good, ap length (entries-step r at l)))
  ]

  tidy_low : tidy_from r 0 ≡ true → length (entries r) ≤ most_streams → length r < 2 ^ 32
  tidy_low t few = omega (arith, short_from (length r) 0 (omega arith) t, ap length (entries-start r), few)

-- what a right descriptor reserves is no more than the card's blocks hold
pub right_small : (c : List ℕ) (s : Shape) (t : Desc) → Small c s → T (right_desc s t) → t.size < 2 ^ 32
unfolding right_desc
right_small c s t small h =
    let w = (is_both (is_eqb t.flags 0) (is_both (is_eqb t.reserved (up s.size t.size * s.size)) (is_leb (data_of s t) s.count))).out h in
    let x = t.size + (s.size - 1) in
    let a = div-add-mod' x s.size in
    let b : x % s.size < s.size = mod-lt x (omega (arith, small.least)) in
    let d = div-add-mod' t.reserved s.size in
    let e : t.reserved % s.size < s.size = mod-lt t.reserved (omega (arith, small.least)) in
    let m : data_of s t * s.size ≤ 4096 * 4096 = mul-le-mul {n₁ = data_of s t} {n₂ = 4096} (omega (arith, w.1.1, small.count)) small.most in
    omega (arith, w.1.0, small.least, small.most)

lives_right : (s : Shape) (t : Desc) → T (live_form s t) → T (right_desc s t)
unfolding live_form
lives_right s t h = ((is_both (is_itself (right_desc s t)) (is_itself (pick (eqb (data_of s t) 0) (eqb t.top 0) true))).out h).0

-- a root that passed rule 5 is live and right
pub root_right : (c : List ℕ) (s : Shape) → 1 ≤ slots (table_bytes c s) → rule5 c s ≡ true → T (right_desc s (stream c s 0))
unfolding rule5 stream
root_right c s one e =
    let l = table_bytes c s in
    let w = (is_both (is_all (good_form s l) (λ k. T (good_form s l k)) (run 0 (slots l)) (λ k. is_itself (good_form s l k))) (is_both (is_itself (same_set (desc_chain l) (frees l))) (is_itself (live l 0)))).out (rw e tt) in
    alive (live l 0) w.1.1 (w.0 0 (in_run 0 (slots l) 0 (omega arith) (omega arith)))
  where
    alive : (b : Bool) → T b → T (pick b (live_form s (desc_of (table_bytes c s) 0)) (free_form (desc_of (table_bytes c s) 0))) → T (right_desc s (desc_of (table_bytes c s) 0))
    alive true t h = lives_right s (desc_of (table_bytes c s) 0) h
    alive false t h = absurd t

-- ---- the rule

tidy_reads : (r : List ℕ) → both (tidy_from r 0) (distinct_names (entries r)) ≡ good_directory r
unfolding tidy_from good_directory reads entries
tidy_reads r = three (reads_from (length r) r 0) (all_b named (entries_from (length r) r 0)) (distinct_names (entries_from (length r) r 0))
  where
    three : (a b d : Bool) → both (both a b) d ≡ both a (both b d)
    three true b d = refl
    three false b d = refl

map_same : (xs : List ℕ) → map (λ (x : ℕ). x) xs ≡ xs
map_same [] = refl
map_same (x ∷ xs) = ap (λ (l : List ℕ). x ∷ l) (map_same xs)

module _ (c : List ℕ) (s : Shape) (tab : List ℕ) (n : ℕ) (t : Desc) (four : rule4 c s ≡ true) (many : n ≡ slots (table_bytes c s)) (same : Reads tab (table_bytes c s)) (at : t ≡ desc_of tab 0) where
  root_is : t ≡ stream c s 0
  unfolding stream desc_of
  root_is = at ∙ desc_same tab (table_bytes c s) same 0

  bytes_are : bytes_of c s t ≡ stream_bytes c s 0
  unfolding stream_bytes
  bytes_are = rw root_is

  pub root-low : Small c s → rule5 c s ≡ true → t.size < 2 ^ 32
  root-low small five = rw root_is (right_small c s (stream c s 0) small (root_right c s (omega (arith, (slots-few c s n four many).0)) five))

  pub root-short : Small c s → rule5 c s ≡ true → length (bytes_of c s t) < 2 ^ 32
  root-short small five = rw (length-contents c s t.top (data_of s t) t.size) (root-low small five)

  abbrev ks : List ℕ
  ks = indices (entries (bytes_of c s t))

  abbrev es : List Entry
  es = entries (bytes_of c s t)

  rule_is : both (both (tidy_from (bytes_of c s t) 0) (distinct_names es)) (same_set (0 ∷ ks) (those (live tab) (run 0 n))) ≡ rule8 c s
  unfolding rule8 reached entries_of lives
  rule_is = rw (tidy_reads (bytes_of c s t), bytes_are, live_same tab (table_bytes c s) same, many)

  -- test by test, on cleared marks
  module _ (m m₁ : List ℕ) (long : most_streams ≤ length m) (a : m₁ ≡ over m 0 (replicate n 0)) where
    zero-first : both (mark_ok n m₁ (0 ∷ ks)) (all_b (right_mark (mark_set n m₁ (0 ∷ ks)) (live tab)) (run 0 n)) ≡ same_set (0 ∷ ks) (those (live tab) (run 0 n))
    zero-first =
        let few = slots-few c s n four many in
        let y = cleared m m₁ n (omega (arith, few.1)) a in
        let id : ℕ → ℕ = λ x. x in
        rw (map_same (0 ∷ ks), map_same (those (live tab) (run 0 n))) at (compared n m₁ y.0 y.1 (live tab) id id (λ k l. refl) (λ x l. refl) (0 ∷ ks))

    pub rule8_is : both (both (tidy_from (bytes_of c s t) 0) (distinct_names es)) (both (mark_ok n m₁ (0 ∷ ks)) (all_b (right_mark (mark_set n m₁ (0 ∷ ks)) (asked tab true)) (run 0 n))) ≡ rule8 c s
    rule8_is = rw zero-first rule_is

    pub root_tidy : both (tidy_from (bytes_of c s t) 0) (mark_ok n m₁ (0 ∷ ks)) ≡ true → Tidy (bytes_of c s t)
    root_tidy h =
        let two = is_two (tidy_from (bytes_of c s t) 0) (mark_ok n m₁ (0 ∷ ks)) h in
        let few = slots-few c s n four many in
        let y = cleared m m₁ n (omega (arith, few.1)) a in
        let w = (is_separate n (0 ∷ ks)).out (rw (← mark-separate n m₁ y.0 y.1 (0 ∷ ks), two.1) tt) in
        let l = distinct_le (0 ∷ ks) (run 0 n) w.1 (λ x i. in_run 0 n x (omega arith) (omega (arith, w.0 x i))) in
        let short : length es ≤ most_streams = omega (arith, length_run 0 n, length-map es (λ (x : Entry). x.index), few.1) in
        record { whole = two.0; few = short; low = tidy_low (bytes_of c s t) two.0 short }
