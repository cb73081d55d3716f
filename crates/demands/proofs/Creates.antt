-- create, where it is not refused: a descriptor taken, an entry more in the root, and every other stream as it was.
use mathlib.Core.Path.{◌≡◌, refl, sym, ap, ap₂, ◌∙◌}
use mathlib.Core.Logic.{◌≢◌, ◌⊎◌, inl, inr}
use mathlib.Core.List.{List, [], ◌∷◌, ◌++◌}
use Prim.Native.Nat.{ℕ, ◌+◌, ◌^◌, ◌≤◌, ◌<◌}
use native.Mathlib.Omega.{arith}
use lib.ListN.{length, get_or, take, drop, length-drop}
use lib.Seq.{take-add, drop-drop}
use lib.Dec.{T}
use Rattle.layout.specs.Bytes.{spliced}
use Rattle.layout.specs.Limits.{most_streams}
use Rattle.layout.specs.Blocks.{chain}
use Rattle.layout.specs.Streams.{table_bytes, stream, stream_bytes, wants, table_blocks, stream_blocks}
use Rattle.layout.specs.Filing.{Entry, entries, entries_of, look_in, good_name, entry_bytes, with_entry, extended}
use Rattle.layout.specs.Header.{shape_of}
use Rattle.layout.specs.Calls.{root_of, index_of, size_of, new_index, described, root_with, create_wants, created, create}
use Rattle.laws.proofs.Tests.{is_itself, is_leb, is_ltb}
use Rattle.laws.proofs.Lists.{In, in_left, in_right, in_either, in_map, map_agree, distinct-both}
use Rattle.laws.proofs.Sets.{Same, same_of, same_back}
use Rattle.laws.proofs.Splice as splice
use Rattle.laws.proofs.Listing.{Key, keys}
use Rattle.laws.proofs.Entries.{names, indices, is_known, with_entry_lem, with_map, with_length, with_new}
use Rattle.laws.proofs.Directories.{good_short, with_good, with_indices}
use Rattle.laws.proofs.Lives.{lives_in, lives-distinct}
use Rattle.laws.proofs.Hanging.{NotField, Beyond}
use Rattle.laws.proofs.Heads.{NotTable}
use Rattle.laws.proofs.State.{lives_of, Filed, Whole, whole_of, length-stream}
use Rattle.laws.proofs.Edits.{Edit, beyond_desc}
use Rattle.demands.specs.Plain.{Item, Plainly, with_item, plain_create}
use Rattle.demands.specs.Shows.{plain}
use Rattle.demands.proofs.Items.{items_of, found}
use Rattle.demands.proofs.Shown.{plain-after}
use Rattle.demands.proofs.Named.{root_live, named_live, named_other}
use Rattle.demands.proofs.Finding.{found_key, index_kept, found_in}
use Rattle.demands.proofs.Writes.{beyond}
use Rattle.demands.proofs.Describes.{table_wants, Taken, describes}
use Rattle.demands.proofs.Refusals.{create-number}
use Rattle.demands.proofs.Numbers.{accepted, plain_accepted, passed, fails, holds, was_whole}
use Rattle.layout.specs.declared.Shape.{Shape}

-- what create leaves; its blocks are the first of the chain, the table's before the root's
pub record Created (c name c' : List ℕ) : Type 0 where
  pub before : Whole c
  pub after : Whole c'
  pub plainly : plain c' ≡ (plain_create (plain c) name).after
  pub unknown : In name (names (root_of c)) → ⊥
  pub enough : create_wants c name ≤ length (chain c (shape_of c))
  pub index_new : index_of c' name ≡ new_index (table_bytes c (shape_of c))
  pub index_of_lem : (n : List ℕ) → look_in (root_of c) n < length (root_of c) → index_of c' n ≡ index_of c n
  pub blocks_of_lem : (k : ℕ) → In k (lives_of c (shape_of c)) → k ≢ 0 → stream_blocks c' (shape_of c) k ≡ stream_blocks c (shape_of c) k
  pub bytes_of : (k : ℕ) → In k (lives_of c (shape_of c)) → k ≢ 0 → stream_bytes c' (shape_of c) k ≡ stream_bytes c (shape_of c) k
  pub root_bytes : stream_bytes c' (shape_of c) 0 ≡ root_with c name
  pub root_from : (b : ℕ) → In b (stream_blocks c' (shape_of c) 0) → In b (stream_blocks c (shape_of c) 0) ⊎ In b (take (create_wants c name) (chain c (shape_of c)))
  pub table_from : (b : ℕ) → In b (table_blocks c' (shape_of c)) → In b (table_blocks c (shape_of c)) ⊎ In b (take (create_wants c name) (chain c (shape_of c)))
  pub chain_is : chain c' (shape_of c) ≡ drop (create_wants c name) (chain c (shape_of c))
  pub shape_is : shape_of c' ≡ shape_of c
  pub long : length c' ≡ length c
  pub rest-same : (i : ℕ) → NotField (shape_of c) i → NotTable (shape_of c) i → Beyond (shape_of c) (take (create_wants c name) (chain c (shape_of c))) i
      → Beyond (shape_of c) (table_blocks c (shape_of c)) i → Beyond (shape_of c) (stream_blocks c (shape_of c) 0) i → get_or c' i 0 ≡ get_or c i 0

-- with descriptor j taken, and m blocks for it, the root gets an entry
module _ (c : List ℕ) (w : Whole c) (name : List ℕ) (ok : T (good_name name)) (new : In name (names (root_of c)) → ⊥) (c₁ : List ℕ) (j m : ℕ) (d : Taken c c₁ j m) where
  abbrev s : Shape
  s = shape_of c

  abbrev r : List ℕ
  r = stream_bytes c s 0

  abbrev r₂ : List ℕ
  r₂ = with_entry r j name

  abbrev c₂ : List ℕ
  c₂ = extended c₁ s 0 (size_of c 0) r₂

  -- the blocks that the root takes, and what is there for it
  abbrev m₂ : ℕ
  m₂ = wants s (stream c s 0) (length r₂)

  abbrev ch : List ℕ
  ch = chain c s

  root : In 0 (lives_of c s)
  root = root_live c w

  long : length r ≡ size_of c 0
  long = length-stream c s 0

  short : length name < 256 ^ 2
  short = omega (arith, good_short name ok)

  small : j < 256 ^ 4
  small = omega (arith, d.small)

  -- the root's bytes, written to the new end
  text : spliced (stream_bytes c₁ s 0) (size_of c 0) (drop (size_of c 0) r₂) ≡ r₂
  unfolding spliced with_entry
  text =
      let e : drop (size_of c 0) r₂ ≡ entry_bytes j name = ap (λ (n : ℕ). drop n r₂) (sym long) ∙ with_new r j name in
      rw (d.step.bytes_of 0 root, e) (splice.spliced_end r (entry_bytes j name) (size_of c 0) long)

  module _ (enough : m + m₂ ≤ length ch) where
    appended : Edit c₁ c₂ s 0 r₂ (take m₂ (drop m ch)) (drop m₂ (drop m ch))
    unfolding extended
    appended =
        let st = d.step in
        let t = st.descs 0 root in
        let p = size_of c 0 in
        let n = length r₂ in
        let l = with_length r j name in
        rw (text, st.chain_is, t) at (beyond c₁ s st.core 0 (st.old 0 root) p (drop p r₂) (rw t (omega arith)) n (omega (arith, length-drop p r₂, long)) (rw t (omega (arith, long)))
        (rw (st.chain_is, t) (omega (arith, length-drop m ch))))

    -- ---- rule 8

    abbrev is : List ℕ
    is = 0 ∷ indices (entries r)

    same₂ : Same (is ++ (j ∷ [])) (lives_of c₁ s)
    same₂ = same_of _ (lives_of c₁ s) (distinct-both is (j ∷ []) w.filed.reach.once (λ i. i, tt) apart) (lives-distinct (table_bytes c₁ s)) to fro
      where
        apart : (x : ℕ) → In x is → In x (j ∷ []) → ⊥
        apart x i (inl e) = d.step.fresh (rw (← e) (w.filed.reach.all x i))
        apart x i (inr u) = u

        last : (x : ℕ) → In x (j ∷ []) → In x (lives_of c₁ s)
        last x (inl e) = rw e d.step.there
        last x (inr u) = absurd u

        to : (x : ℕ) → In x (is ++ (j ∷ [])) → In x (lives_of c₁ s)
        to x i = elim (in_either x is (j ∷ []) i) [ inl a ↦ d.step.old x (w.filed.reach.all x a) | inr b ↦ last x b ]

        fro : (x : ℕ) → In x (lives_of c₁ s) → In x (is ++ (j ∷ []))
        fro x i = elim (d.step.only x i) [
          | inl a ↦ in_left x is (j ∷ []) (same_back is (lives_of c s) w.filed.reach x a)
          | inr b ↦ in_right x is (j ∷ []) (inl b)
        ]

    filed₂ : Filed r₂ (lives_of c₁ s)
    unfolding entries_of
    filed₂ = record {
      directory = with_good r j name w.filed.directory small ok new;
      reach = rw (with_indices r j name w.filed.directory.whole small short) same₂;
    }

    whole₂ : Whole c₂
    whole₂ = whole_of c₂ s appended.core (rw (appended.mine, appended.lives_is) filed₂)

    -- ---- the other streams, and the plain list

    kept-bytes : (k : ℕ) → In k (lives_of c s) → k ≢ 0 → stream_bytes c₂ s k ≡ stream_bytes c s k
    kept-bytes k i n = appended.bytes_of k (d.step.old k i) n ∙ d.step.bytes_of k i

    empty₂ : stream_bytes c₂ s j ≡ []
    empty₂ = appended.bytes_of j d.step.there (λ e. d.step.fresh (rw e root)) ∙ d.step.empty

    items₂ : items_of (stream_bytes c₂ s) (entries r₂) ≡ (plain c).items ++ (record { name = name; bytes = [] } ∷ [])
    unfolding plain entries_of
    items₂ =
        let item : Key → Item = λ k. record { name = k.name; bytes = stream_bytes c₂ s k.index } in
        with_map item r j name w.filed.directory.whole small short
        ∙ ap₂ {C = List Item} (λ a b. a ++ (record { name = name; bytes = b } ∷ []))
        (map_agree _ _ (entries r) (λ e i. let u = in_map (λ (e : Entry). e.index) e (entries r) i in
        ap {B = Item} (λ b. record { name = e.name; bytes = b }) (kept-bytes e.index (named_live c w e.index u) (named_other c w e.index u))))
        empty₂

    plain₂ : plain c₂ ≡ with_item (plain c) name
    unfolding entries_of
    plain₂ = plain-after c c₂ appended.core.shape_is _ _ (appended.slots_is ∙ d.slots_is) (rw appended.mine items₂)

    root₂ : root_of c₂ ≡ entries r₂
    unfolding entries_of
    root₂ = ap (λ (t : Shape). entries_of c₂ t 0) appended.core.shape_is ∙ ap entries appended.mine

    -- ---- the frame

    taken_is : take (m + m₂) ch ≡ take m ch ++ take m₂ (drop m ch)
    taken_is = take-add m m₂ ch

    first_part : (b : ℕ) → In b (take m ch) → In b (take (m + m₂) ch)
    first_part b i = rw taken_is (in_left b (take m ch) (take m₂ (drop m ch)) i)

    second_part : (b : ℕ) → In b (take m₂ (drop m ch)) → In b (take (m + m₂) ch)
    second_part b i = rw taken_is (in_right b (take m ch) (take m₂ (drop m ch)) i)

    table_from : (b : ℕ) → In b (table_blocks c₁ s) → In b (table_blocks c s) ⊎ In b (take (m + m₂) ch)
    table_from b i = elim (d.step.from b i) [ inl u ↦ inl u | inr u ↦ inr (first_part b u) ]

    root_from : (b : ℕ) → In b (stream_blocks c₂ s 0) → In b (stream_blocks c s 0) ⊎ In b (take (m + m₂) ch)
    root_from b i = elim (appended.from b i) [ inl u ↦ inl (rw (d.step.blocks_of_lem 0 root) at u) | inr u ↦ inr (second_part b u) ]

    rest₂ : (i : ℕ) → NotField s i → NotTable s i → Beyond s (take (m + m₂) ch) i → Beyond s (table_blocks c s) i → Beyond s (stream_blocks c s 0) i → get_or c₂ i 0 ≡ get_or c i 0
    rest₂ i f t b tb rb =
        let st = d.step in
        let tb₁ : Beyond s (table_blocks c₁ s) i = λ x k. elim (table_from x k) [ inl u ↦ tb x u | inr u ↦ b x u ] in
        appended.rest-same i f (λ x k. b x (second_part x k)) (rw (st.blocks_of_lem 0 root) rb) (beyond_desc c₁ s st.core 0 (lives_in (table_bytes c₁ s) 0 (st.old 0 root)).0 i tb₁)
        ∙ st.rest-same i f t (λ x k. b x (first_part x k)) tb

    -- ---- the names

    keys₂ : keys r₂ ≡ keys r ++ (record { index = j; name = name } ∷ [])
    keys₂ = (with_entry_lem r j name w.filed.directory.whole small short).1

    index_new : index_of c₂ name ≡ j
    index_new = ap (λ (es : List Entry). (found es name).index) root₂
        ∙ ap (λ (k : Key). k.index) (found_key (entries r₂) (record { index = j; name = name }) filed₂.directory.once (rw keys₂ (in_right _ (keys r) _ (inl refl))))

    index_of_lem : (n : List ℕ) → look_in (root_of c) n < length (root_of c) → index_of c₂ n ≡ index_of c n
    unfolding entries_of
    index_of_lem n l = ap (λ (es : List Entry). (found es n).index) root₂
        ∙ index_kept (entries r) (entries r₂) n l filed₂.directory.once (rw keys₂ (in_left _ (keys r) _ (found_in (entries r) n l)))

-- ---- the call

creates : (c : List ℕ) (w : Whole c) (name : List ℕ) → T (good_name name) → (In name (names (root_of c)) → ⊥) → length (lives_of c (shape_of c)) < most_streams
    → create_wants c name ≤ length (chain c (shape_of c)) → with_item (plain c) name ≡ (plain_create (plain c) name).after → Created c name (created c name)
unfolding created
creates c w name ok new few enough plainly =
    let s = shape_of c in
    let c₁ = described c s in
    let j = new_index (table_bytes c s) in
    let m = table_wants c in
    let d = describes c w few (omega arith) in
    let ed = appended c w name ok new c₁ j m d enough in
    record {
      before = w;
      after = whole₂ c w name ok new c₁ j m d enough;
      plainly = plain₂ c w name ok new c₁ j m d enough ∙ plainly;
      unknown = new;
      enough = enough;
      index_new = index_new c w name ok new c₁ j m d enough;
      index_of_lem = index_of_lem c w name ok new c₁ j m d enough;
      blocks_of_lem = λ k i n. ed.blocks_of_lem k (d.step.old k i) n ∙ d.step.blocks_of_lem k i;
      bytes_of = kept-bytes c w name ok new c₁ j m d enough;
      root_bytes = ed.mine;
      root_from = root_from c w name ok new c₁ j m d enough;
      table_from = λ b i. table_from c w name ok new c₁ j m d enough b (rw ed.table_of at i);
      chain_is = ed.chain_is ∙ drop-drop _ m (chain c s);
      shape_is = ed.core.shape_is;
      long = ed.long ∙ d.step.long;
      rest-same = rest₂ c w name ok new c₁ j m d enough;
    }

pub create-done : (c name : List ℕ) → (create c name).number ≡ 0 → Created c name (create c name).card
unfolding create plain_create
create-done c name e =
    let a = accepted _ c [] _ e in
    let t = passed _ tt a.0 in
    let w = was_whole c t.0 in
    let ok = holds (is_itself (good_name name)) t.1.0 in
    let few : length (lives_of c (shape_of c)) < most_streams = (let f = fails (is_leb most_streams (length (lives_of c (shape_of c)))) t.1.1.1.0 in omega arith) in
    let en : create_wants c name ≤ length (chain c (shape_of c)) = (let f = fails (is_ltb (length (chain c (shape_of c))) (create_wants c name)) t.1.1.1.1.0 in omega arith) in
    let p₀ = plain_accepted _ (plain c) [] _ (sym (create-number c w name) ∙ e) in
    rw a.1 (creates c w name ok (fails (is_known (root_of c) name) t.1.1.0) few en (sym (ap (λ (q : Plainly). q.after) p₀)))
