-- delete, where it is not refused: the stream's blocks and descriptor freed, its entry out of the root, and every other stream as it was.
use mathlib.Core.Path.{◌≡◌, sym, ap, ap₂, ◌∙◌, subst}
use mathlib.Core.Logic.{◌≢◌, inl, inr}
use mathlib.Core.List.{List, [], ◌∷◌, ◌++◌, map}
use Prim.Native.Nat.{ℕ, suc, ◌+◌, ◌≤◌, ◌<◌}
use native.Mathlib.Omega.{arith}
use lib.ListN.{length, get_or, take, drop, length-drop, length-map, get_or-map}
use lib.Seq.{split_at}
use Rattle.layout.specs.Bytes.{over}
use Rattle.layout.specs.Blocks.{chain, rising}
use Rattle.layout.specs.Streams.{table_bytes, stream, stream_bytes, in_stream, shortened, table_blocks, stream_blocks}
use Rattle.layout.specs.Filing.{Entry, entries, entries_of, look_in, nothing, without_entry, pulled}
use Rattle.layout.specs.Header.{shape_of}
use Rattle.layout.specs.Calls.{root_of, entry_of, index_of, undescribed, deleted, delete}
use Rattle.laws.proofs.ByteLaws.{length_over}
use Rattle.laws.proofs.Tests.{is_ltb}
use Rattle.laws.proofs.Lists.{In, Distinct, in_left, in_right, in_map, map_agree}
use Rattle.laws.proofs.Removal.{in_more, distinct_remove, map-take, map-drop}
use Rattle.laws.proofs.Joins.{without}
use Rattle.laws.proofs.Sets.{Same, same_of, same_back}
use Rattle.laws.proofs.Splice.{over-rest}
use Rattle.laws.proofs.Listing.{Key, key, keys}
use Rattle.laws.proofs.Entries.{indices, look_name, entry-ends, without_entry_lem, without_map, without_length, without_front}
use Rattle.laws.proofs.Directories.{without_good, without_indices}
use Rattle.laws.proofs.Lives.{lives_in, lives-distinct}
use Rattle.laws.proofs.Hanging.{NotField, Beyond}
use Rattle.laws.proofs.GiveBack.{NotLink}
use Rattle.laws.proofs.State.{lives_of, Filed, Whole, whole_of, length-stream}
use Rattle.laws.proofs.Edits.{Edit, edit_then, edit_free, beyond_desc}
use Rattle.laws.proofs.Moves as moves
use Rattle.laws.proofs.Undescribe.{Undescribed, undescribe}
use Rattle.demands.specs.Plain.{Item, Plainly, removed, with_items, plain_delete}
use Rattle.demands.specs.Shows.{plain}
use Rattle.demands.proofs.Items.{items_of, found, look_items, removed_is}
use Rattle.demands.proofs.Shown.{descs-same, plain-after}
use Rattle.demands.proofs.Named.{root_live, found_live, not_root}
use Rattle.demands.proofs.Finding.{index_kept, found_in}
use Rattle.demands.proofs.Spares.{stream_spot, surplus_of, spare, surplus-all, surplus_of_lem, spot_of}
use Rattle.demands.proofs.Cutting.{cut_else}
use Rattle.demands.proofs.InPlace.{in_place, in_place_else}
use Rattle.demands.proofs.Refusals.{delete-number}
use Rattle.demands.proofs.Numbers.{accepted, plain_accepted, passed, holds, was_whole}
use Rattle.layout.specs.declared.Shape.{Shape}

-- what delete leaves; the stream's blocks are freed, then what the root no longer needs
pub record Deleted (c name c' : List ℕ) : Type 0 where
  pub before : Whole c
  pub after : Whole c'
  pub plainly : plain c' ≡ (plain_delete (plain c) name).after
  pub known : look_in (root_of c) name < length (root_of c)
  pub index_of_lem : (n : List ℕ) → look_in (root_of c) n < length (root_of c) → n ≢ name → index_of c' n ≡ index_of c n
  pub blocks_of_lem : (k : ℕ) → In k (lives_of c (shape_of c)) → k ≢ 0 → k ≢ index_of c name → stream_blocks c' (shape_of c) k ≡ stream_blocks c (shape_of c) k
  pub bytes_of : (k : ℕ) → In k (lives_of c (shape_of c)) → k ≢ 0 → k ≢ index_of c name → stream_bytes c' (shape_of c) k ≡ stream_bytes c (shape_of c) k
  pub root_bytes : stream_bytes c' (shape_of c) 0 ≡ without_entry (stream_bytes c (shape_of c) 0) (entry_of c name)
  pub root_from : (b : ℕ) → In b (stream_blocks c' (shape_of c) 0) → In b (stream_blocks c (shape_of c) 0)
  pub table_of : table_blocks c' (shape_of c) ≡ table_blocks c (shape_of c)
  pub chain_is : chain c' (shape_of c)
      ≡ spare c (shape_of c) 0 (length (without_entry (stream_bytes c (shape_of c) 0) (entry_of c name)))
      ++ (rising (shape_of c).count 0 (stream_blocks c (shape_of c) (index_of c name)) ++ chain c (shape_of c))
  pub shorter : length (without_entry (stream_bytes c (shape_of c) 0) (entry_of c name)) ≤ (stream c (shape_of c) 0).size
  pub shape_is : shape_of c' ≡ shape_of c
  pub long : length c' ≡ length c
  pub rest-same : (i : ℕ) → NotField (shape_of c) i → Beyond (shape_of c) (table_blocks c (shape_of c)) i → Beyond (shape_of c) (stream_blocks c (shape_of c) 0) i
      → Beyond (shape_of c) (stream_blocks c (shape_of c) (index_of c name)) i → get_or c' i 0 ≡ get_or c i 0
  -- more closely: of a freed block only its link, of the root the bytes from the entry on to its new end
  pub bytes_same : (i : ℕ) → NotField (shape_of c) i → Beyond (shape_of c) (table_blocks c (shape_of c)) i → NotLink (shape_of c) (stream_blocks c (shape_of c) (index_of c name)) i
      → NotLink (shape_of c) (surplus_of c (shape_of c) 0 (length (without_entry (stream_bytes c (shape_of c) 0) (entry_of c name)))) i
      → ((q : ℕ) → (entry_of c name).at ≤ q → q < length (without_entry (stream_bytes c (shape_of c) 0) (entry_of c name)) → i ≢ stream_spot c (shape_of c) 0 q) → get_or c' i 0 ≡ get_or c i 0

module _ (c : List ℕ) (w : Whole c) (name : List ℕ) (known : look_in (root_of c) name < length (root_of c)) where
  abbrev s : Shape
  s = shape_of c

  abbrev r : List ℕ
  r = stream_bytes c s 0

  abbrev e : Entry
  e = entry_of c name

  abbrev k : ℕ
  k = e.index

  abbrev r' : List ℕ
  r' = without_entry r e

  lk : In k (lives_of c s)
  lk = found_live c w name known

  other : 0 ≢ k
  other = not_root c w name known

  root : In 0 (lives_of c s)
  root = root_live c w

  -- ---- the card, step by step

  abbrev c₁ : List ℕ
  c₁ = shortened c s k 0

  abbrev c₂ : List ℕ
  c₂ = undescribed c s k

  abbrev c₃ : List ℕ
  c₃ = in_stream c₂ s 0 e.at (drop e.at r')

  abbrev c₄ : List ℕ
  c₄ = pulled c₂ s 0 e.at r'

  -- its blocks go to the chain
  freed : Edit c c₁ s k [] [] (spare c s k 0 ++ chain c s)
  freed = unfold spare surplus_of in moves.shorten c s w.core k lk 0 (omega arith)

  lk₁ : In k (lives_of c₁ s)
  lk₁ = rw freed.lives_is lk

  root₁ : In 0 (lives_of c₁ s)
  root₁ = rw freed.lives_is root

  -- its descriptor too
  gone : Undescribed c₁ c₂ s k
  unfolding undescribed
  gone = rw freed.first_is at (undescribe c₁ s freed.core k lk₁ other (sym (length-stream c₁ s k) ∙ ap length freed.mine))

  root₂ : In 0 (lives_of c₂ s)
  root₂ = gone.rest 0 root₁ other

  r₂ : stream_bytes c₂ s 0 ≡ r
  r₂ = gone.bytes_of 0 root₁ other ∙ freed.bytes_of 0 root other

  size₂ : (stream c₂ s 0).size ≡ length r
  size₂ = sym (length-stream c₂ s 0) ∙ ap length r₂

  -- its entry ends within the root, and the root without it is shorter
  ends : (e.at ≤ length r') × (length r' ≤ length r) × (e.at + length (drop e.at r') ≡ length r')
  unfolding entries_of
  ends =
      let i = look_in (root_of c) name in
      let a = without_length r i w.filed.directory.whole known in
      let b = entry-ends r i w.filed.directory.whole known in
      (omega arith, omega arith, omega (arith, length-drop e.at r'))

  room : e.at + length (drop e.at r') ≤ (stream c₂ s 0).size
  room = omega (arith, size₂, ends)

  -- the entries behind it are pulled forward
  laid : Edit c₂ c₃ s 0 (over (stream_bytes c₂ s 0) e.at (drop e.at r')) [] (chain c₂ s)
  laid = moves.written c₂ s gone.core 0 root₂ e.at (drop e.at r') room

  root₃ : In 0 (lives_of c₃ s)
  root₃ = rw laid.lives_is root₂

  size₃ : (stream c₃ s 0).size ≡ length r
  size₃ = sym (length-stream c₃ s 0) ∙ ap length laid.mine ∙ length_over (stream_bytes c₂ s 0) e.at (drop e.at r') ∙ ap length r₂

  -- and the root's end is cut off
  cut : Edit c₃ c₄ s 0 (take (length r') (stream_bytes c₃ s 0)) [] (spare c₃ s 0 (length r') ++ chain c₃ s)
  unfolding pulled
  cut = unfold spare surplus_of in moves.shorten c₃ s laid.core 0 root₃ (length r') (omega (arith, size₃, ends))

  text : take (length r') (stream_bytes c₃ s 0) ≡ r'
  unfolding entries_of
  text = ap (take (length r')) (laid.mine ∙ ap (λ (l : List ℕ). over l e.at (drop e.at r')) r₂)
      ∙ over-rest r r' e.at ends.0 ends.1 (sym (without_front r (look_in (root_of c) name) w.filed.directory.whole known))

  both : Edit c₂ c₄ s 0 r' [] (chain c₄ s)
  both = rw text at (edit_free c₂ c₄ s 0 (take (length r') (stream_bytes c₃ s 0)) [] _
      (edit_then c₂ c₃ c₄ s 0 _ (take (length r') (stream_bytes c₃ s 0)) [] [] (chain c₂ s) _ gone.core root₂ laid cut))

  -- ---- rule 8

  abbrev es : List Entry
  es = entries r

  abbrev i : ℕ
  i = look_in (root_of c) name

  -- what the entries give, parted at this one
  parted : {A : Type 0} (g : Entry → A) → map g es ≡ take i (map g es) ++ g e ∷ drop (suc i) (map g es)
  unfolding entries_of
  parted {A} g = split_at (map g es) i (g nothing) (rw length-map known) ∙ ap {B = List A} (λ x. take i (map g es) ++ x ∷ drop (suc i) (map g es)) (get_or-map g es i nothing)

  abbrev ip : List ℕ
  ip = take i (indices es)

  abbrev iq : List ℕ
  iq = drop (suc i) (indices es)

  old : Same (0 ∷ (ip ++ k ∷ iq)) (lives_of c s)
  old = subst (λ (l : List ℕ). Same (0 ∷ l) (lives_of c s)) (parted (λ x. x.index)) w.filed.reach

  less : Distinct (0 ∷ (ip ++ iq)) × (In k (0 ∷ (ip ++ iq)) → ⊥)
  less = distinct_remove (0 ∷ ip) k iq old.once

  same₂ : Same (0 ∷ (ip ++ iq)) (lives_of c₂ s)
  same₂ = same_of (0 ∷ (ip ++ iq)) (lives_of c₂ s) less.0 (lives-distinct (table_bytes c₂ s)) to fro
    where
      to : (x : ℕ) → In x (0 ∷ (ip ++ iq)) → In x (lives_of c₂ s)
      to x m = gone.rest x (rw freed.lives_is (old.all x (in_more x (0 ∷ ip) k iq m))) (λ z. less.1 (subst (λ (y : ℕ). In y (0 ∷ (ip ++ iq))) z m))

      fro : (x : ℕ) → In x (lives_of c₂ s) → In x (0 ∷ (ip ++ iq))
      fro x m = without k x (0 ∷ ip) iq (λ z. gone.gone (subst (λ (y : ℕ). In y (lives_of c₂ s)) z m))
          (same_back (0 ∷ (ip ++ k ∷ iq)) (lives_of c s) old x (rw freed.lives_is at (gone.only x m)))

  filed' : Filed r' (lives_of c₂ s)
  unfolding entries_of
  filed' = record {
    directory = (without_good r i w.filed.directory known).0;
    reach = rw (without_indices r i w.filed.directory.whole known) same₂;
  }

  whole₄ : Whole c₄
  whole₄ = whole_of c₄ s both.core (rw (both.mine, both.lives_is) filed')

  -- ---- the other streams, and the plain list

  kept-bytes : (x : ℕ) → In x (lives_of c s) → x ≢ 0 → x ≢ k → stream_bytes c₄ s x ≡ stream_bytes c s x
  kept-bytes x l a b = let l₁ : In x (lives_of c₁ s) = rw freed.lives_is l in both.bytes_of x (gone.rest x l₁ b) a ∙ gone.bytes_of x l₁ b ∙ freed.bytes_of x l b

  kept-blocks : (x : ℕ) → In x (lives_of c s) → x ≢ 0 → x ≢ k → stream_blocks c₄ s x ≡ stream_blocks c s x
  kept-blocks x l a b = let l₁ : In x (lives_of c₁ s) = rw freed.lives_is l in both.blocks_of_lem x (gone.rest x l₁ b) a ∙ gone.blocks_of_lem x l₁ b ∙ freed.blocks_of_lem x l b

  -- an entry that stays has another index than 0 and k
  stays : (fs : List Entry) → ((x : ℕ) → In x (indices fs) → In x (ip ++ iq)) → items_of (stream_bytes c₄ s) fs ≡ items_of (stream_bytes c s) fs
  stays fs h = map_agree _ _ fs (λ f m.
      let x = f.index in
      let l : In x (ip ++ iq) = h x (in_map (λ (f : Entry). f.index) f fs m) in
      ap {B = Item} (λ b. record { name = f.name; bytes = b }) (kept-bytes x (old.all x (inr (in_more x ip k iq l)))
      (λ z. less.0.0 (subst (λ (y : ℕ). In y (ip ++ iq)) z l)) (λ z. less.1 (inr (subst (λ (y : ℕ). In y (ip ++ iq)) z l)))))

  items' : items_of (stream_bytes c₄ s) (entries r') ≡ removed name (plain c).items
  unfolding plain entries_of
  items' =
      let item : Key → Item = λ f. record { name = f.name; bytes = stream_bytes c₄ s f.index } in
      let items : List Item = items_of (stream_bytes c s) es in
      let a : take i (items_of (stream_bytes c₄ s) es) ≡ take i items =
      sym (map-take _ i es) ∙ stays (take i es) (λ x m. in_left x ip iq (rw (map-take (λ (f : Entry). f.index) i es) at m)) ∙ map-take _ i es in
      let b : drop (suc i) (items_of (stream_bytes c₄ s) es) ≡ drop (suc i) items =
      sym (map-drop _ (suc i) es) ∙ stays (drop (suc i) es) (λ x m. in_right x ip iq (rw (map-drop (λ (f : Entry). f.index) (suc i) es) at m)) ∙ map-drop _ (suc i) es in
      without_map item r i w.filed.directory.whole known
      ∙ ap₂ ◌++◌ a b
      ∙ sym (removed_is name items ∙ rw (look_items (stream_bytes c s) es name))

  plain₄ : plain c₄ ≡ with_items (plain c) (removed name (plain c).items)
  unfolding entries_of
  plain₄ = plain-after c c₄ both.core.shape_is _ _ (both.slots_is ∙ gone.slots_is ∙ freed.slots_is ∙ sym (descs-same c)) (rw both.mine items')

  -- ---- the names

  index_of_lem : (n : List ℕ) → look_in (root_of c) n < length (root_of c) → n ≢ name → index_of c₄ n ≡ index_of c n
  unfolding entries_of
  index_of_lem n l u =
      let x = key (found es n) in
      let root₄ : root_of c₄ ≡ entries r' = ap (λ (t : Shape). entries_of c₄ t 0) both.core.shape_is ∙ ap entries both.mine in
      let apart : x ≡ key e → ⊥ = λ z. u (sym (look_name es n l) ∙ ap (λ (f : Key). f.name) z ∙ look_name es name known) in
      let there : In x (keys r') = rw (without_entry_lem r i w.filed.directory.whole known).1 (without (key e) x (take i (keys r)) (drop (suc i) (keys r)) apart (rw (parted key) at (found_in es n l))) in
      ap (λ (fs : List Entry). (found fs n).index) root₄ ∙ index_kept es (entries r') n l filed'.directory.once there

  -- ---- the frame

  blocks₂ : stream_blocks c₂ s 0 ≡ stream_blocks c s 0
  blocks₂ = gone.blocks_of_lem 0 root₁ other ∙ freed.blocks_of_lem 0 root other

  blocks₃ : stream_blocks c₃ s 0 ≡ stream_blocks c s 0
  blocks₃ = in_place c₂ s gone.core 0 root₂ e.at (drop e.at r') room ∙ blocks₂

  chain₄ : chain c₄ s ≡ spare c s 0 (length r') ++ (rising s.count 0 (stream_blocks c s k) ++ chain c s)
  chain₄ =
      let all : spare c s k 0 ≡ rising s.count 0 (stream_blocks c s k) = unfold spare in ap (rising s.count 0) (surplus-all c s w.core k lk) in
      let mine : spare c₃ s 0 (length r') ≡ spare c s 0 (length r') =
      unfold spare in ap (rising s.count 0) (surplus_of_lem c s w.core 0 root c₃ laid.core root₃ (size₃ ∙ length-stream c s 0) blocks₃ (length r')) in
      cut.chain_is ∙ ap₂ ◌++◌ mine (laid.chain_is ∙ gone.chain_is ∙ freed.chain_is ∙ ap (λ (l : List ℕ). l ++ chain c s) all)

  table₁ : table_blocks c₁ s ≡ table_blocks c s
  table₁ = freed.table_of

  table₂ : table_blocks c₂ s ≡ table_blocks c s
  table₂ = gone.table_of ∙ table₁

  root_from : (b : ℕ) → In b (stream_blocks c₄ s 0) → In b (stream_blocks c s 0)
  root_from b m = elim (both.from b m) [ inl u ↦ rw blocks₂ at u | inr u ↦ absurd u ]

  rest₄ : (i : ℕ) → NotField s i → Beyond s (table_blocks c s) i → Beyond s (stream_blocks c s 0) i → Beyond s (stream_blocks c s k) i → get_or c₄ i 0 ≡ get_or c i 0
  rest₄ i f t b m =
      both.rest-same i f (λ x q. absurd q) (rw blocks₂ b) (beyond_desc c₂ s gone.core 0 (lives_in (table_bytes c₂ s) 0 root₂).0 i (rw table₂ t))
      ∙ gone.rest-same i f (rw table₁ t)
      ∙ freed.rest-same i f (λ x q. absurd q) m (beyond_desc c s w.core k (lives_in (table_bytes c s) k lk).0 i t)

  -- the root's bytes stand where they stood
  spot₂ : (q : ℕ) → q < length r → stream_spot c₂ s 0 q ≡ stream_spot c s 0 q
  spot₂ q l = spot_of c s w.core 0 root c₂ gone.core root₂ (size₂ ∙ length-stream c s 0) blocks₂ q (omega (arith, length-stream c s 0))

  bytes₄ : (i : ℕ) → NotField s i → Beyond s (table_blocks c s) i → NotLink s (stream_blocks c s k) i → NotLink s (surplus_of c s 0 (length r')) i
      → ((q : ℕ) → e.at ≤ q → q < length r' → i ≢ stream_spot c s 0 q) → get_or c₄ i 0 ≡ get_or c i 0
  unfolding pulled
  bytes₄ i f t l m n =
      let t₃ : Beyond s (table_blocks c₃ s) i = rw (laid.table_of, table₂) t in
      let m₃ : NotLink s (surplus_of c₃ s 0 (length r')) i = rw (surplus_of_lem c s w.core 0 root c₃ laid.core root₃ (size₃ ∙ length-stream c s 0) blocks₃ (length r')) m in
      cut_else c₃ s laid.core 0 root₃ (length r') (omega (arith, size₃, ends)) i f m₃ (beyond_desc c₃ s laid.core 0 (lives_in (table_bytes c₃ s) 0 root₃).0 i t₃)
      ∙ in_place_else c₂ s gone.core 0 root₂ e.at (drop e.at r') room i (λ q a b u. n q a (omega (arith, ends)) (u ∙ spot₂ q (omega (arith, ends))))
      ∙ gone.rest-same i f (rw table₁ t)
      ∙ cut_else c s w.core k lk 0 (omega arith) i f (rw (surplus-all c s w.core k lk) l) (beyond_desc c s w.core k (lives_in (table_bytes c s) k lk).0 i t)

  deletes : with_items (plain c) (removed name (plain c).items) ≡ (plain_delete (plain c) name).after → Deleted c name (deleted c e)
  unfolding deleted
  deletes plainly = record {
    before = w;
    after = whole₄;
    plainly = plain₄ ∙ plainly;
    known = known;
    index_of_lem = index_of_lem;
    blocks_of_lem = kept-blocks;
    bytes_of = kept-bytes;
    root_bytes = both.mine;
    root_from = root_from;
    table_of = both.table_of ∙ table₂;
    chain_is = chain₄;
    shorter = omega (arith, ends, length-stream c s 0);
    shape_is = both.core.shape_is;
    long = both.long ∙ gone.long ∙ freed.long;
    rest-same = rest₄;
    bytes_same = bytes₄;
  }

pub delete-done : (c name : List ℕ) → (delete c name).number ≡ 0 → Deleted c name (delete c name).card
unfolding delete plain_delete
delete-done c name z =
    let a = accepted _ c [] _ z in
    let t = passed _ tt a.0 in
    let w = was_whole c t.0 in
    let kn = holds (is_ltb (look_in (root_of c) name) (length (root_of c))) t.1.1.0 in
    let p₀ = plain_accepted _ (plain c) [] _ (sym (delete-number c w name) ∙ z) in
    rw a.1 (deletes c w name kn (sym (ap (λ (q : Plainly). q.after) p₀)))
