-- A stream made or taken away by its name, as create and delete do it: the other streams, and the bytes that may change.
use mathlib.Core.Path.{◌≡◌, sym, ap, ap₂, ◌∙◌}
use mathlib.Core.Logic.{◌≢◌, inl, inr}
use mathlib.Core.List.{List}
use Prim.Native.Nat.{ℕ}
use lib.ListN.{take, drop, take-append-drop}
use lib.Dec.{T}
use Rattle.layout.specs.Blocks.{chain}
use Rattle.layout.specs.Streams.{stream_bytes, table_blocks, stream_blocks}
use Rattle.layout.specs.Header.{shape_of}
use Rattle.layout.specs.Calls.{index_of, create_wants}
use Rattle.laws.proofs.Lists.{In, Distinct, in_left, distinct_apart, holds_in, holds_read}
use Rattle.demands.specs.Plain.{knows}
use Rattle.demands.specs.Shows.{plain}
use Rattle.demands.specs.Parts.{Taken, DirectoryParts}
use Rattle.demands.specs.Demand3.{SameByte, SameStream}
use Rattle.demands.proofs.Named.{found_live, not_root}
use Rattle.demands.proofs.Streamwise.{known_in, index_apart}
use Rattle.demands.proofs.Creates.{Created}
use Rattle.demands.proofs.Deletes.{Deleted}
use Rattle.layout.specs.declared.Shape.{Shape}

-- the first m blocks of the chain, where the rest is the chain then
pub first_taken : (c c' : List ℕ) (m : ℕ) → Distinct (chain c (shape_of c)) → chain c' (shape_of c') ≡ drop m (chain c (shape_of c)) → (b : ℕ) → In b (take m (chain c (shape_of c))) → Taken c c' b
first_taken c c' m d e b i =
    let ch = chain c (shape_of c) in (
      holds_in b ch (rw (take-append-drop m ch) at (in_left b (take m ch) (drop m ch) i)),
      λ h. distinct_apart (take m ch) (drop m ch) (rw (take-append-drop m ch) d) b i (rw e at (holds_read b (chain c' (shape_of c')) h)),
    )

module _ (c c' n : List ℕ) (shape : shape_of c' ≡ shape_of c) (index : index_of c' n ≡ index_of c n) where
  same-stream : stream_blocks c' (shape_of c) (index_of c n) ≡ stream_blocks c (shape_of c) (index_of c n) → stream_bytes c' (shape_of c) (index_of c n) ≡ stream_bytes c (shape_of c) (index_of c n) → SameStream c c' n
  same-stream blocks bytes = record {
    index = index;
    blocks = ap₂ (λ (z : Shape) j. stream_blocks c' z j) shape index ∙ blocks;
    bytes = ap₂ (λ (z : Shape) j. stream_bytes c' z j) shape index ∙ bytes;
  }

module _ (c name c' : List ℕ) (t : Created c name c') where
  pub created-others : (n : List ℕ) → T (knows (plain c) n) → SameStream c c' n
  created-others n h =
      let l = known_in c n h in
      let i = found_live c t.before n l in
      let z : index_of c n ≢ 0 = λ e. not_root c t.before n l (sym e) in
      same-stream c c' n t.shape_is (t.index_of_lem n l) (t.blocks_of_lem (index_of c n) i z) (t.bytes_of (index_of c n) i z)

  pub created-parts : (i : ℕ) → (DirectoryParts c name c' i → ⊥) → SameByte c c' i
  created-parts i h =
      let chain_is : chain c' (shape_of c') ≡ drop (create_wants c name) (chain c (shape_of c)) = ap (λ (z : Shape). chain c' z) t.shape_is ∙ t.chain_is in
      let taken = first_taken c c' (create_wants c name) t.before.core.parts.room.apart chain_is in
      t.rest-same i (λ a b. h (inl (a, b))) (λ a b. h (inr (inl (a, b)))) (λ x m u. h (inr (inr (inr (inr (inr (x, taken x m, u)))))))
      (λ x m u. h (inr (inr (inl (x, holds_in x (table_blocks c (shape_of c)) m, u))))) (λ x m u. h (inr (inr (inr (inl (x, holds_in x (stream_blocks c (shape_of c) 0) m, u))))))

module _ (c name c' : List ℕ) (t : Deleted c name c') where
  pub deleted-others : (n : List ℕ) → T (knows (plain c) n) → (n ≡ name → ⊥) → SameStream c c' n
  deleted-others n h u =
      let l = known_in c n h in
      let i = found_live c t.before n l in
      let z : index_of c n ≢ 0 = λ e. not_root c t.before n l (sym e) in
      let d = index_apart c t.before n name l t.known u in
      same-stream c c' n t.shape_is (t.index_of_lem n l u) (t.blocks_of_lem (index_of c n) i z d) (t.bytes_of (index_of c n) i z d)

  pub deleted-parts : (i : ℕ) → (DirectoryParts c name c' i → ⊥) → SameByte c c' i
  deleted-parts i h =
      let s = shape_of c in
      t.rest-same i (λ a b. h (inl (a, b))) (λ x m u. h (inr (inr (inl (x, holds_in x (table_blocks c s) m, u)))))
      (λ x m u. h (inr (inr (inr (inl (x, holds_in x (stream_blocks c s 0) m, u)))))) (λ x m u. h (inr (inr (inr (inr (inl (x, holds_in x (stream_blocks c s (index_of c name)) m, u)))))))
