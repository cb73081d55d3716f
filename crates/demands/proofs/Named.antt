-- A stream changed by its name: the card stays whole, and its plain list changes at that name alone.
use mathlib.Core.Path.{◌≡◌, refl, sym, ap, ◌∙◌, subst}
use mathlib.Core.Logic.{◌≢◌, inl, inr}
use mathlib.Core.List.{List}
use Prim.Native.Nat.{ℕ, ◌<◌}
use lib.ListN.{length}
use Rattle.layout.specs.Streams.{stream_bytes}
use Rattle.layout.specs.Filing.{Entry, entries, entries_of, look_in, nothing}
use Rattle.layout.specs.Header.{shape_of}
use Rattle.layout.specs.Calls.{root_of, index_of}
use Rattle.laws.proofs.Lists.{In, in_map}
use Rattle.laws.proofs.Removal.{in_at}
use Rattle.laws.proofs.Entries.{indices}
use Rattle.laws.proofs.State.{lives_of, Whole, whole_of}
use Rattle.laws.proofs.Edits.{Edit}
use Rattle.demands.specs.Plain.{edited, with_items}
use Rattle.demands.specs.Shows.{plain}
use Rattle.demands.proofs.Items.{found, items-edited}
use Rattle.demands.proofs.Shown.{plain-after}
use Rattle.layout.specs.declared.Shape.{Shape}

module _ (c : List ℕ) (w : Whole c) where
  abbrev s : Shape
  s = shape_of c

  pub root_live : In 0 (lives_of c s)
  root_live = w.filed.reach.all 0 (inl refl)

  -- what the root names lives, and is not the root
  pub named_live : (j : ℕ) → In j (indices (root_of c)) → In j (lives_of c s)
  unfolding entries_of
  named_live j i = w.filed.reach.all j (inr i)

  pub named_other : (j : ℕ) → In j (indices (root_of c)) → j ≢ 0
  unfolding entries_of
  named_other j i e = w.filed.reach.once.0 (subst (λ (x : ℕ). In x (indices (root_of c))) e i)

  module _ (name : List ℕ) (known : look_in (root_of c) name < length (root_of c)) where
    abbrev k : ℕ
    k = index_of c name

    pub index_in : In k (indices (root_of c))
    index_in = in_map (λ (e : Entry). e.index) (found (root_of c) name) (root_of c) (in_at (root_of c) (look_in (root_of c) name) nothing known)

    pub found_live : In k (lives_of c s)
    found_live = named_live k index_in

    pub not_root : 0 ≢ k
    not_root e = named_other k index_in (sym e)

    -- an edit of that stream
    module _ (c' : List ℕ) (f : List ℕ → List ℕ) (xs free : List ℕ) (e : Edit c c' s k (f (stream_bytes c s k)) xs free) where
      root-same : stream_bytes c' s 0 ≡ stream_bytes c s 0
      root-same = e.bytes_of 0 root_live not_root

      -- every name keeps its place and its index
      pub named-root : root_of c' ≡ root_of c
      unfolding entries_of
      named-root = ap (λ (z : Shape). entries_of c' z 0) e.core.shape_is ∙ ap entries root-same

      pub named-whole : Whole c'
      named-whole = whole_of c' s e.core (rw (root-same, e.lives_is) w.filed)

      pub named-plain : plain c' ≡ with_items (plain c) (edited name f (plain c).items)
      unfolding plain entries_of
      named-plain = plain-after c c' e.core.shape_is _ _ e.slots_is
          (rw root-same (items-edited (root_of c) name (stream_bytes c s) (stream_bytes c' s) f w.filed.reach.once.1 known
          (λ j i n. e.bytes_of j (named_live j i) n) e.mine))
