-- An entry of the root, on a card that passes its check, and what delete leaves.
use mathlib.Core.Path.{◌≡◌, refl, sym, ap, ◌∙◌, subst}
use mathlib.Core.Logic.{◌≢◌, inl, inr}
use mathlib.Core.List.{List, []}
use Prim.Native.Nat.{ℕ, ◌+◌, ◌^◌, ◌<◌}
use native.Mathlib.Omega.{arith}
use lib.ListN.{length, get_or}
use Rattle.layout.specs.Blocks.{chain}
use Rattle.layout.specs.Streams.{stream, stream_bytes, shortened}
use Rattle.layout.specs.Filing.{Entry, entries_of, nothing}
use Rattle.layout.specs.Header.{shape_of}
use Rattle.layout.specs.Calls.{root_of, undescribed, deleted}
use Rattle.laws.proofs.Lists.{In, in_map}
use Rattle.laws.proofs.Removal.{in_at}
use Rattle.laws.proofs.Entries.{indices, entry-ends}
use Rattle.laws.proofs.State.{lives_of, Whole, length-stream}
use Rattle.laws.proofs.Edits.{Edit, edit_free}
use Rattle.laws.proofs.Moves as moves
use Rattle.laws.proofs.Undescribe.{Undescribed, undescribe}
use Rattle.filing.proofs.Drawing.{removed_is}
use Rattle.acts.proofs.Fitting.{live-low}
use Rattle.acts.specs.Deleted.{deleted_at}
use Rattle.layout.specs.declared.Shape.{Shape}

module _ (c : List ℕ) (w : Whole c) where
  abbrev s : Shape
  s = shape_of c

  pub root_live : In 0 (lives_of c s)
  root_live = w.filed.reach.all 0 (inl refl)

  module _ (i : ℕ) (there : i < length (root_of c)) where
    abbrev e : Entry
    e = get_or (root_of c) i nothing

    abbrev r : List ℕ
    r = stream_bytes c s 0

    -- what it names lives, and is not the root
    index_in : In e.index (indices (root_of c))
    index_in = in_map (λ (e : Entry). e.index) e (root_of c) (in_at (root_of c) i nothing there)

    pub index_live : In e.index (lives_of c s)
    unfolding entries_of
    index_live = w.filed.reach.all e.index (inr index_in)

    pub not_root : 0 ≢ e.index
    unfolding entries_of
    not_root z = w.filed.reach.once.0 (subst (λ (x : ℕ). In x (indices (root_of c))) (sym z) index_in)

    -- it ends within the root
    pub entry-low : e.at + length e.name < 2 ^ 61
    unfolding entries_of
    entry-low = omega (arith, entry-ends r i w.filed.directory.whole there, length-stream c s 0, (live-low c s w.core 0 root_live).1)

    -- ---- delete

    abbrev c₁ : List ℕ
    c₁ = shortened c s e.index 0

    abbrev c₂ : List ℕ
    c₂ = undescribed c s e.index

    freed : Edit c c₁ s e.index [] [] (chain c₁ s)
    freed = edit_free c c₁ s e.index [] [] _ (moves.shorten c s w.core e.index index_live 0 (omega arith))

    gone : Undescribed c₁ c₂ s e.index
    unfolding undescribed
    gone = rw freed.first_is at (undescribe c₁ s freed.core e.index (rw freed.lives_is index_live) not_root (sym (length-stream c₁ s e.index) ∙ ap length freed.mine))

    root₁ : In 0 (lives_of c₁ s)
    root₁ = rw freed.lives_is root_live

    root₂ : In 0 (lives_of c₂ s)
    root₂ = gone.rest 0 root₁ not_root

    r₂ : stream_bytes c₂ s 0 ≡ r
    r₂ = gone.bytes_of 0 root₁ not_root ∙ freed.bytes_of 0 root_live not_root

    pub size_low : (stream c₂ s 0).size < 2 ^ 62
    size_low = omega (arith, (live-low c₂ s gone.core 0 root₂).1)

    pub deleted_is : deleted_at c s 0 e.index e.at (length e.name) ≡ deleted c e
    unfolding deleted entries_of
    deleted_is = removed_is c₂ s gone.core 0 root₂ r r₂ i w.filed.directory.whole there
