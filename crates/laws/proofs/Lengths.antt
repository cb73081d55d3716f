-- No step changes a card's length.
use mathlib.Core.Path.{◌≡◌, refl, ◌∙◌}
use mathlib.Core.Bool.{Bool, true, false}
use mathlib.Core.List.{List, [], ◌∷◌}
use Prim.Native.Nat.{ℕ, zero, suc}
use lib.ListN.{length, replicate, length-set}
use lib.Dec.{ltb}
use Rattle.layout.specs.Bytes.{pick, put}
use Rattle.laws.proofs.ByteLaws.{length_over, length-put}
use Rattle.layout.specs.Pyramid.{height}
use Rattle.laws.proofs.GiveBack.{length-freed}
use Rattle.layout.specs.Blocks.{fan, place, slot_place, first_free, next, taken, freed, linked, falling, given_back, Grown, hooked, hung, raised, rooted, grown_one, grown}
use Rattle.layout.specs.Streams.{laid_to}
use Rattle.layout.specs.declared.Shape.{Shape}

module _ (s : Shape) where
  pub length_taken : (c : List ℕ) → length (taken c s) ≡ length c
  unfolding taken
  length_taken c = length-put 8 _ s.first (next c s (first_free c s)) ∙ length_over c (place s (first_free c s)) (replicate s.size 0)

  length-hung : (m : ℕ) (c : List ℕ) (b j : ℕ) → length (hung m c s b j) ≡ length c
  unfolding hung hooked
  length-hung zero c b j = refl
  length-hung (suc m) c b j = length-hung m _ (first_free c s) 0 ∙ length-put 4 (taken c s) (slot_place s b j) (first_free c s) ∙ length_taken c

  length-raised : (c : List ℕ) (top d : ℕ) → length (raised c s top d).card ≡ length c
  unfolding raised
  length-raised c top d = go (ltb (height (fan s) d) (height (fan s) (suc d)))
    where
      go : (t : Bool) → length (let g : Grown = pick t (record { card = put 4 (taken c s) (slot_place s (first_free c s) 0) top; top = first_free c s }) (record { card = c; top = top }) in g).card ≡ length c
      go true = length-put 4 (taken c s) (slot_place s (first_free c s) 0) top ∙ length_taken c
      go false = refl

  length-one : (c : List ℕ) (top d : ℕ) → length (grown_one c s top d).card ≡ length c
  unfolding grown_one rooted
  length-one c top zero = length_taken c
  length-one c top (suc d) = length-hung _ (raised c s top (suc d)).card _ _ ∙ length-raised c top (suc d)

  pub length-grown : (m : ℕ) (c : List ℕ) (top d : ℕ) → length (grown c s top d m).card ≡ length c
  unfolding grown
  length-grown zero c top d = refl
  length-grown (suc m) c top d = length-grown m (grown_one c s top d).card (grown_one c s top d).top (suc d) ∙ length-one c top d

  length-linked : (bs c : List ℕ) (head : ℕ) → length (linked c s head bs) ≡ length c
  unfolding linked
  length-linked [] c head = length-put 8 c s.first head
  length-linked (b ∷ bs) c head = length-linked bs (freed c s b head) b ∙ length-freed s c b head

  pub length_given : (c : List ℕ) (bs : List ℕ) → length (given_back c s bs) ≡ length c
  unfolding given_back
  length_given c bs = length-linked (falling s.count bs) c (first_free c s)

  pub length-laid : (n : ℕ) (c : List ℕ) (top h p : ℕ) (vs : List ℕ) → length (laid_to n c s top h p vs) ≡ length c
  unfolding laid_to
  length-laid zero c top h p vs = refl
  length-laid (suc n) c top h p vs = rw length-set (length-laid n c top h p vs)
