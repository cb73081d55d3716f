-- Delete: by the place of its entry, and so by its name.
use mathlib.Core.Path.{◌≡◌, sym, ap, ◌∙◌}
use mathlib.Core.List.{List, []}
use Prim.Native.Nat.{ℕ}
use lib.ListN.{length}
use Rattle.layout.specs.Filing.{look_in}
use Rattle.layout.specs.Answers.{done}
use Rattle.layout.specs.Calls.{root_of, entry_of, deleted, delete}
use Rattle.laws.proofs.Entries.{look_name}
use Rattle.acts.specs.Deleted.{deleted_at}
use Rattle.acts.proofs.Sound.{deleted_is}
use Rattle.front.proofs.Outcomes.{none}
use Rattle.front.proofs.Passing.{Named, whole, there}
use Rattle.front.proofs.Fronted.{past_name}
use Rattle.layout.specs.declared.Shape.{Shape}

module _ {c name : List ℕ} {s : Shape} {k at : ℕ} (n : Named c name s k at) where
  pub delete-done : (c' : List ℕ) → c' ≡ deleted_at c s 0 k at (length name) → done c' [] ≡ delete c name
  unfolding delete
  delete-done c' a =
      let l = there n in
      let m : length name ≡ length (entry_of c name).name = ap length (sym (look_name (root_of c) name l)) in
      let d : c' ≡ deleted c (entry_of c name) = a ∙ rw (n.passed.cut, n.index, n.place, m) (deleted_is c (whole n.passed) (look_in (root_of c) name) l) in
      rw d (none c [] _ ∙ past_name n [] _ [])
