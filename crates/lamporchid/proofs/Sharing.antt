-- What shares bits of the word is never there together, and the number tells which it is.
use mathlib.Core.Path.{◌≡◌, refl}
use mathlib.Core.Logic.{◌≢◌}
use mathlib.Core.Bool.{Bool, true, false}
use mathlib.Core.List.{List, []}
use Prim.Native.Nat.{ℕ, ◌*◌}
use native.Mathlib.Decide.{ℕ_discrete}
use native.Mathlib.Omega.{arith}
use lib.ListN.{length}
use lib.Dec.{eqb}
use Rattle.layout.specs.Bytes.{pick}
use Rattle.layout.specs.Header.{good_shape}
use Rattle.layout.specs.Sound.{broken}
use Rattle.layout.specs.Answers.{Outcome, refused, done, counted, sized, listed}
use Rattle.layout.specs.Calls.{Test, first_no, unless, formatted, format, check, room, create, write, read, truncate, delete, size, list}
use Rattle.laws.proofs.Picks.{eqb_yes, eqb_no}

pub record Shares (o : Outcome) : Type 0 where
  -- a rule only with DAMAGED, a length only where it is done, and never a count and a size
  pub rule : o.number ≢ 1 → o.rule ≡ 0
  pub length : o.number ≢ 0 → o.length ≡ 0
  pub one : o.count * o.size ≡ 0

counted_shares : (n : ℕ) (c t : List ℕ) → Shares (counted n c t)
counted_shares n c t = record { rule = λ h. refl; length = λ h. refl; one = omega arith }

sized_shares : (n : ℕ) (c t : List ℕ) → Shares (sized n c t)
sized_shares n c t = record { rule = λ h. refl; length = λ h. refl; one = omega arith }

listed_shares : (len n : ℕ) (c t : List ℕ) → Shares (listed len n c t)
listed_shares len n c t = record { rule = λ h. refl; length = λ h. absurd (h refl); one = omega arith }

done_shares : (c t : List ℕ) → Shares (done c t)
done_shares c t = record { rule = λ h. refl; length = λ h. refl; one = omega arith }

unless_shares : (tests : List Test) (c t : List ℕ) (o : Outcome) → Shares o → Shares (unless tests c t o)
unless_shares tests c t o s = go (first_no tests)
  where
    go : (n : ℕ) → Shares (pick (eqb n 0) o (refused n (pick (eqb n 1) (broken c) 0) c t))
    go n = elim (ℕ_discrete n 0) [
      | yes z ↦ rw (eqb_yes z) s
      | no z ↦ rw (eqb_no z) (record { rule = λ h. rw (eqb_no h); length = λ h. refl; one = omega arith })
    ]

format_shares : (c : List ℕ) (shift : ℕ) → Shares (format c shift)
unfolding format
format_shares c shift = go (good_shape (length c) shift)
  where
    go : (b : Bool) → Shares (pick b (done (formatted (length c) shift) []) (refused 9 0 c []))
    go true = done_shares (formatted (length c) shift) []
    go false = record { rule = λ h. refl; length = λ h. refl; one = omega arith }

-- n is a shift, a place, a length or an entry's number, as the call has it; vs is the data or the tray
pub words_share : (c name vs : List ℕ) (n : ℕ)
    → Shares (format c n) × Shares (check c) × Shares (room c) × Shares (create c name) × Shares (write c name n vs)
    × Shares (read c name n vs) × Shares (truncate c name n) × Shares (delete c name) × Shares (size c name) × Shares (list c n vs)
unfolding check room create write read truncate delete size list
words_share c name vs n = (
  format_shares c n,
  unless_shares _ _ _ _ (done_shares _ _),
  unless_shares _ _ _ _ (counted_shares _ _ _),
  unless_shares _ _ _ _ (done_shares _ _),
  unless_shares _ _ _ _ (counted_shares _ _ _),
  unless_shares _ _ _ _ (counted_shares _ _ _),
  unless_shares _ _ _ _ (done_shares _ _),
  unless_shares _ _ _ _ (done_shares _ _),
  unless_shares _ _ _ _ (sized_shares _ _ _),
  unless_shares _ _ _ _ (listed_shares _ _ _ _),
)
