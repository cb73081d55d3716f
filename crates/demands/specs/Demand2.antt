-- Demand 2, of any store: on a card that passes its check each call answers and acts as on a plain list of names with their bytes,
-- and it refuses in the listed situations and in no other.
use Rattle.std.specs.Prelude.{◌≡◌, ◌≢◌, ◌⊎◌, ◌↔◌, ℕ, ◌≤◌, ◌<◌, List, [], ◌∷◌, length, T}
use Rattle.layout.specs.Bytes.{pick}
use Rattle.layout.specs.Header.{good_shape}
use Rattle.layout.specs.Sound.{broken}
use Rattle.layout.specs.Answers.{Outcome}
use Rattle.layout.specs.Calls.{Test}
use Rattle.demands.specs.Call.{Call}
use Rattle.demands.specs.Plain.{Plain, Plainly, free_of, blocks_for, situations, plain_call}
use Rattle.demands.specs.Shows.{plain}
use Rattle.demands.specs.Store.{Store, does}

-- the numbers and the tray of a call are those of the plain call; only DAMAGED has a rule
pub record Answers (o : Outcome) (q : Plainly) : Type 0 where
  pub number : o.number ≡ q.number
  pub rule : o.rule ≡ 0
  pub count : o.count ≡ q.count
  pub size : o.size ≡ q.size
  pub length : o.length ≡ q.length
  pub tray : o.tray ≡ q.tray

-- the situation with the number n is there
abbrev pub Given : List Test → ℕ → Type 0
Given [] n = ⊥
Given ((b, m) ∷ more) n = (T b × (m ≡ n)) ⊎ Given more n

-- and none with a lower number
abbrev pub Lowest : List Test → ℕ → Type 0
Lowest tests n = Given tests n × ((m : ℕ) → m < n → Given tests m → ⊥)

-- one call on a card that passes its check, that shows the plain list p
pub record ActsPlainly (p : Plain) (k : Call) (o : Outcome) : Type 0 where
  -- it answers as on the plain list, and acts so
  pub answers : Answers o (plain_call p k)
  pub acts : plain o.card ≡ (plain_call p k).after
  -- each number is given exactly where its situation is there, and none with a lower number
  pub refuses : (n : ℕ) → 1 ≤ n → (o.number ≡ n) ↔ Lowest (situations p k) n
  -- "no room" comes only when the layout needs more blocks than are free, by P's count: those that were freed are given again
  pub room : blocks_for p k ≤ free_of p → o.number ≢ 7

pub record Demand2 (S : Store) : Type 0 where
  pub plainly : (n : ℕ) (c : List ℕ) → broken c ≡ 0 → (k : Call) → ActsPlainly (plain c) k (does S n c k)
  -- any other card is DAMAGED, with the lowest broken rule
  pub damaged : (n : ℕ) (c : List ℕ) → broken c ≢ 0 → (k : Call) → ((does S n c k).number ≡ 1) × ((does S n c k).rule ≡ broken c)
  -- format asks for a good shape, and for nothing of the card
  pub formats : (n : ℕ) (c : List ℕ) (shift : ℕ) → (S.format n c shift).number ≡ pick (good_shape (length c) shift) 0 9
