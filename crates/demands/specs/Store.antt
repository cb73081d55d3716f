-- A store: ten calls, each from its number in a run and its inputs to an outcome. What it does is not said here; the demands judge it.
use Rattle.std.specs.Prelude.{ℕ, suc, List, [], ◌∷◌}
use Rattle.layout.specs.Answers.{Outcome}
use Rattle.layout.specs.Calls as layout
use Rattle.demands.specs.Call.{Call, checks, rooms, sizes, reads, lists, writes, truncates, creates, deletes}

pub record Store : Type 0 where
  pub format : ℕ → List ℕ → ℕ → Outcome
  pub check : ℕ → List ℕ → Outcome
  pub room : ℕ → List ℕ → Outcome
  pub create : ℕ → List ℕ → List ℕ → Outcome
  pub write : ℕ → List ℕ → List ℕ → ℕ → List ℕ → Outcome
  pub read : ℕ → List ℕ → List ℕ → ℕ → List ℕ → Outcome
  pub truncate : ℕ → List ℕ → List ℕ → ℕ → Outcome
  pub delete : ℕ → List ℕ → List ℕ → Outcome
  pub size : ℕ → List ℕ → List ℕ → Outcome
  pub list : ℕ → List ℕ → ℕ → List ℕ → Outcome

-- what a store makes of a call, the n-th of a run, on the card c
unfoldable pub does : Store → ℕ → List ℕ → Call → Outcome
does S n c checks = S.check n c
does S n c rooms = S.room n c
does S n c (sizes name) = S.size n c name
does S n c (reads name p tray) = S.read n c name p tray
does S n c (lists k tray) = S.list n c k tray
does S n c (writes name p vs) = S.write n c name p vs
does S n c (truncates name m) = S.truncate n c name m
does S n c (creates name) = S.create n c name
does S n c (deletes name) = S.delete n c name

-- the card that a run leaves, its first call being the n-th; a refused call stays in the run
unfoldable pub runs : Store → ℕ → List ℕ → List Call → List ℕ
runs S n c [] = c
runs S n c (k ∷ ks) = runs S (suc n) (does S n c k).card ks

-- the definitions of the layout, which the promises of the code cite: there no call asks for its number
abbrev pub ours : Store
ours = record {
  format = λ n. layout.format;
  check = λ n. layout.check;
  room = λ n. layout.room;
  create = λ n. layout.create;
  write = λ n. layout.write;
  read = λ n. layout.read;
  truncate = λ n. layout.truncate;
  delete = λ n. layout.delete;
  size = λ n. layout.size;
  list = λ n. layout.list;
}
