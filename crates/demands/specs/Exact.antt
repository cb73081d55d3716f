-- What a promise fixes: everything. And what a refusal leaves: everything.
use Rattle.std.specs.Prelude.{◌≡◌, ◌≢◌, ℕ, List}
use Rattle.layout.specs.Answers.{Outcome}

-- a refused call: card and tray are as they were, and of its numbers only the refusal's own is told, with DAMAGED's rule
pub record Untouched (c t : List ℕ) (o : Outcome) : Type 0 where
  pub card : o.card ≡ c
  pub tray : o.tray ≡ t
  pub count : o.count ≡ 0
  pub size : o.size ≡ 0
  pub length : o.length ≡ 0
  pub rule : o.number ≢ 1 → o.rule ≡ 0
