-- The nine calls but format, each with its arguments.
use Rattle.std.specs.Prelude.{ℕ, List}

pub data Call : Type 0 where
  checks : Call
  rooms : Call
  sizes : List ℕ → Call
  reads : List ℕ → ℕ → List ℕ → Call
  lists : ℕ → List ℕ → Call
  writes : List ℕ → ℕ → List ℕ → Call
  truncates : List ℕ → ℕ → Call
  creates : List ℕ → Call
  deletes : List ℕ → Call
