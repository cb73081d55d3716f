-- Numbers that fit, on every card that passes its check (proofs/Fitting `fits`).
use Rattle.std.specs.Prelude.{◌≢◌, ℕ, ◌^◌, ◌<◌, List}
use Rattle.layout.specs.Bytes.{end8}
use Rattle.layout.specs.Streams.{table, table_bytes, first_desc}
use Rattle.layout.specs.declared.Shape.{Shape}

-- the table's size, and where the first free descriptor stands
pub record Fits (c : List ℕ) (s : Shape) : Type 0 where
  pub size_of_table : (table c s).size < 2 ^ 61
  pub first : first_desc (table_bytes c s) ≢ end8 → first_desc (table_bytes c s) < 2 ^ 61
