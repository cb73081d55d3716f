-- How many blocks a card has (G3, and clause 2 of rule 3).
use Rattle.std.specs.Prelude.{ℕ, ◌+◌, ◌%◌}
use Rattle.samples.specs.declared.free.Free.{Free}
use Rattle.samples.specs.declared.free.Free.TheVariants as free

-- the blocks of a card of which so many are used
abbrev pub counted : Free → ℕ → ℕ
counted (free.Drawn q) used = used + q
counted (free.Even q) used = used + q + (used + q) % 2
counted free.Most used = 4096
