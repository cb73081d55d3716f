-- The bytes before `i` are the same.
use Rattle.std.proofs.Common.{◌≡◌, ◌+◌, drop}
use Rattle.layout.specs.Bytes.{matches}
use Rattle.memory.proofs.runs.matches.Given as goal

abbrev pub invariant-loop-i : goal.invariant-loop-i
invariant-loop-i l = matches l.card (l.at + l.i) (drop l.i l.run) ≡ matches l.card l.at l.run
