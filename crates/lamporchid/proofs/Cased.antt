-- Answers by their words: a refusal's numbers are small, and a size has the bits of a count.
use mathlib.Core.Path.{◌≡◌, refl}
use mathlib.Core.List.{[]}
use Rattle.std.specs.Prelude.{Result, Ok, Err}
use Prim.Native.Nat.{ℕ, ◌≤◌}
use native.Mathlib.Omega.{arith}
use Rattle.layout.specs.Answers.{rule_number, number_of, rule_of, said_counted, said_sized}
use Rattle.layout.specs.Words.{word}
use Rattle.layout.specs.declared.answers.Rule.{Rule}
use Rattle.layout.specs.declared.answers.Rule.TheVariants as rule
use Rattle.layout.specs.declared.answers.Refusal.{Refusal}
use Rattle.layout.specs.declared.answers.Refusal.TheVariants as no

few_rules : (r : Rule) → rule_number r ≤ 8
few_rules rule.Length = omega arith
few_rules rule.FixedValues = omega arith
few_rules rule.Blocks = omega arith
few_rules rule.Table = omega arith
few_rules rule.Descriptors = omega arith
few_rules rule.Pyramids = omega arith
few_rules rule.FreeChain = omega arith
few_rules rule.Root = omega arith

pub few : (x : Refusal) → (number_of x ≤ 9) × (rule_of x ≤ 8)
few (no.Damaged r) = (omega arith, few_rules r)
few no.BadName = (omega arith, omega arith)
few no.NotKnown = (omega arith, omega arith)
few no.AlreadyKnown = (omega arith, omega arith)
few no.PastTheEnd = (omega arith, omega arith)
few no.StreamsFull = (omega arith, omega arith)
few no.NoRoom = (omega arith, omega arith)
few no.ShortTray = (omega arith, omega arith)
few no.BadShape = (omega arith, omega arith)

pub sized_alike : (a : Result ℕ Refusal) → word (said_counted a [] []) ≡ word (said_sized a [] [])
unfolding word
sized_alike (Ok n) = omega arith
sized_alike (Err x) = refl
