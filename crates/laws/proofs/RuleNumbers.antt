-- The rules and their numbers: each can be had from the other.
use mathlib.Core.Path.{◌≡◌, refl, ap}
use mathlib.Core.Bool.{Bool, true, false}
use mathlib.Core.List.{List}
use Prim.Native.Nat.{ℕ}
use native.Mathlib.Omega.{arith}
use Rattle.layout.specs.Bytes.{pick}
use Rattle.layout.specs.Header.{shape_of}
use Rattle.layout.specs.Sound.{rule1, rule2, rule3, rule4, rule5, rule6, rule7, rule8, broken}
use Rattle.layout.specs.Answers.{rule_number, rule_at}
use Rattle.layout.specs.declared.answers.Rule.{Rule}
use Rattle.layout.specs.declared.answers.Rule.TheVariants as rule

pub rule_back : (r : Rule) → rule_at (rule_number r) ≡ r
unfolding rule_at
rule_back rule.Length = refl
rule_back rule.FixedValues = refl
rule_back rule.Blocks = refl
rule_back rule.Table = refl
rule_back rule.Descriptors = refl
rule_back rule.Pyramids = refl
rule_back rule.FreeChain = refl
rule_back rule.Root = refl

-- no rule has the number 0
pub rule_some : (r : Rule) → rule_number r ≡ 0 → ⊥
rule_some rule.Length e = omega (arith, e)
rule_some rule.FixedValues e = omega (arith, e)
rule_some rule.Blocks e = omega (arith, e)
rule_some rule.Table e = omega (arith, e)
rule_some rule.Descriptors e = omega (arith, e)
rule_some rule.Pyramids e = omega (arith, e)
rule_some rule.FreeChain e = omega (arith, e)
rule_some rule.Root e = omega (arith, e)

-- 0, or a rule's number
abbrev Numbers : ℕ → Type 0
Numbers n = (n ≡ 0 → ⊥) → rule_number (rule_at n) ≡ n

none : Numbers 0
none h = absurd (h refl)

one : (r : Rule) → Numbers (rule_number r)
one r h = ap rule_number (rule_back r)

either : (b : Bool) {n m : ℕ} → Numbers n → Numbers m → Numbers (pick b n m)
either true f g = f
either false f g = g

pub broken_back : (c : List ℕ) → Numbers (broken c)
unfolding broken
broken_back c =
    let s = shape_of c in
    either (rule1 c) (either (rule2 c) (either (rule3 c) (either (rule4 c s) (either (rule5 c s) (either (rule6 c s) (either (rule7 c s) (either (rule8 c s)
    none (one rule.Root)) (one rule.FreeChain)) (one rule.Pyramids)) (one rule.Descriptors)) (one rule.Table)) (one rule.Blocks)) (one rule.FixedValues)) (one rule.Length)
