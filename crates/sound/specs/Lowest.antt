-- The rules one after the other, and what the check tells of them: the lowest broken one, or how many blocks are free.
use Rattle.std.specs.Prelude.{ℕ, List, Result, Ok, Err, length, eqb}
use Rattle.layout.specs.Bytes.{pick}
use Rattle.layout.specs.Blocks.{chain}
use Rattle.layout.specs.Header.{shape_of}
use Rattle.layout.specs.Sound.{rule4, rule5, rule6, rule7, rule8, broken}
use Rattle.layout.specs.Answers.{rule_number}
use Rattle.layout.specs.declared.Shape.{Shape}
use Rattle.layout.specs.declared.answers.Rule.{Rule}
use Rattle.layout.specs.declared.answers.Rule.TheVariants as rule

-- the number of the rule that a verdict names; 0 where it names none
abbrev pub rule_in : Result ℕ Rule → ℕ
rule_in (Ok n) = 0
rule_in (Err r) = rule_number r

-- the free blocks that it tells; 0 where a rule is broken
abbrev pub free_in : Result ℕ Rule → ℕ
free_in (Ok n) = n
free_in (Err r) = 0

-- L76, L123: rules 4 to 8, in this order
abbrev pub verdict_in : List ℕ → Shape → Result ℕ Rule
verdict_in c s =
    pick (rule4 c s) (pick (rule5 c s) (pick (rule6 c s) (pick (rule7 c s) (pick (rule8 c s)
    (Ok (length (chain c s))) (Err rule.Root)) (Err rule.FreeChain)) (Err rule.Pyramids)) (Err rule.Descriptors)) (Err rule.Table)

-- L123: how many blocks of any bytes are free; 0 where a rule is broken
unfoldable pub free_of : List ℕ → ℕ
free_of c = pick (eqb (broken c) 0) (length (chain c (shape_of c))) 0
