-- What a call answers, in numbers: the outcome of a call, and the numbers of each answer and of each refusal.
use Rattle.std.specs.Prelude.{ℕ, List, Result, Ok, Err, ⊤, eqb}
use Rattle.layout.specs.Bytes.{pick}
use Rattle.layout.specs.declared.answers.Rule.{Rule}
use Rattle.layout.specs.declared.answers.Rule.TheVariants as rule
use Rattle.layout.specs.declared.answers.Refusal.{Refusal}
use Rattle.layout.specs.declared.answers.Refusal.TheVariants as no
use Rattle.layout.specs.declared.answers.Listed.{Listed}

-- L118: a call's numbers, and what it leaves in card and tray
pub record Outcome : Type 0 where
  pub number : ℕ
  pub rule : ℕ
  pub count : ℕ
  pub size : ℕ
  pub length : ℕ
  pub card : List ℕ
  pub tray : List ℕ

-- ---- the ways a call ends (L152, L153)

-- L153: refused: only the number, DAMAGED's rule, and what there was
abbrev pub refused : ℕ → ℕ → List ℕ → List ℕ → Outcome
refused n r c t = record { number = n; rule = r; count = 0; size = 0; length = 0; card = c; tray = t }

abbrev pub done : List ℕ → List ℕ → Outcome
done c t = record { number = 0; rule = 0; count = 0; size = 0; length = 0; card = c; tray = t }

abbrev pub counted : ℕ → List ℕ → List ℕ → Outcome
counted n c t = record { number = 0; rule = 0; count = n; size = 0; length = 0; card = c; tray = t }

abbrev pub sized : ℕ → List ℕ → List ℕ → Outcome
sized n c t = record { number = 0; rule = 0; count = 0; size = n; length = 0; card = c; tray = t }

abbrev pub listed : ℕ → ℕ → List ℕ → List ℕ → Outcome
listed len n c t = record { number = 0; rule = 0; count = 0; size = n; length = len; card = c; tray = t }

-- ---- the numbers of each case (L77 to L113, L138 to L147)

abbrev pub rule_number : Rule → ℕ
rule_number rule.Length = 1
rule_number rule.FixedValues = 2
rule_number rule.Blocks = 3
rule_number rule.Table = 4
rule_number rule.Descriptors = 5
rule_number rule.Pyramids = 6
rule_number rule.FreeChain = 7
rule_number rule.Root = 8

-- the rule with a number from 1 to 8 (laws:RuleNumbers)
unfoldable pub rule_at : ℕ → Rule
rule_at n =
    pick (eqb n 1) rule.Length (pick (eqb n 2) rule.FixedValues (pick (eqb n 3) rule.Blocks (pick (eqb n 4) rule.Table
    (pick (eqb n 5) rule.Descriptors (pick (eqb n 6) rule.Pyramids (pick (eqb n 7) rule.FreeChain rule.Root))))))

abbrev pub number_of : Refusal → ℕ
number_of (no.Damaged r) = 1
number_of no.BadName = 2
number_of no.NotKnown = 3
number_of no.AlreadyKnown = 4
number_of no.PastTheEnd = 5
number_of no.StreamsFull = 6
number_of no.NoRoom = 7
number_of no.ShortTray = 8
number_of no.BadShape = 9

abbrev pub rule_of : Refusal → ℕ
rule_of (no.Damaged r) = rule_number r
rule_of no.BadName = 0
rule_of no.NotKnown = 0
rule_of no.AlreadyKnown = 0
rule_of no.PastTheEnd = 0
rule_of no.StreamsFull = 0
rule_of no.NoRoom = 0
rule_of no.ShortTray = 0
rule_of no.BadShape = 0

-- an answer, with the card and the tray that it leaves, as an outcome
abbrev pub said_done : Result ⊤ Refusal → List ℕ → List ℕ → Outcome
said_done (Ok u) c t = done c t
said_done (Err why) c t = refused (number_of why) (rule_of why) c t

abbrev pub said_counted : Result ℕ Refusal → List ℕ → List ℕ → Outcome
said_counted (Ok n) c t = counted n c t
said_counted (Err why) c t = refused (number_of why) (rule_of why) c t

abbrev pub said_sized : Result ℕ Refusal → List ℕ → List ℕ → Outcome
said_sized (Ok n) c t = sized n c t
said_sized (Err why) c t = refused (number_of why) (rule_of why) c t

abbrev pub said_listed : Result Listed Refusal → List ℕ → List ℕ → Outcome
said_listed (Ok entry) c t = listed entry.length entry.size c t
said_listed (Err why) c t = refused (number_of why) (rule_of why) c t
