-- What a call learns before its own tests: whether the card passes its check, and where the name is.
use Rattle.std.specs.Prelude.{List, ℕ, length, eqb, Option, Some, None, Result, Ok, Err}
use Rattle.layout.specs.Bytes.{pick}
use Rattle.layout.specs.Blocks.{chain}
use Rattle.layout.specs.Filing.{good_name, look_in}
use Rattle.layout.specs.Header.{shape_of}
use Rattle.layout.specs.Sound.{broken}
use Rattle.layout.specs.Answers.{rule_at}
use Rattle.layout.specs.Calls.{root_of, known, entry_of, index_of}
use Rattle.layout.specs.declared.answers.Refusal.{Refusal}
use Rattle.layout.specs.declared.answers.Refusal.TheVariants as no
use Rattle.filing.specs.declared.entries.Found.{Found}
use Rattle.front.specs.declared.Examined.{Examined}
use Rattle.front.specs.declared.Sought.{Sought}

-- L76, L22: how the card is cut and how many blocks are free, or DAMAGED with the lowest broken rule
unfoldable pub examined_of : List ℕ → Result Examined Refusal
examined_of c =
    pick (eqb (broken c) 0)
    (Ok (record { shape = shape_of c; free = length (chain c (shape_of c)) }))
    (Err (no.Damaged (rule_at (broken c))))

-- L73: where the name is, if it is known
abbrev pub found_of : List ℕ → List ℕ → Option Found
found_of c name = pick (known c name) (Some (record { number = look_in (root_of c) name; index = index_of c name; at = (entry_of c name).at })) None

-- L139, L140, L73: DAMAGED before BAD NAME; else where the name is
unfoldable pub sought_of : List ℕ → List ℕ → Result Sought Refusal
sought_of c name =
    pick (eqb (broken c) 0)
    (pick (good_name name)
    (Ok (record { shape = shape_of c; found = found_of c name }))
    (Err no.BadName))
    (Err (no.Damaged (rule_at (broken c))))
