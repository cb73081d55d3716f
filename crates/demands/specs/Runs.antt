-- Runs on a plain list: any calls but format, one after the other.
use Rattle.std.specs.Prelude.{ℕ, max, List, [], ◌∷◌, length}
use Rattle.demands.specs.Call.{Call}
use Rattle.demands.specs.Plain.{Plain, plain_call}

-- the list that a run leaves
unfoldable pub plain_after : Plain → List Call → Plain
plain_after p [] = p
plain_after p (k ∷ ks) = plain_after (plain_call p k).after ks

-- the most items at once
unfoldable pub peak : Plain → List Call → ℕ
peak p [] = length p.items
peak p (k ∷ ks) = max (length p.items) (peak (plain_call p k).after ks)
