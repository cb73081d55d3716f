-- Names in buckets: each is compared only with the earlier ones of its own bucket.
use Rattle.std.specs.Prelude.{◌≡◌, Bool, true, false, not, ℕ, zero, suc, ◌+◌, ◌*◌, ◌%◌, ◌<◌, List, [], ◌∷◌, length, get_or, eqb, Option, Some, None}
use Rattle.layout.specs.Bytes.{pick, same}
use Rattle.layout.specs.Filing.{Entry, nothing}
use Rattle.naming.specs.declared.apart.Link.{Link}
use Rattle.naming.specs.declared.apart.Buckets.{Buckets}

-- ---- the bucket of a name

unfoldable pub hash_from : ℕ → List ℕ → ℕ
hash_from h [] = h
hash_from h (b ∷ bs) = hash_from ((h * 31 + b) % 65536) bs

unfoldable pub bucket_of : List ℕ → ℕ
bucket_of name = hash_from 0 name % 1024

-- ---- earlier names

abbrev pub name_at : List Entry → ℕ → List ℕ
name_at es i = (get_or es i nothing).name

-- whether one of the first i entries has that name
unfoldable pub among : List Entry → ℕ → List ℕ → Bool
among es zero name = false
among es (suc j) name = pick (same (name_at es j) name) true (among es j name)

-- no earlier entry has this one's name
abbrev pub first_of : List Entry → ℕ → Bool
first_of es i = not (among es i (name_at es i))

-- the last of the first i entries whose name is in bucket h, counted from 1; 0 where there is none
unfoldable pub last_in : List Entry → ℕ → ℕ → ℕ
last_in es h zero = 0
last_in es h (suc i) = pick (eqb (bucket_of (name_at es i)) h) (suc i) (last_in es h i)

-- ---- each bucket's last entry, and the entry before each in its bucket

-- how many entries there are up to that one, itself the last
abbrev pub up_to : Option ℕ → ℕ
up_to None = 0
up_to (Some j) = suc j

-- what stands where there is no link
abbrev pub unlinked : Link
unlinked = record { at = 0; before = None }

abbrev pub Linked : List Entry → ℕ → List Link → Type 0
Linked es i links = (j : ℕ) → j < i → ((get_or links j unlinked).at ≡ (get_or es j nothing).at) × (up_to (get_or links j unlinked).before ≡ last_in es (bucket_of (name_at es j)) j)

abbrev pub Headed : List Entry → ℕ → List (Option ℕ) → Type 0
Headed es i last = (h : ℕ) → h < 1024 → up_to (get_or last h None) ≡ last_in es h i

-- the first i entries are in their buckets
pub record Filed (es : List Entry) (i : ℕ) (b : Buckets) : Type 0 where
  pub linked : Linked es i b.links
  pub headed : Headed es i b.last
  pub long : length b.links ≡ 256
  pub wide : length b.last ≡ 1024
