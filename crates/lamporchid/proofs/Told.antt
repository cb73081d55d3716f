-- From an answer to the word: what card and tray hold does not matter to it.
use mathlib.Core.Path.{◌≡◌, refl, ap, ◌∙◌}
use mathlib.Core.List.{List, []}
use Rattle.std.specs.Prelude.{Result, Ok, Err, ⊤}
use Prim.Native.Nat.{ℕ, ◌^◌, ◌<◌}
use Rattle.layout.specs.Answers.{Outcome, said_done, said_counted, said_sized, said_listed}
use Rattle.layout.specs.Words.{word, Packed}
use Rattle.layout.specs.Calls.{format, check, room, create, write, read, truncate, delete, size, list}
use Rattle.layout.specs.Promises.{Formats, Checks, Rooms, Creates, Writes, Reads, Truncates, Deletes, Sizes, Lists}
use Rattle.lamporchid.proofs.Packing.{word_low}
use Rattle.lamporchid.proofs.Bounds.{room_packed, size_packed, write_packed, read_packed, list_packed}
use Rattle.layout.specs.declared.answers.Refusal.{Refusal}
use Rattle.layout.specs.declared.answers.Listed.{Listed}

-- an outcome's word, and what it leaves, from an answer's
abbrev Kept : Outcome → Outcome → List ℕ → List ℕ → Type 0
Kept bare o c t = (word bare ≡ word o) × (c ≡ o.card) × (t ≡ o.tray)

done-kept : (a : Result ⊤ Refusal) (c t : List ℕ) → Kept (said_done a [] []) (said_done a c t) c t
unfolding word
done-kept (Ok u) c t = (refl, refl, refl)
done-kept (Err r) c t = (refl, refl, refl)

counted-kept : (a : Result ℕ Refusal) (c t : List ℕ) → Kept (said_counted a [] []) (said_counted a c t) c t
unfolding word
counted-kept (Ok n) c t = (refl, refl, refl)
counted-kept (Err r) c t = (refl, refl, refl)

sized-kept : (a : Result ℕ Refusal) (c t : List ℕ) → Kept (said_sized a [] []) (said_sized a c t) c t
unfolding word
sized-kept (Ok n) c t = (refl, refl, refl)
sized-kept (Err r) c t = (refl, refl, refl)

listed_kept : (a : Result Listed Refusal) (c t : List ℕ) → Kept (said_listed a [] []) (said_listed a c t) c t
unfolding word
listed_kept (Ok entry) c t = (refl, refl, refl)
listed_kept (Err r) c t = (refl, refl, refl)

module _ (bare said o : Outcome) (c t : List ℕ) (k : Kept bare said c t) (f : said ≡ o) where
  low : Packed o → word bare < 2 ^ 64
  low p = rw (k.0, f) (word_low o p)

  told : (r : ℕ) → r ≡ word bare → (r ≡ word o) × (c ≡ o.card) × (t ≡ o.tray)
  told r e = (e ∙ k.0 ∙ ap word f, k.1 ∙ ap (λ (o : Outcome). o.card) f, k.2 ∙ ap (λ (o : Outcome). o.tray) f)

-- ---- call by call, from the promise of the store's call

module _ (c c' : List ℕ) (a : Result ⊤ Refusal) where
  pub format_told : (shift r : ℕ) → Formats c shift a c' → r ≡ word (said_done a [] []) → (r ≡ word (format c shift)) × (c' ≡ (format c shift).card)
  unfolding Formats
  format_told shift r f e = let t = told (said_done a [] []) (said_done a c' []) _ c' [] (done-kept a c' []) f r e in (t.0, t.1)

  pub create_told : (name : List ℕ) (r : ℕ) → Creates c name a c' → r ≡ word (said_done a [] []) → (r ≡ word (create c name)) × (c' ≡ (create c name).card)
  unfolding Creates
  create_told name r f e = let t = told (said_done a [] []) (said_done a c' []) _ c' [] (done-kept a c' []) f r e in (t.0, t.1)

  pub truncate_told : (name : List ℕ) (n r : ℕ) → Truncates c name n a c' → r ≡ word (said_done a [] []) → (r ≡ word (truncate c name n)) × (c' ≡ (truncate c name n).card)
  unfolding Truncates
  truncate_told name n r f e = let t = told (said_done a [] []) (said_done a c' []) _ c' [] (done-kept a c' []) f r e in (t.0, t.1)

  pub delete_told : (name : List ℕ) (r : ℕ) → Deletes c name a c' → r ≡ word (said_done a [] []) → (r ≡ word (delete c name)) × (c' ≡ (delete c name).card)
  unfolding Deletes
  delete_told name r f e = let t = told (said_done a [] []) (said_done a c' []) _ c' [] (done-kept a c' []) f r e in (t.0, t.1)

pub check_told : (c : List ℕ) (a : Result ⊤ Refusal) (r : ℕ) → Checks c a → r ≡ word (said_done a [] []) → r ≡ word (check c)
unfolding Checks
check_told c a r f e = (told (said_done a [] []) (said_done a c []) _ c [] (done-kept a c []) f r e).0

module _ (c : List ℕ) (a : Result ℕ Refusal) (f : Rooms c a) where
  pub room-low : word (said_counted a [] []) < 2 ^ 64
  unfolding Rooms
  room-low = low (said_counted a [] []) (said_counted a c []) _ c [] (counted-kept a c []) f (room_packed c)

  pub room_told : (r : ℕ) → r ≡ word (said_counted a [] []) → r ≡ word (room c)
  unfolding Rooms
  room_told r e = (told (said_counted a [] []) (said_counted a c []) _ c [] (counted-kept a c []) f r e).0

module _ (c name : List ℕ) (a : Result ℕ Refusal) (f : Sizes c name a) where
  pub size_low : word (said_sized a [] []) < 2 ^ 64
  unfolding Sizes
  size_low = low (said_sized a [] []) (said_sized a c []) _ c [] (sized-kept a c []) f (size_packed c name)

  pub size_told : (r : ℕ) → r ≡ word (said_sized a [] []) → r ≡ word (size c name)
  unfolding Sizes
  size_told r e = (told (said_sized a [] []) (said_sized a c []) _ c [] (sized-kept a c []) f r e).0

module _ (c name : List ℕ) (p : ℕ) (vs : List ℕ) (a : Result ℕ Refusal) (c' : List ℕ) (f : Writes c name p vs a c') where
  pub write_low : word (said_counted a [] []) < 2 ^ 64
  unfolding Writes
  write_low = low (said_counted a [] []) (said_counted a c' []) _ c' [] (counted-kept a c' []) f (write_packed c name p vs)

  pub write_told : (r : ℕ) → r ≡ word (said_counted a [] []) → (r ≡ word (write c name p vs)) × (c' ≡ (write c name p vs).card)
  unfolding Writes
  write_told r e = let t = told (said_counted a [] []) (said_counted a c' []) _ c' [] (counted-kept a c' []) f r e in (t.0, t.1)

module _ (c name : List ℕ) (p : ℕ) (tray : List ℕ) (a : Result ℕ Refusal) (tray' : List ℕ) (f : Reads c name p tray a tray') where
  pub read_low : word (said_counted a [] []) < 2 ^ 64
  unfolding Reads
  read_low = low (said_counted a [] []) (said_counted a c tray') _ c tray' (counted-kept a c tray') f (read_packed c name p tray)

  pub read_told : (r : ℕ) → r ≡ word (said_counted a [] []) → (r ≡ word (read c name p tray)) × (tray' ≡ (read c name p tray).tray)
  unfolding Reads
  read_told r e = let t = told (said_counted a [] []) (said_counted a c tray') _ c tray' (counted-kept a c tray') f r e in (t.0, t.2)

module _ (c : List ℕ) (k : ℕ) (tray : List ℕ) (a : Result Listed Refusal) (tray' : List ℕ) (f : Lists c k tray a tray') where
  pub list-low : word (said_listed a [] []) < 2 ^ 64
  unfolding Lists
  list-low = low (said_listed a [] []) (said_listed a c tray') _ c tray' (listed_kept a c tray') f (list_packed c k tray)

  pub list_told : (r : ℕ) → r ≡ word (said_listed a [] []) → (r ≡ word (list c k tray)) × (tray' ≡ (list c k tray).tray)
  unfolding Lists
  list_told r e = let t = told (said_listed a [] []) (said_listed a c tray') _ c tray' (listed_kept a c tray') f r e in (t.0, t.2)
