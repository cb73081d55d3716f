-- Any run of calls: the card shows the list that the plain calls leave, and its free blocks and its table are told by that list alone.
use mathlib.Core.Path.{◌≡◌, refl, sym, ap, ◌∙◌}
use mathlib.Core.List.{List, [], ◌∷◌}
use Prim.Native.Nat.{ℕ, suc, ◌+◌}
use native.Mathlib.Omega.{arith}
use lib.ListN.{length}
use lib.Dec.{T}
use Rattle.layout.specs.Blocks.{chain}
use Rattle.layout.specs.Streams.{table}
use Rattle.layout.specs.Header.{shaped, shape_of, good_shape}
use Rattle.layout.specs.Sound.{broken}
use Rattle.layout.specs.Calls.{formatted}
use Rattle.laws.proofs.Soundness.{sound}
use Rattle.demands.specs.Plain.{Plain, free_of, table_size, plain_new, plain_call}
use Rattle.demands.specs.Shows.{plain}
use Rattle.demands.specs.Call.{Call, checks, rooms, sizes, reads, lists, writes, truncates, creates, deletes}
use Rattle.demands.specs.Runs.{plain_after, peak}
use Rattle.demands.specs.Store.{does, runs, ours}
use Rattle.demands.proofs.Free.{free-count}
use Rattle.demands.proofs.Shown.{descs-same}
use Rattle.demands.proofs.Refines.{Refines, check_refines, room_refines, size_refines, read_refines, list_refines, write_refines, truncate_refines, create_refines, delete_refines}
use Rattle.demands.proofs.Formats.{new_sound, new_plain}
use Rattle.demands.proofs.Peak.{descs-peak}

-- ---- one call

pub call_refines : (n : ℕ) (c : List ℕ) → broken c ≡ 0 → (k : Call) → Refines (does ours n c k) (plain_call (plain c) k)
unfolding does plain_call
call_refines n c e checks = check_refines c e
call_refines n c e rooms = room_refines c e
call_refines n c e (sizes name) = size_refines c e name
call_refines n c e (reads name p tray) = read_refines c e name p tray
call_refines n c e (lists k tray) = list_refines c e k tray
call_refines n c e (writes name p vs) = write_refines c e name p vs
call_refines n c e (truncates name m) = truncate_refines c e name m
call_refines n c e (creates name) = create_refines c e name
call_refines n c e (deletes name) = delete_refines c e name

-- ---- any run

pub after_sound : (ks : List Call) (n : ℕ) (c : List ℕ) → broken c ≡ 0 → broken (runs ours n c ks) ≡ 0
unfolding runs
after_sound [] n c e = e
after_sound (k ∷ ks) n c e = after_sound ks (suc n) (does ours n c k).card (call_refines n c e k).sound

pub after-plain : (ks : List Call) (n : ℕ) (c : List ℕ) → broken c ≡ 0 → plain (runs ours n c ks) ≡ plain_after (plain c) ks
unfolding runs plain_after
after-plain [] n c e = refl
after-plain (k ∷ ks) n c e = let r = call_refines n c e k in after-plain ks (suc n) (does ours n c k).card r.sound ∙ ap (λ (p : Plain). plain_after p ks) r.shows

-- so every call of a run answers what the plain calls say
pub after_refines : (ks : List Call) (n : ℕ) (c : List ℕ) → broken c ≡ 0 → (m : ℕ) (k : Call) → Refines (does ours m (runs ours n c ks) k) (plain_call (plain_after (plain c) ks) k)
after_refines ks n c e m k = rw (after-plain ks n c e) at (call_refines m (runs ours n c ks) (after_sound ks n c e) k)

pub after_free : (ks : List Call) (n : ℕ) (c : List ℕ) → broken c ≡ 0 → length (chain (runs ours n c ks) (shape_of (runs ours n c ks))) ≡ free_of (plain_after (plain c) ks)
after_free ks n c e = let c' = runs ours n c ks in free-count c' (sound c' (after_sound ks n c e)) ∙ ap free_of (after-plain ks n c e)

after_table : (ks : List Call) (n : ℕ) (c : List ℕ) → broken c ≡ 0 → (table (runs ours n c ks) (shape_of (runs ours n c ks))).size ≡ table_size (plain_after (plain c) ks).descs
after_table ks n c e =
    let c' = runs ours n c ks in
    (sound c' (after_sound ks n c e)).core.size ∙ ap table_size (sym (descs-same c') ∙ ap (λ (p : Plain). p.descs) (after-plain ks n c e))

-- ---- any run from a newly formatted card: nothing of the card is on the right

module _ (len shift : ℕ) (fits : T (good_shape len shift)) (n : ℕ) (ks : List Call) where
  abbrev c : List ℕ
  c = runs ours n (formatted len shift) ks

  abbrev new : Plain
  new = plain_new shift (shaped len shift).count

  pub run_sound : broken c ≡ 0
  run_sound = after_sound ks n (formatted len shift) (new_sound len shift fits)

  pub run-plain : plain c ≡ plain_after new ks
  run-plain = after-plain ks n (formatted len shift) (new_sound len shift fits) ∙ ap (λ (p : Plain). plain_after p ks) (new_plain len shift fits)

  pub run-free : length (chain c (shape_of c)) ≡ free_of (plain_after new ks)
  run-free = after_free ks n (formatted len shift) (new_sound len shift fits) ∙ ap (λ (p : Plain). free_of (plain_after p ks)) (new_plain len shift fits)

  -- one descriptor for the root, and one for each of the most items at once
  pub run-table : (table c (shape_of c)).size ≡ table_size (peak new ks + 1)
  run-table = after_table ks n (formatted len shift) (new_sound len shift fits)
      ∙ ap (λ (p : Plain). table_size (plain_after p ks).descs) (new_plain len shift fits)
      ∙ ap table_size (descs-peak ks new (omega arith) ∙ omega arith)

  pub run_refines : (m : ℕ) (k : Call) → Refines (does ours m c k) (plain_call (plain_after new ks) k)
  run_refines m k = rw (new_plain len shift fits) at (after_refines ks n (formatted len shift) (new_sound len shift fits) m k)
