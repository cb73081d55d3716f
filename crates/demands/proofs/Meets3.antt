-- The definitions of the layout meet demand 3.
use mathlib.Core.Path.{◌≡◌, refl, ap, ◌∙◌}
use mathlib.Core.Bool.{Bool, true, false}
use mathlib.Core.List.{List}
use Prim.Native.Nat.{ℕ, suc}
use native.Mathlib.Omega.{arith}
use lib.ListN.{length}
use lib.Dec.{T}
use Rattle.layout.specs.Blocks.{chain}
use Rattle.layout.specs.Header.{shaped, good_shape}
use Rattle.layout.specs.Sound.{broken}
use Rattle.layout.specs.Calls.{index_of, format, room, write, truncate, create, delete}
use Rattle.laws.proofs.Lists.{length_run}
use Rattle.laws.proofs.Soundness.{sound, whole}
use Rattle.demands.specs.Call.{Call, checks, rooms, sizes, reads, lists, writes, truncates, creates, deletes}
use Rattle.demands.specs.Plain.{plain_room, plain_call, plain_new}
use Rattle.demands.specs.Runs.{plain_after, peak}
use Rattle.demands.specs.Shows.{plain}
use Rattle.demands.specs.Store.{does, runs, ours}
use Rattle.demands.specs.Demand3.{Closely, Leaves, NewCard, RunLeaves, Demand3}
use Rattle.demands.proofs.Values.{check_values, room_values, size_values, read_values, list_values}
use Rattle.demands.proofs.Writes.{write_wants, write_done}
use Rattle.demands.proofs.Truncates.{truncate-done}
use Rattle.demands.proofs.Creates.{create-done}
use Rattle.demands.proofs.Deletes.{delete-done}
use Rattle.demands.proofs.Formats.{new_sound, new_plain, new_chain, new_shape, format-done, format-refused}
use Rattle.demands.proofs.NewCard.{new_length, suits}
use Rattle.demands.proofs.History.{call_refines, run_sound, run-plain, run-free, run-table, run_refines}
use Rattle.demands.proofs.Once.{every_once}
use Rattle.demands.proofs.Streamwise.{others_same, parts-only, directory_kept}
use Rattle.demands.proofs.Directorywise.{first_taken, created-others, created-parts, deleted-others, deleted-parts}
use Rattle.demands.proofs.Deciding.{stream_differs, directory_differs}
use Rattle.demands.proofs.Keeping.{cut}
use Rattle.demands.proofs.Pulling.{pulled}
use Rattle.layout.specs.declared.Shape.{Shape}

module _ (n : ℕ) (c : List ℕ) (e : broken c ≡ 0) where
  -- ---- the calls that change nothing

  looked : (k : Call) → (does ours n c k).card ≡ c → Closely c k c → Leaves c k (does ours n c k).card
  looked k same close =
      let shows : plain c ≡ (plain_call (plain c) k).after = rw same at (call_refines n c e k).shows in
      rw same (record {
        passes = e;
        shows = shows;
        owned = every_once c (sound c e);
        others = λ name t u. record { index = refl; blocks = refl; bytes = refl };
        long = refl;
        parts = λ i h. absurd (h refl);
        closely = close;
      })

  -- ---- the calls that change a stream

  wrote : (name : List ℕ) (p : ℕ) (vs : List ℕ) → (write c name p vs).number ≡ 0 → Leaves c (writes name p vs) (write c name p vs).card
  unfolding plain_call
  wrote name p vs z =
      let c' = (write c name p vs).card in
      let t = write_done c name p vs z in
      let m = write_wants c (index_of c name) p vs in
      let chain_is = ap (λ (s : Shape). chain c' s) t.edit.core.shape_is ∙ t.edit.chain_is in
      record {
        passes = whole c' t.after;
        shows = t.plainly;
        owned = every_once c' t.after;
        others = others_same c t.before name t.known c' _ _ _ t.edit t.root_of_lem;
        long = t.edit.long;
        parts = stream_differs c name c' (parts-only c t.before name t.known c' _ _ _ t.edit t.root_of_lem (first_taken c c' m t.before.core.parts.room.apart chain_is));
        closely = directory_kept c t.before name t.known c' _ _ _ t.edit t.root_of_lem t.table_kept;
      }

  truncated : (name : List ℕ) (m : ℕ) → (truncate c name m).number ≡ 0 → Leaves c (truncates name m) (truncate c name m).card
  unfolding plain_call
  truncated name m z =
      let c' = (truncate c name m).card in
      let t = truncate-done c name m z in
      record {
        passes = whole c' t.after;
        shows = t.plainly;
        owned = every_once c' t.after;
        others = others_same c t.before name t.known c' _ _ _ t.edit t.root_of_lem;
        long = t.edit.long;
        parts = stream_differs c name c' (parts-only c t.before name t.known c' _ _ _ t.edit t.root_of_lem (λ b i. absurd i));
        closely = (directory_kept c t.before name t.known c' _ _ _ t.edit t.root_of_lem t.table_kept, cut c name m c' t);
      }

  created : (name : List ℕ) → (create c name).number ≡ 0 → Leaves c (creates name) (create c name).card
  unfolding plain_call
  created name z =
      let c' = (create c name).card in
      let t = create-done c name z in
      record {
        passes = whole c' t.after;
        shows = t.plainly;
        owned = every_once c' t.after;
        others = λ n h u. created-others c name c' t n h;
        long = t.long;
        parts = directory_differs c name c' (created-parts c name c' t);
        closely = tt;
      }

  deleted : (name : List ℕ) → (delete c name).number ≡ 0 → Leaves c (deletes name) (delete c name).card
  unfolding plain_call
  deleted name z =
      let c' = (delete c name).card in
      let t = delete-done c name z in
      record {
        passes = whole c' t.after;
        shows = t.plainly;
        owned = every_once c' t.after;
        others = deleted-others c name c' t;
        long = t.long;
        parts = directory_differs c name c' (deleted-parts c name c' t);
        closely = pulled c name c' t;
      }

  leaves : (k : Call) → (does ours n c k).number ≡ 0 → Leaves c k (does ours n c k).card
  unfolding does
  leaves checks z = looked checks (check_values c (sound c e)).card refl
  leaves rooms z = looked rooms (room_values c (sound c e)).card refl
  leaves (sizes name) z = looked (sizes name) (size_values c (sound c e) name).card refl
  leaves (reads name p tray) z = looked (reads name p tray) (read_values c (sound c e) name p tray).card refl
  leaves (lists k tray) z = looked (lists k tray) (list_values c (sound c e) k tray).card refl
  leaves (writes name p vs) z = wrote name p vs z
  leaves (truncates name m) z = truncated name m z
  leaves (creates name) z = created name z
  leaves (deletes name) z = deleted name z

-- ---- format, and runs after it

module _ (c : List ℕ) (shift : ℕ) (z : (format c shift).number ≡ 0) where
  -- it was accepted, so the shape was good
  suited : T (good_shape (length c) shift)
  suited = go (good_shape (length c) shift) refl
    where
      go : (b : Bool) → good_shape (length c) shift ≡ b → T b
      go true u = tt
      go false u = let r = format-refused c shift (λ t. rw u at t) in omega (arith, rw r at z)

  abbrev len : ℕ
  len = length c

  pub new_card : NewCard len shift (format c shift).card
  new_card = rw (format-done c shift suited) (record {
    passes = new_sound len shift suited;
    shows = new_plain len shift suited;
    free = rw (new_shape len shift suited, new_chain len shift suited, length_run) (omega (arith, (suits len shift suited).some));
    long = new_length len shift (suits len shift suited);
  })

  counts : (n : ℕ) (ks : List Call)
      → let new = plain_new shift (shaped len shift).count in
      let left = runs ours n (format c shift).card ks in
      RunLeaves left (room left).count (plain_after new ks) (peak new ks)
  unfolding does plain_call plain_room
  counts n ks = rw (format-done c shift suited) (record {
    passes = run_sound len shift suited n ks;
    shows = run-plain len shift suited n ks;
    free = run-free len shift suited n ks;
    free_told = (run_refines len shift suited n ks 0 rooms).answers.count;
    table_long = run-table len shift suited n ks;
  })

pub meets_demand3 : Demand3 ours
meets_demand3 = record { leaves = leaves; formats = λ n c shift z. new_card c shift z; history = λ n c shift z ks. counts c shift z (suc n) ks }
