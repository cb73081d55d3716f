-- An entry by its number: refused in its turn, or told.
use mathlib.Core.Path.{◌≡◌, refl, ◌∙◌}
use mathlib.Core.Bool.{false}
use mathlib.Core.List.{List, []}
use Rattle.std.specs.Prelude.{Some, None}
use Prim.Native.Nat.{ℕ, ◌^◌, ◌≤◌, ◌<◌}
use native.Mathlib.Omega.{arith}
use lib.ListN.{length, get_or, get_or-eq_default}
use lib.Dec.{leb}
use borrow.Author.Tests.{lt-ltb, le-ltb}
use Rattle.layout.specs.Bytes.{over}
use Rattle.layout.specs.Streams.{data_of, contents, stream}
use Rattle.layout.specs.Filing.{entries, entries_of, nothing}
use Rattle.layout.specs.Header.{shape_of}
use Rattle.layout.specs.Answers.{refused, listed}
use Rattle.layout.specs.Calls.{root_of, list}
use Rattle.laws.proofs.Picks.{leb_yes, leb_no}
use Rattle.filing.specs.Located.{numbered}
use Rattle.filing.proofs.Answers.{no_row}
use Rattle.acts.proofs.Fitting.{live-low}
use Rattle.acts.proofs.Naming.{row_is}
use Rattle.acts.proofs.Rooted.{row_of_lem}
use Rattle.acts.proofs.Sound.{index_live}
use Rattle.front.proofs.Outcomes.{pass, stop, none, past_1}
use Rattle.front.proofs.Passing.{Passed, whole}
use Rattle.filing.specs.declared.listing.Row.{Row}
use Rattle.layout.specs.declared.Shape.{Shape}
use Rattle.layout.specs.declared.Desc.{Desc}

-- over nothing, nothing changes
no_name : (tray : List ℕ) → over tray 0 [] ≡ tray
unfolding over
no_name tray = refl

module _ {c : List ℕ} {s : Shape} (p : Passed c s) (k : ℕ) (tray : List ℕ) where
  list_past : length (root_of c) ≤ k → refused 5 0 c tray ≡ list c k tray
  unfolding list
  list_past h = stop c tray _ _ 5 _ (omega arith) (leb_yes h) ∙ past_1 c tray _ _ p.unbroken

  none_there : None ≡ numbered (entries_of c s 0) k → length (root_of c) ≤ k
  none_there w = no_row (root_of c) k (w ∙ rw p.cut)

  -- there is no such entry: by the root's descriptor, in a tray that is too short
  pub list-missing : (t : Desc) → t ≡ stream c s 0 → None ≡ numbered (entries (contents c s t.top (data_of s t) t.size)) k → refused 5 0 c tray ≡ list c k tray
  list-missing t e w = list_past (none_there (row_is c s 0 k t None e w))

  -- and else: the tray stays
  pub list_none : (tray' : List ℕ) → None ≡ numbered (entries_of c s 0) k → tray' ≡ over tray 0 (get_or (entries_of c s 0) k nothing).name → refused 5 0 c tray' ≡ list c k tray
  list_none tray' w a =
      let l = none_there w in
      let d : get_or (root_of c) k nothing ≡ nothing = get_or-eq_default (root_of c) nothing l in
      let b : tray' ≡ tray = a ∙ rw (p.cut, d) (no_name tray) in
      rw b (list_past l)

  module _ (r : Row) (w : Some r ≡ numbered (entries_of c s 0) k) where
    row : (k < length (root_of c)) × (r.length ≡ length (get_or (root_of c) k nothing).name) × (r.index ≡ (get_or (root_of c) k nothing).index)
    row = row_of_lem c k r (w ∙ rw p.cut)

    passes : leb (length (root_of c)) k ≡ false
    passes = leb_no {a = length (root_of c)} {b = k} row.0

    pub list-short : length tray < 64 → refused 8 0 c tray ≡ list c k tray
    unfolding list
    list-short l = stop c tray _ _ 8 [] (omega arith) (lt-ltb (length tray) 64 l) ∙ pass c tray _ _ 5 _ passes ∙ past_1 c tray _ _ p.unbroken

    pub row_low : r.index < 2 ^ 56
    row_low = rw row.2 (live-low c (shape_of c) (whole p).core _ (index_live c (whole p) k row.0)).0

    pub list_done : 64 ≤ length tray → (tray' : List ℕ) (n : ℕ) → tray' ≡ over tray 0 (get_or (entries_of c s 0) k nothing).name → n ≡ (stream c s r.index).size → listed r.length n c tray' ≡ list c k tray
    unfolding list
    list_done l tray' n a b =
        rw (a, b, p.cut, row.1, row.2) (none c tray _ ∙ pass c tray _ _ 8 [] (le-ltb (length tray) 64 l) ∙ pass c tray _ _ 5 _ passes ∙ past_1 c tray _ _ p.unbroken)
