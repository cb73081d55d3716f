-- One more live descriptor, of a stream with no bytes: the card keeps rules 1 to 7, and every stream is as it was.
use mathlib.Core.Path.{◌≡◌, refl, sym, ap, ◌∙◌, subst}
use mathlib.Core.Logic.{◌≢◌, ◌⊎◌, inl, inr}
use mathlib.Core.List.{List, [], ◌∷◌, map}
use Prim.Native.Nat.{ℕ, zero, suc, ◌≤◌, ◌<◌}
use native.Mathlib.Nat.{zero-div}
use native.Mathlib.Decide.{ℕ_discrete}
use native.Mathlib.Omega.{arith}
use lib.ListN.{length, get_or}
use Rattle.layout.specs.Limits.{most_streams}
use Rattle.layout.specs.Bytes.{run}
use Rattle.layout.specs.Blocks.{chain}
use Rattle.layout.specs.Streams.{contents, table, table_bytes, offset, stream, stream_bytes, table_blocks, stream_blocks}
use Rattle.layout.specs.declared.Desc.{Desc}
use Rattle.laws.proofs.Lists.{In, in_map, map_in}
use Rattle.laws.proofs.Levels.{up-zero}
use Rattle.laws.proofs.Chain.{Good, room-chain}
use Rattle.laws.proofs.Hanging.{NotField, Beyond, header_beyond}
use Rattle.laws.proofs.Others.{Kept}
use Rattle.laws.proofs.Descs.{blank}
use Rattle.laws.proofs.Lives.{lives_in, in_lives}
use Rattle.laws.proofs.Frees.{Frees}
use Rattle.laws.proofs.Parts.{Own, own_of, blocks, text, Parts, parts_own, parts_add, parts_same}
use Rattle.laws.proofs.State.{slots_of, lives_of, own, owners, Right, Form, Core, owners_distinct}
use Rattle.laws.proofs.Heads.{NotTable}
use Rattle.laws.proofs.Cores.{core_good, owner_in, core_of}
use Rattle.layout.specs.declared.Shape.{Shape}

-- descriptor j lives now, of a stream with no bytes; xs are the blocks taken for the table
pub record Described (c c₁ : List ℕ) (s : Shape) (j : ℕ) (xs free : List ℕ) : Type 0 where
  pub core : Core c₁ s
  pub fresh : In j (lives_of c s) → ⊥
  pub there : In j (lives_of c₁ s)
  pub old : (k : ℕ) → In k (lives_of c s) → In k (lives_of c₁ s)
  pub only : (k : ℕ) → In k (lives_of c₁ s) → In k (lives_of c s) ⊎ (k ≡ j)
  pub empty : stream_bytes c₁ s j ≡ []
  pub chain_is : chain c₁ s ≡ free
  pub descs : (k : ℕ) → In k (lives_of c s) → stream c₁ s k ≡ stream c s k
  pub blocks_of_lem : (k : ℕ) → In k (lives_of c s) → stream_blocks c₁ s k ≡ stream_blocks c s k
  pub bytes_of : (k : ℕ) → In k (lives_of c s) → stream_bytes c₁ s k ≡ stream_bytes c s k
  pub from : (b : ℕ) → In b (table_blocks c₁ s) → In b (table_blocks c s) ⊎ In b xs
  pub long : length c₁ ≡ length c
  pub rest-same : (i : ℕ) → NotField s i → NotTable s i → Beyond s xs i → Beyond s (table_blocks c s) i → get_or c₁ i 0 ≡ get_or c i 0

-- the table is where o says, the streams are where they were
abbrev pub retabled : (ℕ → Own) → Own → ℕ → Own
retabled w o zero = o
retabled w o (suc k) = w (suc k)

-- what is known of the table and of the card when descriptor j was made blank
pub record Added (c c₁ : List ℕ) (s : Shape) (j : ℕ) (xs free ds : List ℕ) (o : Own) : Type 0 where
  -- the table
  pub more : slots_of c s ≤ slots_of c₁ s
  pub inside : (k : ℕ) → k < slots_of c₁ s → k ≢ j → k < slots_of c s
  pub range : j < slots_of c₁ s
  pub fresh : In j (lives_of c s) → ⊥
  pub others : (k : ℕ) → k < slots_of c s → k ≢ j → stream c₁ s k ≡ stream c s k
  pub mine : stream c₁ s j ≡ blank
  pub size : (table c₁ s).size ≡ offset (slots_of c₁ s)
  pub few : slots_of c₁ s ≤ most_streams
  pub right : Right s (table c₁ s)
  pub frees : Frees (table_bytes c₁ s) (slots_of c₁ s) ds
  -- the card
  pub owner : own_of s (table c₁ s) ≡ o
  pub parts : Parts c₁ s (owners c s) (retabled (own c s) o) free
  pub kept : (k : ℕ) → In k (lives_of c s) → Kept s c c₁ (own c s (suc k)).top (own c s (suc k)).d (own c s (suc k)).size
  pub from : (b : ℕ) → In b (table_blocks c₁ s) → In b (table_blocks c s) ⊎ In b xs
  pub long : length c₁ ≡ length c
  pub rest-same : (i : ℕ) → NotField s i → NotTable s i → Beyond s xs i → Beyond s (table_blocks c s) i → get_or c₁ i 0 ≡ get_or c i 0

-- a stream with no bytes
pub blank_form : (s : Shape) → Good s → Form s blank
blank_form s g =
    let z = up-zero s.size (omega (arith, g.wide)) in
    record {
      alive = λ n. record { flags = refl; reserved = rw z (omega arith); fits = rw (zero-div s.size) (omega arith) };
      empty = λ n e. refl;
      free = λ e. absurd (omega arith);
    }

pub no_bytes : (c : List ℕ) (s : Shape) (top d : ℕ) → contents c s top d 0 ≡ []
unfolding contents run
no_bytes c s top d = refl

module _ (c c₁ : List ℕ) (s : Shape) (w : Core c s) (j : ℕ) (xs free ds : List ℕ) (o : Own) (a : Added c c₁ s j xs free ds o) where
  not_j : (k : ℕ) → In k (lives_of c s) → k ≢ j
  not_j k i e = a.fresh (rw e at i)

  desc₁ : (k : ℕ) → In k (lives_of c s) → stream c₁ s k ≡ stream c s k
  desc₁ k i = a.others k (lives_in (table_bytes c s) k i).0 (not_j k i)

  there : In j (lives_of c₁ s)
  unfolding stream
  there = in_lives (table_bytes c₁ s) j a.range (rw a.mine (omega arith))

  old : (k : ℕ) → In k (lives_of c s) → In k (lives_of c₁ s)
  unfolding stream
  old k i = let r = lives_in (table_bytes c s) k i in in_lives (table_bytes c₁ s) k (omega (arith, a.more, r.0)) (rw (desc₁ k i) r.1)

  only : (k : ℕ) → In k (lives_of c₁ s) → In k (lives_of c s) ⊎ (k ≡ j)
  unfolding stream
  only k i = elim (ℕ_discrete k j) [
    | yes e ↦ inr e
    | no n ↦ (let r = lives_in (table_bytes c₁ s) k i in let l = a.inside k r.0 n in inl (in_lives (table_bytes c s) k l (rw (a.others k l n) at r.1)))
  ]

  own₁ : (k : ℕ) → In k (owners c s) → own c₁ s k ≡ retabled (own c s) o k
  own₁ zero i = a.owner
  own₁ (suc k) i = ap (own_of s) (desc₁ k (owner_in c s w k i))

  no_data : (own c₁ s (suc j)).d ≡ 0
  no_data = rw a.mine (zero-div s.size)

  parts₁ : Parts c₁ s (owners c₁ s) (own c₁ s) free
  unfolding owners
  parts₁ =
      let p = parts_own c₁ s (owners c s) (retabled (own c s) o) (own c₁ s) free own₁ a.parts in
      let q = parts_add c₁ s (owners c s) (own c₁ s) free (core_good c s w) (suc j) no_data (ap (λ (d : Desc). d.size) a.mine) p (λ i. not_j j (owner_in c s w j i) refl) in
      parts_same c₁ s (suc j ∷ owners c s) (own c₁ s) free (owners c₁ s) q (owners_distinct c₁ s) to fro
    where
      to : (k : ℕ) → In k (owners c₁ s) → In k (suc j ∷ owners c s)
      to k (inl e) = inr (inl e)
      to k (inr i) = let r = map_in suc k (lives_of c₁ s) i in elim (only r.0 r.1) [
        | inl u ↦ inr (inr (subst (λ (x : ℕ). In x (map suc (lives_of c s))) (sym r.2) (in_map suc r.0 (lives_of c s) u)))
        | inr u ↦ inl (r.2 ∙ ap suc u)
      ]

      fro : (k : ℕ) → In k (suc j ∷ owners c s) → In k (owners c₁ s)
      fro k (inl e) = inr (subst (λ (x : ℕ). In x (map suc (lives_of c₁ s))) (sym e) (in_map suc j (lives_of c₁ s) there))
      fro k (inr (inl e)) = inl e
      fro k (inr (inr i)) = let r = map_in suc k (lives_of c s) i in inr (subst (λ (x : ℕ). In x (map suc (lives_of c₁ s))) (sym r.2) (in_map suc r.0 (lives_of c₁ s) (old r.0 r.1)))

  form₁ : (k : ℕ) → k < slots_of c₁ s → Form s (stream c₁ s k)
  form₁ k l = elim (ℕ_discrete k j) [
    | yes e ↦ rw (e, a.mine) (blank_form s (core_good c s w))
    | no n ↦ rw (a.others k (a.inside k l n) n) (w.forms k (a.inside k l n))
  ]

  root-lives : In 0 (lives_of c s)
  unfolding stream
  root-lives = in_lives (table_bytes c s) 0 w.some w.root

  core₁ : Core c₁ s
  core₁ = core_of c s w c₁ ds free a.long (λ i l n m. a.rest-same i n m (header_beyond s xs i l) (header_beyond s (table_blocks c s) i l))
      a.size (omega (arith, a.more, w.some)) a.few a.right form₁ a.frees (rw (desc₁ 0 root-lives) w.root) parts₁

  pub described : Described c c₁ s j xs free
  unfolding stream_bytes stream_blocks
  described = record {
    core = core₁;
    fresh = a.fresh;
    there = there;
    old = old;
    only = only;
    empty = ap (λ (d : Desc). text c₁ s (own_of s d)) a.mine ∙ no_bytes c₁ s 0 _;
    chain_is = room-chain c₁ s free parts₁.room (omega (arith, parts₁.sum));
    descs = desc₁;
    blocks_of_lem = λ k i. ap (λ (d : Desc). blocks c₁ s (own_of s d)) (desc₁ k i) ∙ (a.kept k i).blocks;
    bytes_of = λ k i. ap (λ (d : Desc). text c₁ s (own_of s d)) (desc₁ k i) ∙ (a.kept k i).bytes;
    from = a.from;
    long = a.long;
    rest-same = a.rest-same;
  }
