-- Bytes laid in the table: its bytes change there, its blocks stay, and so does every stream.
use mathlib.Core.Path.{◌≡◌, ap, ◌∙◌}
use mathlib.Core.Logic.{◌≢◌}
use mathlib.Core.List.{List, []}
use Prim.Native.Nat.{ℕ, suc, ◌+◌, ◌*◌, ◌≤◌, ◌<◌}
use native.Mathlib.Omega.{arith}
use lib.ListN.{length, get_or}
use Rattle.layout.specs.Bytes.{over}
use Rattle.layout.specs.Streams.{data_of, spot, tall, laid, table, table_bytes, in_table, table_blocks}
use Rattle.layout.specs.declared.Desc.{Desc}
use Rattle.laws.proofs.Lists.{In}
use Rattle.laws.proofs.Chain.{Good}
use Rattle.laws.proofs.Hanging.{NotField, Beyond, header_beyond}
use Rattle.laws.proofs.Laying.{laid_else, spot_stays}
use Rattle.laws.proofs.Rows.{laid_is, contents-laid}
use Rattle.laws.proofs.Others.{Kept}
use Rattle.laws.proofs.Descs.{desc_agree}
use Rattle.laws.proofs.Parts.{Own, own_of, blocks, text, Parts, Step, step-parts, step_keeps, lay, lay-blocks}
use Rattle.layout.specs.declared.Shape.{Shape}

-- where byte q of the table stands
abbrev pub table_spot : List ℕ → Shape → ℕ → ℕ
table_spot c s q = spot c s (table c s).top (tall s (data_of s (table c s))) q

-- the same header descriptor, the same place of the table
pub table_agree : (c c' : List ℕ) (s : Shape) → Good s → ((i : ℕ) → i < s.base → NotField s i → get_or c' i 0 ≡ get_or c i 0) → table c' s ≡ table c s
unfolding table
table_agree c c' s g e = desc_agree c' c s.table (λ i a b. e i (omega (arith, g.desc, g.header)) (omega (arith, g.field)))

pub record InTable (c c' : List ℕ) (s : Shape) (ks : List ℕ) (w : ℕ → Own) (free tb : List ℕ) : Type 0 where
  pub parts : Parts c' s ks w free
  pub table_is : table c' s ≡ table c s
  pub bytes_is : table_bytes c' s ≡ tb
  pub blocks_is : table_blocks c' s ≡ table_blocks c s
  pub spots : (q : ℕ) → q < (table c s).size → table_spot c' s q ≡ table_spot c s q
  pub kept : (j : ℕ) → In (suc j) ks → Kept s c c' (w (suc j)).top (w (suc j)).d (w (suc j)).size
  pub long : length c' ≡ length c
  pub rest-same : (i : ℕ) → NotField s i → Beyond s (table_blocks c s) i → get_or c' i 0 ≡ get_or c i 0

module _ (s : Shape) (g : Good s) where
  module _ (c ks : List ℕ) (w : ℕ → Own) (free : List ℕ) (p : Parts c s ks w free) (i : In 0 ks) (e : w 0 ≡ own_of s (table c s))
      (at : ℕ) (vs : List ℕ) (fits : at + length vs ≤ (table c s).size) where
    within : (table c s).size ≤ data_of s (table c s) * s.size
    within = rw e at (p.fits 0 i)

    pub in_table_lem : InTable c (in_table c s at vs) s ks w free (over (table_bytes c s) at vs)
    unfolding table_bytes table_blocks in_table
    in_table_lem =
        let t = table c s in
        let h = tall s (data_of s t) in
        let c' = laid c s t.top h at vs in
        let fits' : at + length vs ≤ (w 0).d * s.size = rw e (omega (arith, within)) in
        let sk = rw e at (p.bones 0 i) in
        let st : Step s c c' ks w w 0 [] free free = rw e at (lay s g c ks w 0 free p i at vs fits') in
        let t' : table c' s ≡ table c s = table_agree c c' s g (λ q l n. st.rest-same q n (header_beyond s [] q l) (header_beyond s (blocks c s (w 0)) q l)) in
        record {
          parts = step-parts s g c c' ks w w 0 [] free free p st;
          table_is = t';
          bytes_is = ap (λ (d : Desc). text c' s (own_of s d)) t' ∙ contents-laid s g c t.top (data_of s t) t.size at vs free p.room sk within fits;
          blocks_is = ap (λ (d : Desc). blocks c' s (own_of s d)) t' ∙ (rw e at (lay-blocks s g c ks w 0 free p i at vs fits'));
          spots = λ q l. ap (λ (d : Desc). spot c' s d.top (tall s (data_of s d)) q) t' ∙ (rw (laid_is s g c t.top h (data_of s t) at vs free p.room sk (omega (arith, within))) (spot_stays s g c t.top (data_of s t) t.size at vs free p.room sk within fits q l));
          kept = λ j k. step_keeps s g c c' ks w w 0 [] free free p st (suc j) k (omega arith);
          long = st.long;
          rest-same = λ q n b. st.rest-same q n (λ x k. absurd k) (rw e b);
        }

    -- only where the bytes go does a byte change
    pub in_table_else : (q : ℕ) → ((n : ℕ) → n < length vs → q ≢ table_spot c s (at + n)) → get_or (in_table c s at vs) q 0 ≡ get_or c q 0
    unfolding in_table
    in_table_else q n =
        let t = table c s in
        let h = tall s (data_of s t) in
        let sk = rw e at (p.bones 0 i) in
        rw (laid_is s g c t.top h (data_of s t) at vs free p.room sk (omega (arith, within))) (laid_else s g c t.top h (data_of s t) at vs free p.room sk (length vs) q n)

  pub in_table_then : (c c₁ c₂ ks : List ℕ) (w : ℕ → Own) (free tb₁ tb₂ : List ℕ) → InTable c c₁ s ks w free tb₁ → InTable c₁ c₂ s ks w free tb₂ → InTable c c₂ s ks w free tb₂
  in_table_then c c₁ c₂ ks w free tb₁ tb₂ a b = record {
    parts = b.parts;
    table_is = b.table_is ∙ a.table_is;
    bytes_is = b.bytes_is;
    blocks_is = b.blocks_is ∙ a.blocks_is;
    spots = λ q l. b.spots q (rw a.table_is l) ∙ a.spots q l;
    kept = λ j i. record { blocks = (b.kept j i).blocks ∙ (a.kept j i).blocks; bytes = (b.kept j i).bytes ∙ (a.kept j i).bytes };
    long = b.long ∙ a.long;
    rest-same = λ i n m. b.rest-same i n (rw a.blocks_is m) ∙ a.rest-same i n m;
  }
