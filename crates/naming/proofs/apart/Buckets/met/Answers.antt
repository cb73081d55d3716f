-- `naming::apart::Buckets::met` keeps its promise.
use mathlib.Core.Path.{◌≡◌, refl, ap}
use Prim.Native.Nat.{suc}
use native.Mathlib.Omega.{arith}
use Rattle.naming.specs.Buckets.{up_to}
use Rattle.naming.proofs.Buckets.{met_here, met_less, met_own, met_next, met_none, met-same}
use Rattle.naming.proofs.apart.Buckets.met.Goals as goal

pub returns-then-name_at : goal.returns-then-name_at
returns-then-name_at c =
    let v = c.loop-last.invariant in
    let more : up_to c.loop-last.last ≡ suc c.from.result = omega (arith, ap up_to c.in-Some.is) in
    let e = met-same _ _ _ _ c.from.result _ _ (omega (arith, more, v.0)) c.requires.1 c.requires.3 refl c.name_at.ensures in
    met_here _ _ _ _ _ c.from.result _ more v.0 c.requires.3 v.1 v.2 e c.if-name_at.true

pub loop-last-smaller : goal.loop-last-smaller
loop-last-smaller c =
    let v = c.loop-last.invariant in
    let more : up_to c.loop-last.last ≡ suc c.from.result = omega (arith, ap up_to c.in-Some.is) in
    let e = met-same _ _ _ _ c.from.result _ _ (omega (arith, more, v.0)) c.requires.1 c.requires.3 refl c.name_at.ensures in
    met_less _ _ _ _ _ c.from.result _ more v.0 c.requires.3 v.1 v.2 e _ refl

pub loop-last-preserved : goal.loop-last-preserved
loop-last-preserved c =
    let v = c.loop-last.invariant in
    let more : up_to c.loop-last.last ≡ suc c.from.result = omega (arith, ap up_to c.in-Some.is) in
    let e = met-same _ _ _ _ c.from.result _ _ (omega (arith, more, v.0)) c.requires.1 c.requires.3 refl c.name_at.ensures in
    let less = met_less _ _ _ _ _ c.from.result _ more v.0 c.requires.3 v.1 v.2 e _ refl in
    (omega (arith, less, v.0), met_own _ _ _ _ _ c.from.result _ more v.0 c.requires.3 v.1 v.2 e _ refl, met_next _ _ _ _ _ c.from.result _ more v.0 c.requires.3 v.1 v.2 e _ refl c.if-name_at.false)

pub returns : goal.returns
returns c = met_none _ _ _ _ (omega (arith, ap up_to c.in_default.is)) c.loop-last.invariant.2
