-- `pyramids::pyramid::find_stem` keeps its promise.
use Rattle.std.proofs.Common.{◌≡◌, arith}
use Rattle.pyramids.proofs.Numbers.{climb-start, climb-next, climb_stop}
use Rattle.pyramids.proofs.pyramid.find_stem.Goals as goal

pub loop-m-init : goal.loop-m-init
loop-m-init c = climb-start _ _ _ c.requires.1

pub returns-then-i-ne0 : goal.returns-then-i-ne0
returns-then-i-ne0 c = climb_stop _ _ _ _ _ _ c.loop-m.invariant (λ z. absurd (c.if-i-ne0.true z))

pub loop-m-preserved : goal.loop-m-preserved
loop-m-preserved c = climb-next _ _ _ _ _ _ c.loop-m.invariant c.loop-m-test.true c.if-i-ne0.false

pub returns : goal.returns
returns c = let top : c.loop-m.m ≡ c.args.h = omega arith in
    climb_stop _ _ _ _ _ _ (rw top at c.loop-m.invariant) (λ z. omega arith)
