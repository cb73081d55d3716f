-- `pyramids::pyramid::find_stem` keeps its promise.
use Rattle.pyramids.proofs.Numbers.{Climbing}
use Rattle.pyramids.proofs.pyramid.find_stem.Given as goal

abbrev pub invariant-loop-m : goal.invariant-loop-m
invariant-loop-m l = Climbing l.f l.h l.d l.m l.i l.q
