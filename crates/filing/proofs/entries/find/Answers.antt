-- `filing::entries::find` keeps its promise.
use mathlib.Core.Path.{◌≡◌, sym, ◌∙◌}
use native.Mathlib.Omega.{arith}
use Rattle.layout.specs.Streams.{data_of, contents}
use Rattle.laws.proofs.Laying.{length-contents}
use Rattle.filing.proofs.Paging.{piece_index, piece_length, piece_named}
use Rattle.filing.proofs.Finding.{entries-start, find_here, find-next, find_none}
use Rattle.filing.proofs.entries.find.Goals as goal

pub loop-number-init : goal.loop-number-init
loop-number-init c = (c.blank-page.ensures _ (sym (length-contents _ _ _ _ _)), omega arith, omega arith, rw (entries-start _))

pub returns-then-name_is : goal.returns-then-name_is
returns-then-name_is c = let long = sym (length-contents _ _ _ _ _) in
    let w = c.piece-piece.ensures _ c.turn.ensures long in
    find_here _ _ _ _ _ _ _ _ long c.if-size-at.false (piece_index _ _ _ w _ c.read_head-h.ensures.0) (piece_length _ _ _ w _ c.read_head-h.ensures.1) (piece_named _ _ _ w _ _ c.requires.1 c.name_is.ensures) c.if-name_is.true ∙ c.loop-number.invariant.3

pub loop-number-preserved : goal.loop-number-preserved
loop-number-preserved c = let long = sym (length-contents _ _ _ _ _) in
    let w = c.piece-piece.ensures _ c.turn.ensures long in (
      c.turn.ensures.paged,
      omega (arith, c.loop-number.invariant.1),
      omega (arith, c.if-size-at.false, c.requires.0, c.read_head-h.ensures.2),
      find-next _ _ _ _ _ _ _ _ long c.if-size-at.false (piece_index _ _ _ w _ c.read_head-h.ensures.0) (piece_length _ _ _ w _ c.read_head-h.ensures.1) (piece_named _ _ _ w _ _ c.requires.1 c.name_is.ensures) c.if-name_is.false ∙ c.loop-number.invariant.3,
    )

pub returns-then-size-at : goal.returns-then-size-at
returns-then-size-at c = let a = c.args in find_none (contents a.card.now a.s a.t.top (data_of a.s a.t) a.t.size) a.name.now _ _ _ _ c.loop-number.invariant.3 (sym (length-contents _ _ _ _ _)) c.if-size-at.true

pub returns : goal.returns
returns c =
    let a = c.args in
    let all : c.loop-number.number ≡ a.t.size = omega arith in
    rw all at (find_none (contents a.card.now a.s a.t.top (data_of a.s a.t) a.t.size) a.name.now _ _ _ _ c.loop-number.invariant.3 (sym (length-contents _ _ _ _ _)) (omega (arith, c.loop-number.invariant.1, c.loop-number-test.false)))
