-- `tables::spare::rule5` keeps its promise.
use mathlib.Core.Path.{refl}
use native.Mathlib.Omega.{arith}
use Rattle.std.proofs.lemmas.Grind.{common_steps}
use Rattle.tables.proofs.Paged.{slots-few, page-reads}
use Rattle.tables.proofs.Spares.{rule5_is}
use Rattle.tables.proofs.spare.rule5.Goals as goal

pub good_forms-requires : goal.good_forms-requires
good_forms-requires c = omega (arith, slots-few _ _ _ c.requires.0 c.descriptors-n.ensures)

pub returns-then-not-good_forms : goal.returns-then-not-good_forms
returns-then-not-good_forms c =
    let few = (slots-few _ _ _ c.requires.0 c.descriptors-n.ensures).1 in
    let same = page-reads _ _ _ _ _ c.requires.0 c.table.ensures c.requires.1 c.gather_stream.ensures in
    let e = rule5_is _ _ _ _ c.descriptors-n.ensures few same c.args.marks.now _ (omega (arith, few, c.requires.2)) refl in
    (grind (arith, common_steps), same)

pub mark_spares-requires : goal.mark_spares-requires
mark_spares-requires c = omega (arith, slots-few _ _ _ c.requires.0 c.descriptors-n.ensures)

pub right_marks-requires : goal.right_marks-requires
right_marks-requires c = omega (arith, slots-few _ _ _ c.requires.0 c.descriptors-n.ensures)

pub returns-then-right_marks : goal.returns-then-right_marks
returns-then-right_marks c =
    let few = (slots-few _ _ _ c.requires.0 c.descriptors-n.ensures).1 in
    let same = page-reads _ _ _ _ _ c.requires.0 c.table.ensures c.requires.1 c.gather_stream.ensures in
    let e = rule5_is _ _ _ _ c.descriptors-n.ensures few same _ _ (omega (arith, few, c.requires.2)) c.clear.ensures in
    (grind (arith, common_steps), same)

pub returns-else-right_marks : goal.returns-else-right_marks
returns-else-right_marks c =
    let few = (slots-few _ _ _ c.requires.0 c.descriptors-n.ensures).1 in
    let same = page-reads _ _ _ _ _ c.requires.0 c.table.ensures c.requires.1 c.gather_stream.ensures in
    let e = rule5_is _ _ _ _ c.descriptors-n.ensures few same _ _ (omega (arith, few, c.requires.2)) c.clear.ensures in
    (grind (arith, common_steps), same)
