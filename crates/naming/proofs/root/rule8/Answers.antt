-- `naming::root::rule8` keeps its promise.
use mathlib.Core.Path.{◌≡◌, refl, sym, ◌∙◌}
use mathlib.Core.Bool.{true}
use native.Mathlib.Omega.{arith}
use Rattle.std.proofs.lemmas.Grind.{common_steps}
use Rattle.tables.proofs.Paged.{slots-few}
use Rattle.naming.proofs.Reached.{root_tidy, rule8_is, none_of}
use Rattle.naming.proofs.root.rule8.Goals as goal

pub right_marks-requires : goal.right_marks-requires
right_marks-requires c = omega (arith, slots-few _ _ _ c.requires.0 c.descriptors-n.ensures)

pub names_apart-requires : goal.names_apart-requires
names_apart-requires c =
    let z : c.mark_root.result ≡ true = grind (arith, common_steps) in
    root_tidy _ _ _ _ _ c.requires.0 c.descriptors-n.ensures c.requires.1 c.descriptor_at-t.ensures _ _ c.requires.2 refl (sym c.mark_root.ensures.0 ∙ z)

pub returns-then-right_marks : goal.returns-then-right_marks
returns-then-right_marks c =
    let e = rule8_is _ _ _ _ _ c.requires.0 c.descriptors-n.ensures c.requires.1 c.descriptor_at-t.ensures c.args.marks.now _ c.requires.2 refl in
    grind (arith, common_steps)

pub returns-else-right_marks : goal.returns-else-right_marks
returns-else-right_marks c =
    let e = rule8_is _ _ _ _ _ c.requires.0 c.descriptors-n.ensures c.requires.1 c.descriptor_at-t.ensures c.args.marks.now _ c.requires.2 refl in
    grind (arith, common_steps, none_of)
