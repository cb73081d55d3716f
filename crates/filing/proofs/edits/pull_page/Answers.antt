-- `filing::edits::pull_page` keeps its promise.
use native.Mathlib.Omega.{arith}
use Rattle.memory.proofs.Parts.{front_over}
use Rattle.filing.proofs.Editing.{page-pulled}
use Rattle.filing.proofs.edits.pull_page.Goals as goal

pub returns : goal.returns
returns c = page-pulled _ _ c.args.t _ _ _ _ _ c.requires.1 c.requires.2 (front_over _ _ _ _ c.args.n _ (omega arith) (omega arith) c.gather_stream.ensures) c.lay_stream.ensures
