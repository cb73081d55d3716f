-- `filing::edits::append` keeps its promise.
use mathlib.Core.Path.{refl}
use Rattle.filing.proofs.Editing.{appended}
use Rattle.filing.proofs.edits.append.Goals as goal

pub returns : goal.returns
returns c = appended _ _ _ _ _ _ _ _ _ _ c.requires.2 refl c.put_entry.ensures c.lengthen.ensures c.lay_in_stream.ensures
