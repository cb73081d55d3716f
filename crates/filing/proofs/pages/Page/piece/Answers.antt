-- `filing::pages::Page::piece` keeps its promise.
use Rattle.filing.proofs.Paging.{turned_piece}
use Rattle.filing.proofs.pages.Page.piece.Goals as goal

pub returns : goal.returns
returns c = λ r w long. turned_piece c.args.self.now r _ _ _ w long c.min.ensures
