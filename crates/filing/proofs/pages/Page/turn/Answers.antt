-- `filing::pages::Page::turn` keeps its promise.
use Rattle.filing.proofs.Paging.{page-gathered}
use Rattle.filing.proofs.pages.Page.turn.Goals as goal

pub returns-then-at-self : goal.returns-then-at-self
returns-then-at-self c = page-gathered _ _ _ _ c.requires.long c.gather_stream.ensures
