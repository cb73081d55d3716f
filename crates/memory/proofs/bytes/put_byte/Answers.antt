-- `memory::bytes::put_byte` keeps its promise.
use mathlib.Core.Path.{sym}
use lib.Seq.{set_out}
use Rattle.memory.proofs.bytes.put_byte.Goals as goal

pub returns-else-at-card : goal.returns-else-at-card
returns-else-at-card c = sym (set_out c.args.card.now c.args.at c.args.b c.if-at-card.false)
