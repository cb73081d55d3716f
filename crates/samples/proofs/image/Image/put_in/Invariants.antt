-- The image keeps its length.
use Rattle.std.proofs.Common.{◌≡◌, vec_len}
use Rattle.samples.proofs.image.Image.put_in.Given as goal

abbrev pub invariant-loop-byte : goal.invariant-loop-byte
invariant-loop-byte l = vec_len l.self.bytes ≡ vec_len l.initial.self.bytes
