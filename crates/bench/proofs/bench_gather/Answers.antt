-- `bench::bench_gather` keeps its promise.
use Rattle.bench.proofs.bench_gather.Goals as goal

pub returns : goal.returns
returns c = rw c.cut_of-s.ensures at c.gather_part.ensures
