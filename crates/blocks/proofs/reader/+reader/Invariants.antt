-- `blocks::reader::reader` keeps its promise.
use Rattle.blocks.proofs.reader.+reader.Given as goal

abbrev pub decreases-reader : goal.decreases-reader
decreases-reader l = l.h
