-- `write_escaped`: what is written, and what is yet to be written of the bytes left, is the whole.
use Rattle.std.proofs.Common.{◌≡◌, ◌++◌}
use Rattle.std.specs.Str.Chunks.{utf8_chunks_rest}
use Rattle.omega_text.specs.Labels.{escaped}
use Rattle.omega_text.proofs.labels.write_escaped.Given as goal

abbrev pub invariant-loop-chunk : goal.invariant-loop-chunk
invariant-loop-chunk l = l.out.items ++ escaped (utf8_chunks_rest l.chunk-iterator) ≡ l.fn.out.items ++ escaped l.name
