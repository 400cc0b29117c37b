use Rattle.std.proofs.Common.{◌≡◌, ◌≤◌, ◌-◌, length, vec_len}
use Rattle.ndc_port.specs.Bytes.{Consumes}
use Rattle.ndc_port.proofs.reading.read_all.Given as goal

abbrev pub invariant-loop-bytes : goal.invariant-loop-bytes
invariant-loop-bytes g l = let source = g.S.Source in record {
  consumed : Consumes (source.left l.fn.source) (source.left l.source) l.bytes.items;
  within : vec_len l.bytes ≤ l.limit;
  faults : source.faults l.fn.source ≤ source.faults l.source;
  piece : length l.piece ≡ 8192;
}

abbrev pub decreases-loop-bytes : goal.decreases-loop-bytes
decreases-loop-bytes g l = l.limit - vec_len l.bytes
