use Rattle.std.proofs.Common.{◌≤◌, map, drop}
use Rattle.std.specs.List.{concat}
use Rattle.ndc_port.specs.Bytes.{Sent}
use Rattle.ndc_dump.proofs.pieces.write_pieces.Given as goal

-- what is left to send are the pieces that are left
abbrev pub invariant-loop-piece : goal.invariant-loop-piece
invariant-loop-piece g l = let sink = g.E.Sink in record {
  sent : Sent (sink.written l.fn.err) (sink.written l.err) (concat (map (λ piece. piece.now) l.pieces)) (concat (map (λ piece. piece.now) (drop l.piece-index l.pieces)));
  faults : sink.faults l.fn.err ≤ sink.faults l.err;
}
