use Rattle.std.proofs.Common.{◌<◌, length, arith}
use Rattle.ndc_port.specs.Bytes.{AppendsFront}
use Rattle.ndc_dump.proofs.PieceLemmas.{Sent_last, Sent_next, bytes_of, on_err}
use Rattle.ndc_dump.proofs.pieces.write_pieces.Goals as goal

pub returns-in_err-write_all-clause-front : goal.returns-in_err-write_all-clause-front
returns-in_err-write_all-clause-front g c =
    let written = g.E.Sink.written in
    let within : c.loop-piece.piece-index < length c.args.pieces.now = omega arith in
    on_err (AppendsFront (written c.args.err.now) (written c.write_all.new.sink) (bytes_of c.args.pieces.now)) c.from_residual.result
    (Sent_last _ _ _ c.args.pieces.now c.loop-piece.piece-index _ within c.loop-piece.invariant.sent c.in_err-write_all.ensures.front)

pub loop-piece-preserved : goal.loop-piece-preserved
loop-piece-preserved g c =
    let within : c.loop-piece.piece-index < length c.args.pieces.now = omega arith in
    record {
      sent = Sent_next _ _ _ c.args.pieces.now c.loop-piece.piece-index _ within c.loop-piece.invariant.sent c.in_ok-write_all.ensures.whole;
      faults = omega (arith, c.loop-piece.invariant.faults, c.in_ok-write_all.ensures.count);
    }
