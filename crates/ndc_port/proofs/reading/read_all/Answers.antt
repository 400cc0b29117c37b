use Rattle.std.proofs.Common.{◌≡◌, ◌+◌, ◌≤◌, ◌++◌, length, take, arith, length-append, length-take}
use Rattle.ndc_port.proofs.Steps.{Consumes_piece, Consumes_past}
use Rattle.ndc_port.proofs.reading.read_all.Goals as goal

pub returns-then-given-room-clause-too_long : goal.returns-then-given-room-clause-too_long
returns-then-given-room-clause-too_long g c = λ _.
    let items = c.loop-bytes.bytes.items in
    let piece = take c.in_ok-given.given c.read.new.into in
    let left = g.S.Source.left in
    let count : length (items ++ piece) ≡ c.args.limit + 1 = simp (length-append, length-take) (omega (arith, c.in_ok-given.ensures.fits, simp length-take at c.read.auto.into)) in
    Consumes_past (left c.args.source.now) (left c.read.new.self) (items ++ piece) c.args.limit (Consumes_piece (left c.args.source.now) (left c.loop-bytes.source) (left c.read.new.self) items piece c.loop-bytes.invariant.consumed c.in_ok-given.ensures.given) count

pub returns-in_err-extend_from_slice-clause-at_most : goal.returns-in_err-extend_from_slice-clause-at_most
returns-in_err-extend_from_slice-clause-at_most g c = λ _.
    let items = c.loop-bytes.bytes.items in
    let piece = take c.in_ok-given.given c.read.new.into in
    let left = g.S.Source.left in
    let count : length (items ++ piece) ≤ c.args.limit = simp (length-append, length-take) (omega (arith, c.in_ok-given.ensures.fits)) in
    (items ++ piece, count, Consumes_piece (left c.args.source.now) (left c.loop-bytes.source) (left c.read.new.self) items piece c.loop-bytes.invariant.consumed c.in_ok-given.ensures.given)
