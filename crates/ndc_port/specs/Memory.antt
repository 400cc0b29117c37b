-- Sources and sinks over memory: what each call answers, and what it leaves.
use Rattle.std.specs.Prelude.{ℕ, ◌-◌, Bool, not, ◌&&◌, ◌||◌, ◌==◌, nat_le, List, ◌++◌, length, take, drop, min, Result, Ok, Err, if◌then◌else◌}
use Rattle.std.specs.List.{list_any}
use Rattle.ndc_port.specs.declared.fault.Failed.{Failed}
use Rattle.ndc_port.specs.Fault.{one_more}

-- a source: the bytes still to come, the reads so far, the numbers of the reads that fail, the faults so far
pub record SourceState : Type 0 where
  pub left : List ℕ
  pub calls : ℕ
  pub failing : List ℕ
  pub faults : ℕ

-- a sink: the bytes written, for how many it has room, the writes so far, the numbers of the writes that fail, the faults so far
pub record SinkState : Type 0 where
  pub written : List ℕ
  pub room : ℕ
  pub calls : ℕ
  pub failing : List ℕ
  pub faults : ℕ

-- after this many calls, the number of the next one is listed
abbrev pub is_listed : ℕ → List ℕ → Bool
is_listed calls failing = list_any (λ number. number == one_more calls) failing

-- the one value of `Failed`
abbrev pub failed : Failed
failed = record {}

-- what a read into a slice of this length answers: as many bytes as fit, unless its call is listed
abbrev pub read_answer : SourceState → ℕ → Result ℕ Failed
read_answer s asked = if is_listed s.calls s.failing then Err failed else Ok (min asked (length s.left))

-- the source after that read
abbrev pub after_read : SourceState → ℕ → SourceState
after_read s asked =
    if is_listed s.calls s.failing
    then record s { calls = one_more s.calls; faults = one_more s.faults }
    else record s { calls = one_more s.calls; left = drop asked s.left }

-- whether a write of this piece fails: its call is listed, or the piece is not empty and there is no room
abbrev pub is_failing_write : SinkState → List ℕ → Bool
is_failing_write s piece = is_listed s.calls s.failing || nat_le s.room (length s.written) && not (length piece == 0)

-- what a write of this piece answers: how many of its bytes there is room for, unless it fails
abbrev pub write_answer : SinkState → List ℕ → Result ℕ Failed
write_answer s piece = if is_failing_write s piece then Err failed else Ok (min (length piece) (s.room - length s.written))

-- the sink after that write
abbrev pub after_write : SinkState → List ℕ → SinkState
after_write s piece =
    if is_failing_write s piece
    then record s { calls = one_more s.calls; faults = one_more s.faults }
    else record s { calls = one_more s.calls; written = s.written ++ take (s.room - length s.written) piece }
