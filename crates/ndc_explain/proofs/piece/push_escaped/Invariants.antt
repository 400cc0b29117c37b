use Rattle.std.proofs.Common.{◌≡◌, ◌++◌, drop}
use Rattle.ndc_explain.specs.Pieces.{escaped_text}
use Rattle.ndc_explain.proofs.piece.push_escaped.Given as goal

-- the text so far, with the bytes that are left, is the whole
abbrev pub invariant-loop-byte : goal.invariant-loop-byte
invariant-loop-byte l = l.text.items ++ escaped_text (drop l.byte-index l.bytes) ≡ l.initial.text.items ++ escaped_text l.bytes
