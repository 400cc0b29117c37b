use Rattle.std.proofs.Common.{◌≡◌, ◌++◌, drop}
use Rattle.ndc_probe.specs.Comments.{commented, commented_from}
use Rattle.ndc_probe.proofs.comments.push_comments.Given as goal

-- the text so far, with what is left, is the whole
abbrev pub invariant-loop-byte : goal.invariant-loop-byte
invariant-loop-byte l = l.text.items ++ commented_from l.begins (drop l.byte-index l.bytes) ≡ l.initial.text.items ++ commented l.bytes
