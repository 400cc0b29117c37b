use Rattle.std.proofs.Common.{◌≡◌, ◌++◌, drop}
use Rattle.ndc_script_words.specs.Header.{members_of}
use Rattle.ndc_script_words.proofs.header.members_of.Given as goal

-- the members so far, with those of the rest, are those of the lines
abbrev pub invariant-loop-line : goal.invariant-loop-line
invariant-loop-line l = l.members.items ++ members_of (drop l.line-index l.lines) ≡ members_of l.lines
