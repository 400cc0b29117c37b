use Rattle.std.proofs.Common.{◌≡◌, ◌+◌, ◌++◌, drop}
use Rattle.ndc_probe.specs.Sent.{entries_from}
use Rattle.ndc_probe.proofs.sent.push_entries.Given as goal

-- the text so far, with the lines of what is left, is the whole
abbrev pub invariant-loop-sent : goal.invariant-loop-sent
invariant-loop-sent l = record {
  place : l.place ≡ l.first + l.sent-index;
  text : l.text.items ++ entries_from l.place (drop l.sent-index l.entries) ≡ l.initial.text.items ++ entries_from l.first l.entries;
}
