use Rattle.std.proofs.Common.{drop}
use Rattle.ndc_shard_waiting.proofs.ShortcutLemmas.{IsLeaving}
use Rattle.ndc_shard_waiting.proofs.held.forget_all.Given as goal

abbrev pub invariant-loop-sent : goal.invariant-loop-sent
invariant-loop-sent l = IsLeaving l.fn.shortcuts l.shortcuts (drop l.sent-index l.messages) l.messages
