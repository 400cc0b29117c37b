use Rattle.std.proofs.Common.{◌≡◌, ◌<◌, ◌^◌, ◌∙◌, sym, length, arith, rules, Ok}
use Rattle.ndc_model_cells.specs.Writing.{state_under}
use Rattle.ndc_command.specs.Plan.{plan_of}
use Rattle.ndc_command.proofs.LawProofs.{fits}
use Rattle.ndc_model_sets.specs.Branches.{workflow_tip}
use Rattle.ndc_shard_entries.proofs.TipLemmas.{ids-within}
use Rattle.ndc_shard_entries.proofs.writing.command_entry.Goals as goal

-- src/writing.rt:88:9
pub entry_below-requires-clause-ids : goal.entry_below-requires-clause-ids
entry_below-requires-clause-ids c =
    let a = c.args in
    let state = state_under (workflow_tip a.runs.now) a.runs.now in
    let kinds = c.in_ok-kinds.kinds.items in
    let planned : plan_of state a.command.now a.version a.limit c.of-next_run.result ≡ Ok kinds = search rules in
    let range = c.ranges.limit.fits in
    let small : a.limit < 2 ^ 64 = omega (arith, range) in
    ids-within state a.command.now a.limit (length kinds) (sym c.begins_run.ensures ∙ c.if-begins_run.false) (fits state a.command.now a.version a.limit c.of-next_run.result kinds planned) small
