use Rattle.std.proofs.Common.{◌≡◌, ◌∙◌, ap, sym}
use Rattle.ndc_cluster.specs.Homes.{HomeValue, desk_of}
use Rattle.ndc_model_cells.specs.Writing.{Desk, command_of}
use Rattle.ndc_shard.proofs.LoneLemmas.{command_lone}
use Rattle.ndc_shard.proofs.TryLemmas.{command-planned, entry-made, entry-message, one-not-taken}
use Rattle.ndc_shard.proofs.shard.Shard.try_command.Goals as goal

pub try_write-requires-clause-message : goal.try_write-requires-clause-message
try_write-requires-clause-message g c =
    entry-message _ c.args.domain.now c.args.workflow.now c.in-Ok.entry
    (command-planned c.new-desk.result c.args.domain.now c.args.workflow.now c.args.command.now c.args.self.now _ c.in-Ok.ensures.fit c.in-Ok.ensures.entries).0

pub try_write-requires-clause-made : goal.try_write-requires-clause-made
try_write-requires-clause-made g c =
    entry-made _ c.args.domain.now c.args.workflow.now c.in-Ok.entry
    (command-planned c.new-desk.result c.args.domain.now c.args.workflow.now c.args.command.now c.args.self.now _ c.in-Ok.ensures.fit c.in-Ok.ensures.entries).0
    (c.has_small_ids.ensures.small c.if-not-has_small_ids.false)

pub try_write-requires-clause-lone : goal.try_write-requires-clause-lone
try_write-requires-clause-lone g c =
    (command_lone c.new-desk.result c.args.domain.now c.args.workflow.now c.args.command.now c.args.self.now _ c.in-Ok.ensures.entries).0

pub returns-in-Err-try_write-clause-refused : goal.returns-in-Err-try_write-clause-refused
returns-in-Err-try_write-clause-refused g c =
    let same : c.new-desk.result ≡ desk_of c.args.home.now c.args.table.now = c.new-desk.ensures ∙ ap (λ (h : HomeValue). desk_of h c.args.table.now) c.home.view_is in
    one-not-taken c.in-Err-try_write.cause c.args.domain.now c.args.workflow.now _ c.args.self.now c.in-Ok.entry
    (command-planned c.new-desk.result c.args.domain.now c.args.workflow.now c.args.command.now c.args.self.now _ c.in-Ok.ensures.fit c.in-Ok.ensures.entries).0
    (ap (λ (d : Desk). command_of d c.args.domain.now c.args.workflow.now c.args.command.now c.args.self.now) (sym same) ∙ c.in-Ok.ensures.entries) c.in-Err-try_write.ensures.refused
