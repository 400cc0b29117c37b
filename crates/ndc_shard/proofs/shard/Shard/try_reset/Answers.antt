use Rattle.std.proofs.Common.{◌≡◌, ◌∙◌, List, ap, sym, subst}
use Rattle.std.specs.List.{AllByRecursion}
use Rattle.ndc_cluster.specs.Homes.{HomeValue, desk_of}
use Rattle.std.specs.Prelude.{IfSome}
use Rattle.ndc_model_cells.specs.Workflow.{workflow_of}
use Rattle.ndc_model_cells.specs.Writing.{Desk, Entry, reset_at}
use Rattle.ndc_shard.proofs.LoneLemmas.{reset_lone}
use Rattle.ndc_shard.proofs.TryLemmas.{all-not-taken, entries-made, reset-planned}
use Rattle.ndc_shard.specs.Shards.{AreLone, AreOneOrTwo}
use Rattle.ndc_shard.specs.Trying.{AreMade, HasSmallIdsIn, together}
use Rattle.ndc_shard_workflows.specs.Refused.{IsNotWritten}
use Rattle.ndc_shard.proofs.shard.Shard.try_reset.Goals as goal

pub have_small_ids-requires : goal.have_small_ids-requires
have_small_ids-requires g c =
    subst AreOneOrTwo (sym c.as_slice.ensures.value)
    (reset_lone c.new-desk.result c.args.domain.now c.args.workflow.now c.args.event c.args.self.now c.in-Ok.entries.items c.in-Ok.ensures.entries).1

pub try_write_all-requires-clause-made : goal.try_write_all-requires-clause-made
try_write_all-requires-clause-made g c =
    subst AreMade (sym c.as_slice-2.ensures.value)
    (entries-made _ c.args.domain.now c.args.workflow.now c.in-Ok.entries.items
    (reset-planned c.new-desk.result c.args.domain.now c.args.workflow.now c.args.event c.args.self.now c.in-Ok.entries.items c.in-Ok.ensures.fit c.in-Ok.ensures.entries)
    (reset_lone c.new-desk.result c.args.domain.now c.args.workflow.now c.args.event c.args.self.now c.in-Ok.entries.items c.in-Ok.ensures.entries).1
    (subst (AllByRecursion HasSmallIdsIn) c.as_slice.ensures.value (c.have_small_ids.ensures.small c.if-not-have_small_ids.false)))

pub try_write_all-requires-clause-lone : goal.try_write_all-requires-clause-lone
try_write_all-requires-clause-lone g c =
    subst AreLone (sym c.as_slice-2.ensures.value)
    (reset_lone c.new-desk.result c.args.domain.now c.args.workflow.now c.args.event c.args.self.now c.in-Ok.entries.items c.in-Ok.ensures.entries).0

pub written_together-requires : goal.written_together-requires
written_together-requires g c =
    subst AreOneOrTwo (sym c.as_slice-3.ensures.value)
    (reset_lone c.new-desk.result c.args.domain.now c.args.workflow.now c.args.event c.args.self.now c.in-Ok.entries.items c.in-Ok.ensures.entries).1

pub returns-in-Err-try_write_all-clause-refused : goal.returns-in-Err-try_write_all-clause-refused
returns-in-Err-try_write_all-clause-refused g c =
    let same : c.new-desk.result ≡ desk_of c.args.home.now c.args.table.now = c.new-desk.ensures ∙ ap (λ (h : HomeValue). desk_of h c.args.table.now) c.home.view_is in
    all-not-taken c.in-Err-try_write_all.cause c.args.domain.now c.args.workflow.now _ c.args.self.now c.in-Ok.entries.items
    (reset-planned c.new-desk.result c.args.domain.now c.args.workflow.now c.args.event c.args.self.now c.in-Ok.entries.items c.in-Ok.ensures.fit c.in-Ok.ensures.entries)
    (ap (λ (d : Desk). reset_at d c.args.domain.now c.args.workflow.now c.args.event c.args.self.now) (sym same) ∙ c.in-Ok.ensures.entries)
    (subst (λ (list : List Entry). IfSome (together list) (λ new. IsNotWritten c.in-Err-try_write_all.cause new (workflow_of new.batch.domain new.batch.workflow c.args.self.now)))
    c.as_slice-2.ensures.value c.in-Err-try_write_all.ensures.refused)
