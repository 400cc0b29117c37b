use Rattle.std.proofs.Common.{◌≡◌, true, ap, refl, sym, ◌∙◌, eq-eqb, ne_eqb}
use Rattle.ndc_domain.specs.declared.clusters.ClusterNo.{ClusterNo}
use Rattle.ndc_model.specs.Moves.{in_flight}
use Rattle.ndc_model_cells.specs.Writing.{same_cluster}
use Rattle.ndc_world_replication.proofs.QuietLemmas.{lane_emptied_at, lane_part, quiet_emptied_at, quiet_part}
use Rattle.ndc_world_replication.proofs.TakeLemmas.{emptied_other, emptied_own, none_taken, one_taken, part_other, part_own}
use Rattle.ndc_world_replication.proofs.taking.take_from.Goals as goal

pub returns-then-reader-clause-link : goal.returns-then-reader-clause-link
returns-then-reader-clause-link c =
    emptied_other c.args.reader c.args.shard c.args.link.now
    (ne_eqb c.args.link.now.reader.number c.args.reader.number (λ same. c.if-reader.true (ap (λ (number : ClusterNo). number.number) c.reader.ensures ∙ same)))

pub returns-then-reader-clause-jobs : goal.returns-then-reader-clause-jobs
returns-then-reader-clause-jobs c =
    none_taken c.args.reader c.args.shard c.args.link.now c.args.jobs.now.items
    (sym (part_other in_flight c.args.reader c.args.shard c.args.link.now
    (ne_eqb c.args.link.now.reader.number c.args.reader.number (λ same. c.if-reader.true (ap (λ (number : ClusterNo). number.number) c.reader.ensures ∙ same)))))

pub returns-then-is_quiet-clause-link : goal.returns-then-is_quiet-clause-link
returns-then-is_quiet-clause-link c = quiet_emptied_at c.args.reader c.args.shard c.args.link.now (c.if-is_quiet.ensures refl)

pub returns-then-is_quiet-clause-jobs : goal.returns-then-is_quiet-clause-jobs
returns-then-is_quiet-clause-jobs c =
    none_taken c.args.reader c.args.shard c.args.link.now c.args.jobs.now.items (quiet_part c.args.reader c.args.shard c.args.link.now (c.if-is_quiet.ensures refl))

pub returns-then-is_quiet_for-clause-link : goal.returns-then-is_quiet_for-clause-link
returns-then-is_quiet_for-clause-link c = lane_emptied_at c.args.reader c.args.shard c.args.link.now (c.if-is_quiet_for.ensures refl)

pub returns-then-is_quiet_for-clause-jobs : goal.returns-then-is_quiet_for-clause-jobs
returns-then-is_quiet_for-clause-jobs c =
    none_taken c.args.reader c.args.shard c.args.link.now c.args.jobs.now.items (lane_part c.args.reader c.args.shard c.args.link.now (c.if-is_quiet_for.ensures refl))

pub returns-clause-link : goal.returns-clause-link
returns-clause-link c =
    let own : same_cluster c.args.link.now.reader c.args.reader ≡ true =
    eq-eqb c.args.link.now.reader.number c.args.reader.number (ap (λ (number : ClusterNo). number.number) (sym c.reader.ensures) ∙ c.if-reader.false) in
    c.take_flight-messages.ensures.empty ∙ emptied_own c.args.reader c.args.shard c.args.link.now own

pub returns-clause-jobs : goal.returns-clause-jobs
returns-clause-jobs c =
    let own : same_cluster c.args.link.now.reader c.args.reader ≡ true =
    eq-eqb c.args.link.now.reader.number c.args.reader.number (ap (λ (number : ClusterNo). number.number) (sym c.reader.ensures) ∙ c.if-reader.false) in
    c.in_ok-add_jobs.ensures
    ∙ one_taken c.args.reader c.args.shard c.args.link.now c.args.jobs.now.items c.take_flight-messages.result.items
    (c.take_flight-messages.ensures.given ∙ part_own in_flight c.args.reader c.args.shard c.args.link.now own)
