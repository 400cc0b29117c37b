use Rattle.std.proofs.Common.{◌≡◌, ◌<◌, length, true, false, set, ap, sym, ◌∙◌, eq-eqb, ne_eqb, arith}
use Rattle.std.proofs.lemmas.List.Edits.{map_over_more}
use Rattle.ndc_model_cells.specs.Writing.{same_cluster}
use Rattle.ndc_domain.specs.declared.clusters.ClusterNo.{ClusterNo}
use Rattle.ndc_model.specs.World.{with_late}
use Rattle.ndc_world_replication.proofs.WorkLemmas.{late_other, late_own}
use Rattle.ndc_world_replication.proofs.records.note_late.Goals as goal
use Rattle.ndc_world_replication.proofs.records.note_late.Goals.{then-source+in_ok-note_late, else-source}

pub loop-place-preserved : goal.loop-place-preserved
loop-place-preserved c =
    let below : c.loop-place.place < length c.args.links.now.items = omega arith in
    elim c.if-source.branch [
      | then-source+in_ok-note_late w ↦
          let own : same_cluster c.index_mut-link.result.now.source c.args.source ≡ true =
          eq-eqb c.index_mut-link.result.now.source.number c.args.source.number (ap (λ (number : ClusterNo). number.number) (sym c.source.ensures) ∙ w.if-source.true) in
          ap (λ links. links.items) w.links-is
          ∙ ap (set c.loop-place.links.items c.loop-place.place) (w.in_ok-note_late.ensures.noted ∙ late_own c.args.source c.args.before.now c.args.after.now c.index_mut-link.result.now own)
          ∙ map_over_more (with_late c.args.source c.args.before.now c.args.after.now) c.args.links.now.items c.loop-place.links.items c.loop-place.place c.index_mut-link.result.now below
          c.loop-place.invariant c.index_mut-link.ensures.value
      | else-source w ↦
          let other : same_cluster c.index_mut-link.result.now.source c.args.source ≡ false =
          ne_eqb c.index_mut-link.result.now.source.number c.args.source.number (λ same. w.if-source.false (ap (λ (number : ClusterNo). number.number) c.source.ensures ∙ same)) in
          ap (λ links. links.items) w.links-is
          ∙ ap (set c.loop-place.links.items c.loop-place.place) (late_other c.args.source c.args.before.now c.args.after.now c.index_mut-link.result.now other)
          ∙ map_over_more (with_late c.args.source c.args.before.now c.args.after.now) c.args.links.now.items c.loop-place.links.items c.loop-place.place c.index_mut-link.result.now below
          c.loop-place.invariant c.index_mut-link.ensures.value
    ]
