use Rattle.std.proofs.Common.{◌≡◌, List, map, ap, sym, ◌∙◌}
use Rattle.ndc_domain.specs.Merge.{merged}
use Rattle.ndc_domain.specs.declared.record.DomainRecord.{DomainRecord}
use Rattle.ndc_model.specs.World.{with_late}
use Rattle.ndc_world_replication.proofs.LateLemmas.{always-ok, merged_links}
use Rattle.ndc_world_replication.proofs.TableLemmas.{links-same}
use Rattle.ndc_world_replication.proofs.records.merge_into.Goals as goal
use Rattle.ndc_world_replication.proofs.records.merge_into.Goals.{then-lacks+in_ok-note_late, else-lacks}

pub returns-clause-links : goal.returns-clause-links
returns-clause-links c = always-ok c.merge.result links
  where
    links : c.if-lacks.links.items ≡ map (with_late c.args.cluster c.args.ours.now (merged c.args.ours.now c.args.theirs.now)) c.args.links.now.items
    links = elim c.if-lacks.branch [
      | then-lacks+in_ok-note_late w ↦
          ap (λ list. list.items) w.links-is ∙ w.in_ok-note_late.ensures
          ∙ merged_links c.args.cluster c.args.ours.now c.args.theirs.now c.records-ours.ensures.table c.records-theirs.ensures.table c.args.links.now.items
      | else-lacks w ↦
          ap (λ list. list.items) w.links-is
          ∙ sym (links-same c.args.cluster c.args.ours.now c.args.links.now.items c.records-ours.ensures.table.ordered)
          ∙ ap (λ (records : List DomainRecord). map (with_late c.args.cluster c.args.ours.now records) c.args.links.now.items) (sym (c.lacks.ensures.nothing w.if-lacks.false))
    ]
