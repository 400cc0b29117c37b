use Rattle.std.proofs.Common.{◌<◌, ◌++◌, length, [], ◌∷◌, set, ap, sym, ◌∙◌, if◌then◌else◌, Bool, arith}
use Rattle.std.proofs.lemmas.List.Edits.{map_over_more}
use Rattle.ndc_event.specs.declared.name.Name.{Name}
use Rattle.ndc_world_replication.specs.Tables.{with_late_domain}
use Rattle.ndc_world_replication.proofs.records.add_late.Goals as goal
use Rattle.ndc_world_replication.proofs.records.add_late.Goals.{then-is+in_ok-try_copy+in_ok-add_late, else-is}

pub loop-place-preserved : goal.loop-place-preserved
loop-place-preserved c =
    let below : c.loop-place.place < length c.args.links.now.items = omega arith in
    let link = c.index_mut-link.result.now in
    elim c.if-is.branch [
      | then-is+in_ok-try_copy+in_ok-add_late w ↦
          ap (λ links. links.items) w.links-is
          ∙ ap (set c.loop-place.links.items c.loop-place.place)
          (w.in_ok-add_late.ensures.added ∙ ap (λ (name : Name). record link { late = link.late ++ name ∷ [] }) w.in_ok-try_copy.ensures
          ∙ sym (ap (λ (t : Bool). if t then record link { late = link.late ++ c.args.domain.now ∷ [] } else link) (sym c.is.ensures ∙ w.if-is.true)))
          ∙ map_over_more (with_late_domain c.args.reader c.args.source c.args.domain.now) c.args.links.now.items c.loop-place.links.items c.loop-place.place link below
          c.loop-place.invariant c.index_mut-link.ensures.value
      | else-is w ↦
          ap (λ links. links.items) w.links-is
          ∙ ap (set c.loop-place.links.items c.loop-place.place)
          (sym (ap (λ (t : Bool). if t then record link { late = link.late ++ c.args.domain.now ∷ [] } else link) (sym c.is.ensures ∙ w.if-is.false)))
          ∙ map_over_more (with_late_domain c.args.reader c.args.source c.args.domain.now) c.args.links.now.items c.loop-place.links.items c.loop-place.place link below
          c.loop-place.invariant c.index_mut-link.ensures.value
    ]
