use Rattle.std.proofs.Common.{◌≡◌, ◌<◌, ℕ, true, false, drop, length, map, get_or, set, ap, sym, subst, ◌∙◌, arith, eq-eqb, ne_eqb}
use Rattle.std.proofs.lemmas.List.{length-map}
use Rattle.std.proofs.lemmas.List.Edits.{map_over_more}
use Rattle.ndc_model_cells.specs.Jobs.{cell_for}
use Rattle.ndc_model_cells.specs.Writing.{same_cluster}
use Rattle.ndc_domain.specs.declared.clusters.ClusterNo.{ClusterNo}
use Rattle.ndc_model.specs.Moves.{renewed_link}
use Rattle.ndc_model.specs.World.{World}
use Rattle.ndc_world_replication.proofs.LinkLemmas.{cells_many, held_there, lanes_alike, lanes_many, lanes_within, other_link, renewed_there, stands_in}
use Rattle.ndc_world_replication.proofs.OwnLemmas.{front_stays, own_renewed}
use Rattle.ndc_world_replication.specs.Own.{AreOthers}
use Rattle.ndc_world_replication.specs.Replications.{world_of}
use Rattle.ndc_world_replication.proofs.replication.Replication.renew.Goals as goal
use Rattle.ndc_world_replication.proofs.replication.Replication.renew.Goals.{then-reader, else-reader}

pub renew-requires-clause-cells : goal.renew-requires-clause-cells
renew-requires-clause-cells g c =
    let below : c.loop-place.place < length c.args.self.now.links = omega (arith, c.loop-place-test.true, c.own_places-first.ensures.within c.args.self.now c.requires.orderly.shaped) in
    sym (length-map c.cells.result.now g.C.Cell.cell) ∙ ap length c.cells.ensures ∙ cells_many c.args.header.now c.args.self.now c.args.reader c.index-own.result.now c.requires.orderly.shaped c.requires.reader (stands_in c.args.header.now c.args.self.now c.loop-place.self-inside.publishers.items c.loop-place.self-inside.handovers.items c.args.reader c.index-own.result.now c.loop-place.invariant.seen c.requires.orderly.shaped c.requires.reader c.index-own.ensures)
    ∙ sym (lanes_many c.args.header.now c.args.self.now c.loop-place.place c.index_mut-link.result.now c.index-source.result.now c.queues.result.now (held_there c.args.header.now c.args.self.now c.loop-place.self-inside.publishers.items c.loop-place.self-inside.handovers.items (renewed_link c.args.self.now c.args.reader) c.loop-place.self-inside.links.items c.loop-place.place
    c.index_mut-link.result.now c.index-source.result.now c.queues.result.now c.loop-place.invariant.seen c.requires.orderly.shaped c.requires.orderly.lanes c.loop-place.invariant.links below
    c.index_mut-link.ensures.value (c.index-source.ensures ∙ ap (λ (number : ClusterNo). get_or c.loop-place.self-inside.publishers.items number.number c.index-source.result.now) c.source.ensures)
    c.queues.ensures.alike c.queues.ensures.rests c.queues.ensures.trimmed))

pub renew-requires-clause-alike : goal.renew-requires-clause-alike
renew-requires-clause-alike g c =
    let below : c.loop-place.place < length c.args.self.now.links = omega (arith, c.loop-place-test.true, c.own_places-first.ensures.within c.args.self.now c.requires.orderly.shaped) in
    lanes_alike c.args.header.now c.args.self.now c.loop-place.place c.index_mut-link.result.now c.index-source.result.now c.queues.result.now
    (held_there c.args.header.now c.args.self.now c.loop-place.self-inside.publishers.items c.loop-place.self-inside.handovers.items (renewed_link c.args.self.now c.args.reader) c.loop-place.self-inside.links.items c.loop-place.place
    c.index_mut-link.result.now c.index-source.result.now c.queues.result.now c.loop-place.invariant.seen c.requires.orderly.shaped c.requires.orderly.lanes c.loop-place.invariant.links below
    c.index_mut-link.ensures.value (c.index-source.ensures ∙ ap (λ (number : ClusterNo). get_or c.loop-place.self-inside.publishers.items number.number c.index-source.result.now) c.source.ensures)
    c.queues.ensures.alike c.queues.ensures.rests c.queues.ensures.trimmed)

pub renew-requires-clause-within : goal.renew-requires-clause-within
renew-requires-clause-within g c =
    let below : c.loop-place.place < length c.args.self.now.links = omega (arith, c.loop-place-test.true, c.own_places-first.ensures.within c.args.self.now c.requires.orderly.shaped) in
    lanes_within c.args.header.now c.args.self.now c.loop-place.place c.index_mut-link.result.now c.index-source.result.now c.queues.result.now
    (held_there c.args.header.now c.args.self.now c.loop-place.self-inside.publishers.items c.loop-place.self-inside.handovers.items (renewed_link c.args.self.now c.args.reader) c.loop-place.self-inside.links.items c.loop-place.place
    c.index_mut-link.result.now c.index-source.result.now c.queues.result.now c.loop-place.invariant.seen c.requires.orderly.shaped c.requires.orderly.lanes c.loop-place.invariant.links below
    c.index_mut-link.ensures.value (c.index-source.ensures ∙ ap (λ (number : ClusterNo). get_or c.loop-place.self-inside.publishers.items number.number c.index-source.result.now) c.source.ensures)
    c.queues.ensures.alike c.queues.ensures.rests c.queues.ensures.trimmed)

pub loop-place-preserved : goal.loop-place-preserved
loop-place-preserved g c =
    let below : c.loop-place.place < length c.args.self.now.links = omega (arith, c.loop-place-test.true, c.own_places-first.ensures.within c.args.self.now c.requires.orderly.shaped) in
    elim c.if-reader.branch [
      | then-reader w ↦
          let own : same_cluster c.index_mut-link.result.now.reader c.args.reader ≡ true =
          eq-eqb c.index_mut-link.result.now.reader.number c.args.reader.number (ap (λ (number : ClusterNo). number.number) (sym c.reader.ensures) ∙ w.if-reader.true) in
          let step : w.renew.new.self ≡ renewed_link c.args.self.now c.args.reader c.index_mut-link.result.now =
          w.renew.ensures (λ shard. (cell_for shard w.index-source.result.now.cluster.cells).written) w.queues.ensures.rests
          ∙ renewed_there c.args.header.now c.args.self.now c.loop-place.place c.index_mut-link.result.now w.index-source.result.now w.queues.result.now
          (held_there c.args.header.now c.args.self.now c.loop-place.self-inside.publishers.items c.loop-place.self-inside.handovers.items (renewed_link c.args.self.now c.args.reader) c.loop-place.self-inside.links.items c.loop-place.place
          c.index_mut-link.result.now w.index-source.result.now w.queues.result.now c.loop-place.invariant.seen c.requires.orderly.shaped c.requires.orderly.lanes c.loop-place.invariant.links below
          c.index_mut-link.ensures.value (w.index-source.ensures ∙ ap (λ (number : ClusterNo). get_or c.loop-place.self-inside.publishers.items number.number w.index-source.result.now) w.source.ensures)
          w.queues.ensures.alike w.queues.ensures.rests w.queues.ensures.trimmed)
          c.args.reader w.index-own.result.now w.table.result.now (map g.C.Cell.cell w.cells.result.now) own (stands_in c.args.header.now c.args.self.now c.loop-place.self-inside.publishers.items c.loop-place.self-inside.handovers.items c.args.reader w.index-own.result.now c.loop-place.invariant.seen c.requires.orderly.shaped c.requires.reader w.index-own.ensures) w.table.ensures w.cells.ensures in
          record {
            seen = ap (λ inside. world_of inside.publishers.items c.args.self.now.links inside.handovers.items) w.self-inside-is ∙ c.loop-place.invariant.seen;
            most = omega (arith, c.loop-place-test.true);
            links = ap (λ inside. inside.links.items) w.self-inside-is ∙ ap (set c.loop-place.self-inside.links.items c.loop-place.place) step
                ∙ map_over_more (renewed_link c.args.self.now c.args.reader) c.args.self.now.links c.loop-place.self-inside.links.items c.loop-place.place c.index_mut-link.result.now below
                c.loop-place.invariant.links c.index_mut-link.ensures.value;
          }
      | else-reader w ↦
          let other : same_cluster c.index_mut-link.result.now.reader c.args.reader ≡ false =
          ne_eqb c.index_mut-link.result.now.reader.number c.args.reader.number (λ same. w.if-reader.false (ap (λ (number : ClusterNo). number.number) c.reader.ensures ∙ same)) in
          record {
            seen = ap (λ inside. world_of inside.publishers.items c.args.self.now.links inside.handovers.items) w.self-inside-is ∙ c.loop-place.invariant.seen;
            most = omega (arith, c.loop-place-test.true);
            links = ap (λ inside. inside.links.items) w.self-inside-is ∙ ap (set c.loop-place.self-inside.links.items c.loop-place.place) (sym (other_link c.args.self.now c.args.reader c.index_mut-link.result.now other))
                ∙ map_over_more (renewed_link c.args.self.now c.args.reader) c.args.self.now.links c.loop-place.self-inside.links.items c.loop-place.place c.index_mut-link.result.now below
                c.loop-place.invariant.links c.index_mut-link.ensures.value;
          }
    ]

pub returns : goal.returns
returns g c =
    let past : c.loop-place.place ≡ c.own_places-first.result.1 = omega (arith, c.loop-place.invariant.most, c.loop-place-test.false) in
    own_renewed c.args.reader c.args.self.now c.loop-place.self-inside.publishers.items c.loop-place.self-inside.links.items c.loop-place.self-inside.handovers.items c.loop-place.place c.loop-place.invariant.seen
    c.loop-place.invariant.links
    (subst (λ (place : ℕ). AreOthers c.args.reader (drop place c.args.self.now.links)) (sym past) (c.own_places-first.ensures.back c.args.self.now c.requires.orderly.shaped))

pub loop-place-init : goal.loop-place-init
loop-place-init g c = record {
  seen = ap (λ (v : World). world_of c.self.inside.publishers.items v.links c.self.inside.handovers.items) (sym c.self.view_is) ∙ c.self.view_is;
  most = c.own_places-first.ensures.rising;
  links = ap (λ (v : World). v.links) c.self.view_is
      ∙ front_stays c.args.self.now c.args.reader c.own_places-first.result.0 c.args.self.now.links (c.own_places-first.ensures.front c.args.self.now c.requires.orderly.shaped);
}
