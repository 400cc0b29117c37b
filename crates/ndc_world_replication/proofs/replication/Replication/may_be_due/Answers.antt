use Rattle.std.proofs.Common.{◌≡◌, ◌<◌, ◌+◌, ◌++◌, ℕ, [], ◌∷◌, List, true, false, length, get_or, ap, drop, refl, sym, subst, ◌∙◌, arith, eq-eqb, ne_eqb}
use Rattle.std.proofs.lemmas.List.{append-nil}
use Rattle.std.specs.List.{AllByRecursion, flat_map}
use Rattle.ndc_domain.specs.declared.clusters.ClusterNo.{ClusterNo}
use Rattle.ndc_model.proofs.ListLemmas.{all-append}
use Rattle.ndc_model.specs.Moves.{by_link, due}
use Rattle.ndc_model.specs.World.{World}
use Rattle.ndc_model_cells.specs.declared.message.Message.{Message}
use Rattle.ndc_model_cells.specs.Writing.{same_cluster}
use Rattle.ndc_world_replication.proofs.DueLemmas.{due_listed, due_passed, held_here, none_due, none_other}
use Rattle.ndc_world_replication.proofs.LinkLemmas.{lanes_alike, lanes_within}
use Rattle.ndc_world_replication.proofs.OwnLemmas.{front_due, others_due}
use Rattle.ndc_world_replication.specs.Places.{links_at}
use Rattle.ndc_world_replication.proofs.replication.Replication.may_be_due.Goals as goal

pub is_done-requires-clause-alike : goal.is_done-requires-clause-alike
is_done-requires-clause-alike g c =
    lanes_alike c.args.header.now c.args.self.now c.loop-place.place c.index-link.result.now c.index-source.result.now c.queues.result.now
    (held_here c.args.header.now c.args.self.now c.self.inside.publishers.items c.self.inside.links.items c.self.inside.handovers.items c.loop-place.place c.index-link.result.now c.source.result c.index-source.result.now c.queues.result.now
    c.self.view_is c.requires.orderly (omega (arith, c.loop-place-test.true, c.own_places-first.ensures.within c.args.self.now c.requires.orderly.shaped, ap (λ (v : World). length v.links) c.self.view_is)) c.index-link.ensures c.source.ensures c.index-source.ensures c.queues.ensures.alike c.queues.ensures.rests c.queues.ensures.trimmed)

pub is_done-requires-clause-within : goal.is_done-requires-clause-within
is_done-requires-clause-within g c =
    lanes_within c.args.header.now c.args.self.now c.loop-place.place c.index-link.result.now c.index-source.result.now c.queues.result.now
    (held_here c.args.header.now c.args.self.now c.self.inside.publishers.items c.self.inside.links.items c.self.inside.handovers.items c.loop-place.place c.index-link.result.now c.source.result c.index-source.result.now c.queues.result.now
    c.self.view_is c.requires.orderly (omega (arith, c.loop-place-test.true, c.own_places-first.ensures.within c.args.self.now c.requires.orderly.shaped, ap (λ (v : World). length v.links) c.self.view_is)) c.index-link.ensures c.source.ensures c.index-source.ensures c.queues.ensures.alike c.queues.ensures.rests c.queues.ensures.trimmed)

pub loop-place-init : goal.loop-place-init
loop-place-init g c = record {
  within = subst (AllByRecursion (λ (place : ℕ). place < length c.args.self.now.links)) (sym c.new-places.ensures.items) tt;
  most = c.own_places-first.ensures.rising;
  due = λ shard below.
      ap (λ (ps : List ℕ). flat_map (due c.args.self.now shard) (links_at ps c.args.self.now.links) ++ by_link c.args.reader (due c.args.self.now) (drop c.own_places-first.result.0 c.args.self.now.links) shard)
      c.new-places.ensures.items
      ∙ front_due c.args.self.now c.args.reader shard c.own_places-first.result.0 c.args.self.now.links (c.own_places-first.ensures.front c.args.self.now c.requires.orderly.shaped);
}

pub loop-place-preserved-then-reader : goal.loop-place-preserved-then-reader
loop-place-preserved-then-reader g c =
    let below : c.loop-place.place < length c.args.self.now.links = omega (arith, c.loop-place-test.true, c.own_places-first.ensures.within c.args.self.now c.requires.orderly.shaped) in
    let at : c.index-link.result.now ≡ get_or c.args.self.now.links c.loop-place.place c.index-link.result.now =
    c.index-link.ensures ∙ ap (λ (v : World). get_or v.links c.loop-place.place c.index-link.result.now) c.self.view_is in
    let other : same_cluster c.index-link.result.now.reader c.args.reader ≡ false =
    ne_eqb c.index-link.result.now.reader.number c.args.reader.number (λ same. c.if-reader.true (ap (λ (number : ClusterNo). number.number) c.reader.ensures ∙ same)) in
    record {
      most = omega (arith, c.loop-place-test.true);
      within = c.loop-place.invariant.within;
      due = λ shard there. due_passed c.args.self.now c.args.reader shard c.loop-place.places.items c.args.self.now.links c.loop-place.place c.index-link.result.now below at _
          (none_other c.args.self.now c.args.reader c.index-link.result.now shard other) (c.loop-place.invariant.due shard there);
    }

pub loop-place-preserved-then-is_done : goal.loop-place-preserved-then-is_done
loop-place-preserved-then-is_done g c =
    let below : c.loop-place.place < length c.args.self.now.links = omega (arith, c.loop-place-test.true, c.own_places-first.ensures.within c.args.self.now c.requires.orderly.shaped) in
    let at : c.index-link.result.now ≡ get_or c.args.self.now.links c.loop-place.place c.index-link.result.now =
    c.index-link.ensures ∙ ap (λ (v : World). get_or v.links c.loop-place.place c.index-link.result.now) c.self.view_is in
    record {
      most = omega (arith, c.loop-place-test.true);
      within = c.loop-place.invariant.within;
      due = λ shard there. due_passed c.args.self.now c.args.reader shard c.loop-place.places.items c.args.self.now.links c.loop-place.place c.index-link.result.now below at _
          (none_due c.args.header.now c.args.self.now c.loop-place.place c.index-link.result.now c.index-source.result.now c.queues.result.now
          (held_here c.args.header.now c.args.self.now c.self.inside.publishers.items c.self.inside.links.items c.self.inside.handovers.items c.loop-place.place c.index-link.result.now c.source.result c.index-source.result.now c.queues.result.now
          c.self.view_is c.requires.orderly (omega (arith, c.loop-place-test.true, c.own_places-first.ensures.within c.args.self.now c.requires.orderly.shaped, ap (λ (v : World). length v.links) c.self.view_is)) c.index-link.ensures c.source.ensures c.index-source.ensures c.queues.ensures.alike c.queues.ensures.rests c.queues.ensures.trimmed)
          (c.if-is_done.ensures refl) c.args.reader shard there) (c.loop-place.invariant.due shard there);
    }

pub loop-place-preserved : goal.loop-place-preserved
loop-place-preserved g c =
    let below : c.loop-place.place < length c.args.self.now.links = omega (arith, c.loop-place-test.true, c.own_places-first.ensures.within c.args.self.now c.requires.orderly.shaped) in
    let at : c.index-link.result.now ≡ get_or c.args.self.now.links c.loop-place.place c.index-link.result.now =
    c.index-link.ensures ∙ ap (λ (v : World). get_or v.links c.loop-place.place c.index-link.result.now) c.self.view_is in
    let own : same_cluster c.index-link.result.now.reader c.args.reader ≡ true =
    eq-eqb c.index-link.result.now.reader.number c.args.reader.number (ap (λ (number : ClusterNo). number.number) (sym c.reader.ensures) ∙ c.if-reader.false) in
    record {
      most = omega (arith, c.loop-place-test.true);
      within = subst (AllByRecursion (λ (place : ℕ). place < length c.args.self.now.links)) (sym c.in_ok-push.ensures.items)
          (all-append (λ (place : ℕ). place < length c.args.self.now.links) c.loop-place.places.items (c.loop-place.place ∷ []) c.loop-place.invariant.within (below, tt));
      due = λ shard there.
          ap (λ (ps : List ℕ). flat_map (due c.args.self.now shard) (links_at ps c.args.self.now.links) ++ by_link c.args.reader (due c.args.self.now) (drop (c.loop-place.place + 1) c.args.self.now.links) shard) c.in_ok-push.ensures.items
          ∙ due_listed c.args.self.now c.args.reader shard c.loop-place.places.items c.args.self.now.links c.loop-place.place c.index-link.result.now below at _ own (c.loop-place.invariant.due shard there);
    }

pub returns-clause-due : goal.returns-clause-due
returns-clause-due g c = λ shard there.
    let past : c.loop-place.place ≡ c.own_places-first.result.1 = omega (arith, c.loop-place.invariant.most, c.loop-place-test.false) in
    let none : by_link c.args.reader (due c.args.self.now) (drop c.loop-place.place c.args.self.now.links) shard ≡ [] =
    ap (λ (place : ℕ). by_link c.args.reader (due c.args.self.now) (drop place c.args.self.now.links) shard) past
    ∙ others_due c.args.self.now c.args.reader shard (drop c.own_places-first.result.1 c.args.self.now.links) (c.own_places-first.ensures.back c.args.self.now c.requires.orderly.shaped) in
    sym (ap (λ (ms : List Message). flat_map (due c.args.self.now shard) (links_at c.loop-place.places.items c.args.self.now.links) ++ ms) none
    ∙ append-nil (flat_map (due c.args.self.now shard) (links_at c.loop-place.places.items c.args.self.now.links))) ∙ c.loop-place.invariant.due shard there
