use Rattle.std.proofs.Common.{◌≡◌, ◌<◌, ℕ, [], List, get_or, length, map, ap, sym, subst, ◌∙◌, arith}
use Rattle.std.proofs.lemmas.List.{get_or_read, length-set}
use Rattle.std.specs.List.{AllByRecursion}
use Rattle.ndc_model_cells.specs.Cells.{Cell}
use Rattle.ndc_model_cells.specs.Jobs.{cell_for}
use Rattle.ndc_model_cells.specs.declared.message.Message.{Message}
use Rattle.ndc_queue.specs.Queues.{QueueValue, queue_len}
use Rattle.ndc_model.specs.Queues.{Lane, after_renewal, new_lane}
use Rattle.ndc_model.specs.World.{Link}
use Rattle.ndc_cluster_links.proofs.DoneLemmas.{done_one, len_within}
use Rattle.ndc_cluster_links.proofs.IdleLemmas.{one_lane}
use Rattle.ndc_cluster_links.proofs.QuietLemmas.{flights_still}
use Rattle.ndc_cluster_links.proofs.RestLemmas.{cell_there, queue_there, rest_there}
use Rattle.ndc_cluster_links.specs.Rest.{AreDoneBut, AreWithin, lane_at, queue_at}
use Rattle.ndc_cluster_links.proofs.link.Link.renew_one.Goals as goal

pub invariant_of-self : goal.invariant_of-self
invariant_of-self g c =
    let lanes = c.self.inside.lanes.items in
    let new = c.renew-done.new.self in
    let same : c.args.self.now.lanes ≡ lanes = sym (ap (λ (link : Link). link.lanes) c.self.view_is) in
    let alike : length c.args.queues.now ≡ length lanes = c.requires.alike ∙ ap length same in
    let below : c.args.shard < length lanes = omega (arith, c.requires.shard, ap length same) in
    let queue : c.index-as_slice-shard.result ≡ queue_at c.args.queues.now c.args.shard =
    queue_there c.args.queues.now c.args.shard c.index-as_slice-shard.result (omega (arith, below, alike))
    (c.index-as_slice-shard.is ∙ ap (λ (queues : List QueueValue). get_or queues c.args.shard c.index-as_slice-shard.result) c.as_slice.ensures) in
    record {
      few = omega (arith, length-set lanes c.args.shard new, c.self.invariant.few);
      done = omega (
        arith,
        done_one c.args.queues.now lanes alike c.args.shard below (subst (AreDoneBut c.args.shard c.args.queues.now) same c.requires.others) new,
        len_within c.args.queues.now c.args.shard (omega (arith, below, alike)),
        c.renew-done.ensures.end,
        c.renew-done.ensures.done,
        c.written.ensures,
        c.len.ensures.len,
        ap queue_len queue,
      );
      quiet = λ known. subst (AllByRecursion (λ (flight : List Message). flight ≡ []))
          (sym (flights_still lanes c.args.shard c.index_mut-lane.result.now new c.index_mut-lane.ensures.value c.renew-done.ensures.flight)) (c.self.invariant.quiet known);
    }

pub returns : goal.returns
returns g c = λ whole rests.
    let lanes = c.self.inside.lanes.items in
    let new = c.renew-done.new.self in
    let same : c.args.self.now.lanes ≡ lanes = sym (ap (λ (link : Link). link.lanes) c.self.view_is) in
    let alike : length c.args.queues.now ≡ length lanes = c.requires.alike ∙ ap length same in
    let below : c.args.shard < length lanes = omega (arith, c.requires.shard, ap length same) in
    let at : c.index-as_slice-shard.result ≡ get_or c.args.queues.now c.args.shard c.index-as_slice-shard.result =
    c.index-as_slice-shard.is ∙ ap (λ (queues : List QueueValue). get_or queues c.args.shard c.index-as_slice-shard.result) c.as_slice.ensures in
    let lane : c.index_mut-lane.result.now ≡ lane_at lanes c.args.shard = get_or_read lanes c.args.shard c.index_mut-lane.result.now below c.index_mut-lane.ensures.value new_lane in
    let cells : ℕ → Cell = λ shard. cell_for shard (map g.C.Cell.cell c.args.cells.now) in
    let is : new ≡ after_renewal c.self.inside.reader c.args.table.now (cells c.args.shard) (whole c.args.shard) (lane_at lanes c.args.shard) =
    c.renew-done.ensures.renewed (whole c.args.shard) (rest_there c.args.queues.now whole c.args.shard c.index-as_slice-shard.result rests (omega (arith, below, alike)) at)
    ∙ ap (λ (cell : Cell). after_renewal c.self.inside.reader c.args.table.now cell (whole c.args.shard) c.index_mut-lane.result.now)
    (cell_there g.C.Cell.cell c.args.cells.now c.args.shard c.index-cells-shard.result (omega (arith, c.requires.shard, c.requires.cells)) c.index-cells-shard.is)
    ∙ ap (λ (one : Lane). after_renewal c.self.inside.reader c.args.table.now (cells c.args.shard) (whole c.args.shard) one) lane in
    rw (← c.self.view_is)
    (ap (λ (all : List Lane). record { reader = c.self.inside.reader; source = c.self.inside.source; lanes = all; late = c.self.inside.late.items })
    (one_lane c.self.inside.reader c.args.table.now cells c.args.queues.now whole lanes c.args.shard new alike below (subst (AreWithin c.args.queues.now) same c.requires.within) rests
    (subst (AreDoneBut c.args.shard c.args.queues.now) same c.requires.others) is))
