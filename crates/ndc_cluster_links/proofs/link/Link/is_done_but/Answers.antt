use Rattle.std.proofs.Common.{◌≡◌, ◌+◌, ◌-◌, ◌<◌, List, get_or, length, ap, sum_by, ◌∙◌, arith}
use Rattle.std.proofs.lemmas.Bool.{eqb-true}
use Rattle.std.proofs.lemmas.List.{get_or_read}
use Rattle.ndc_queue.specs.Levels.{LevelPair}
use Rattle.ndc_queue.specs.Queues.{QueueValue, queue_len}
use Rattle.ndc_model.specs.Queues.{Lane, new_lane}
use Rattle.ndc_model.specs.World.{Link}
use Rattle.ndc_cluster_links.proofs.DoneLemmas.{done-most, done_but}
use Rattle.ndc_cluster_links.proofs.RestLemmas.{queue_there}
use Rattle.ndc_cluster_links.specs.Links.{done_of}
use Rattle.ndc_cluster_links.specs.Rest.{lane_at, queue_at}
use Rattle.ndc_cluster_links.proofs.link.Link.is_done_but.Goals as goal

pub overflow_sub-result : goal.overflow_sub-result
overflow_sub-result c =
    let done : c.self.inside.done ≡ done_of c.args.self.now.lanes = c.self.invariant.done ∙ ap (λ (link : Link). done_of link.lanes) c.self.view_is in
    omega (arith, done, c.written.ensures, done-most c.args.queues.now c.args.self.now.lanes c.requires.alike c.requires.within)

-- as much is missing in this lane as in all of them
pub returns-clause-others : goal.returns-clause-others
returns-clause-others c = λ is.
    let lanes = c.args.self.now.lanes in
    let done : c.self.inside.done ≡ done_of lanes = c.self.invariant.done ∙ ap (λ (link : Link). done_of link.lanes) c.self.view_is in
    let below : c.args.shard < length lanes = omega (arith, c.if-len-shard.false, c.len.ensures, ap (λ (link : Link). length link.lanes) c.self.view_is) in
    let queue : c.index-as_slice-shard.result ≡ queue_at c.args.queues.now c.args.shard =
    queue_there c.args.queues.now c.args.shard c.index-as_slice-shard.result (omega (arith, below, c.requires.alike))
    (c.index-as_slice-shard.is ∙ ap (λ (queues : List QueueValue). get_or queues c.args.shard c.index-as_slice-shard.result) c.as_slice.ensures) in
    let lane : c.index.result.now ≡ lane_at lanes c.args.shard =
    get_or_read lanes c.args.shard c.index.result.now below (c.index.ensures ∙ ap (λ (link : Link). get_or link.lanes c.args.shard c.index.result.now) c.self.view_is) new_lane in
    let level : c.behind-index.inside.done ≡ (lane_at lanes c.args.shard).levels.done =
    ap (λ (levels : LevelPair). levels.done) (c.behind-index.view_is ∙ c.levels.ensures) ∙ ap (λ (one : Lane). one.levels.done) lane in
    let len : c.len-2.result ≡ queue_len (queue_at c.args.queues.now c.args.shard) = c.len-2.ensures.len ∙ ap queue_len queue in
    let missing : done_of lanes + queue_len (queue_at c.args.queues.now c.args.shard) ≡ sum_by queue_len c.args.queues.now + (lane_at lanes c.args.shard).levels.done =
    omega (
      arith,
      eqb-true (c.written.result - c.self.inside.done) (c.len-2.result - c.behind-index.inside.done) is,
      done,
      c.written.ensures,
      len,
      level,
      done-most c.args.queues.now lanes c.requires.alike c.requires.within,
      (c.requires.within c.args.shard below).done_most,
      (c.requires.within c.args.shard below).read_most,
    ) in
    done_but c.args.queues.now lanes c.requires.alike c.requires.within c.args.shard below missing
