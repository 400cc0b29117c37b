use Rattle.std.proofs.Common.{◌≡◌, OnOk, OnErr, set, subst, refl, List}
use Rattle.ndc_event.specs.declared.batch.Batch.{Batch}
use Rattle.ndc_model_sets.specs.Sets.{arrived}
use Rattle.ndc_tree.specs.Segments.{against, flat}
use Rattle.ndc_tree.specs.declared.batches.Segment.{Segment}
use Rattle.ndc_event.specs.Sorted.{Hits, Parts}
use Rattle.ndc_tree.proofs.SegmentLemmas.{put-are, put-ok, put-err, begun-are, begun-ok, with_chain}
use Rattle.ndc_tree.proofs.batches.Batches.insert.Goals as goal

pub invariant_of-self : goal.invariant_of-self
invariant_of-self c =
    let segments = c.self.inside.segments.items in
    put-are c.args.batch segments c.in-Ok.place c.index_mut.result.now c.insert.new.self c.self.invariant
    (subst (λ (l : List Segment). Hits (against c.args.batch.key.version) l c.in-Ok.place) c.as_slice.ensures.value c.in-Ok.ensures.found) c.index_mut.ensures.value
    c.insert.result c.insert.ensures.ok c.insert.ensures.err

pub invariant_of-self-in-Err : goal.invariant_of-self-in-Err
invariant_of-self-in-Err c =
    let segments = c.self.inside.segments.items in
    begun-are c.args.batch segments c.put.new.items.items c.in-Err.place (record { version = c.args.batch.key.version; chain = c.in_ok-chain-in-Err.chain }) c.self.invariant
    (subst (λ (l : List Segment). Parts (against c.args.batch.key.version) l c.in-Err.place) c.as_slice.ensures.value c.in-Err.ensures.absent) refl c.in_ok-chain-in-Err.ensures
    c.put.result c.put.ensures.ok c.put.ensures.err

pub returns-in-Ok-clause-ok : goal.returns-in-Ok-clause-ok
returns-in-Ok-clause-ok c =
    let segments = c.self.inside.segments.items in
    subst (λ (l : List Batch). OnOk c.insert.result (flat (set segments c.in-Ok.place (with_chain c.index_mut.result.now c.insert.new.self)) ≡ arrived c.args.batch l)) c.self.view_is
    (put-ok c.args.batch segments c.in-Ok.place c.index_mut.result.now c.insert.new.self c.self.invariant
    (subst (λ (l : List Segment). Hits (against c.args.batch.key.version) l c.in-Ok.place) c.as_slice.ensures.value c.in-Ok.ensures.found) c.index_mut.ensures.value
    c.insert.result c.insert.ensures.ok)

pub returns-in-Ok-clause-err : goal.returns-in-Ok-clause-err
returns-in-Ok-clause-err c =
    let segments = c.self.inside.segments.items in
    subst (λ (l : List Batch). OnErr c.insert.result (flat (set segments c.in-Ok.place (with_chain c.index_mut.result.now c.insert.new.self)) ≡ l)) c.self.view_is
    (put-err c.args.batch segments c.in-Ok.place c.index_mut.result.now c.insert.new.self c.self.invariant
    (subst (λ (l : List Segment). Hits (against c.args.batch.key.version) l c.in-Ok.place) c.as_slice.ensures.value c.in-Ok.ensures.found) c.index_mut.ensures.value
    c.insert.result c.insert.ensures.err)

pub returns-in_ok-chain-in-Err-clause-ok : goal.returns-in_ok-chain-in-Err-clause-ok
returns-in_ok-chain-in-Err-clause-ok c =
    let segments = c.self.inside.segments.items in
    subst (λ (l : List Batch). OnOk c.put.result (flat c.put.new.items.items ≡ arrived c.args.batch l)) c.self.view_is
    (begun-ok c.args.batch segments c.put.new.items.items c.in-Err.place (record { version = c.args.batch.key.version; chain = c.in_ok-chain-in-Err.chain }) c.self.invariant
    (subst (λ (l : List Segment). Parts (against c.args.batch.key.version) l c.in-Err.place) c.as_slice.ensures.value c.in-Err.ensures.absent) refl c.in_ok-chain-in-Err.ensures
    c.put.result c.put.ensures.ok)
