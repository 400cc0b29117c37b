use Rattle.std.proofs.Common.{◌∙◌, ap, sym, length, slice_get, ◌-◌, List}
use Rattle.ndc_model_sets.specs.Last.{last_batch}
use Rattle.ndc_tree.specs.declared.batches.Segment.{Segment}
use Rattle.ndc_tree.proofs.SegmentLemmas.{flat-last}
use Rattle.ndc_tree.proofs.batches.Batches.last.Goals as goal

pub returns : goal.returns
returns c =
    c.last-2.ensures
    ∙ sym (flat-last c.self.inside.segments.items c.in_ok-segment.segment.now c.self.invariant.1
    (ap (λ (l : List Segment). slice_get l (length l - 1)) (sym c.deref.ensures.value) ∙ sym c.in_ok-segment.ensures.value))
    ∙ ap last_batch c.self.view_is
