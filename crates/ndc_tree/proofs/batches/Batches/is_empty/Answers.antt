use Rattle.std.proofs.Common.{◌∙◌, ap, sym, length, ◌==◌}
use Rattle.ndc_tree.specs.declared.batches.Segment.{Segment}
use Rattle.std.proofs.Common.{List}
use Rattle.ndc_model_sets.specs.Last.{is_nil}
use Rattle.ndc_tree.proofs.SegmentLemmas.{flat-nil}
use Rattle.ndc_tree.proofs.batches.Batches.is_empty.Goals as goal

pub returns : goal.returns
returns c =
    c.is_empty.ensures ∙ ap (λ (l : List Segment). length l == 0) c.as_slice.ensures.value
    ∙ sym (flat-nil c.self.inside.segments.items c.self.invariant.1) ∙ ap is_nil c.self.view_is
