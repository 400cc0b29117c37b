use Rattle.std.proofs.Common.{◌∙◌, ap, length, slice_get, ◌-◌, List}
use Rattle.ndc_event.specs.declared.batch.Batch.{Batch}
use Rattle.ndc_tree.proofs.SegmentLemmas.{last-at}
use Rattle.ndc_tree.proofs.chain.Chain.last.Goals as goal

pub returns : goal.returns
returns c =
    c.last.ensures.value ∙ ap (λ (l : List Batch). slice_get l (length l - 1)) (c.deref.ensures.value ∙ c.self.view_is) ∙ last-at c.args.self.now
