use Rattle.std.proofs.Common.{◌==◌, map, ap, ◌∙◌}
use Rattle.std.specs.List.{slice_split}
use Rattle.ndc_dump.proofs.Words.{heading-from}
use Rattle.ndc_dump.proofs.frame.heading_on.Goals as goal

pub returns : goal.returns
returns c =
    heading-from c.heading_in.result (map (λ word. word.now) c.as_slice.result.now) (slice_split (λ byte. byte == 32) c.args.line.now)
    (ap (map (λ word. word.now)) c.as_slice.ensures.value ∙ c.in_ok-words.ensures) c.heading_in.ensures
