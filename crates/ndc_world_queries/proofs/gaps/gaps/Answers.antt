use Rattle.std.proofs.Common.{List, [], ◌∷◌, ◌++◌, ap, decimal, length, ◌∙◌}
use Rattle.std.specs.List.{flat_map}
use Rattle.ndc_model.specs.Texts.{ok}
use Rattle.ndc_resend.specs.declared.asking.GapOf.{GapOf}
use Rattle.ndc_world_answers.specs.Gaps.{gap_text}
use Rattle.ndc_world_queries.proofs.GapLemmas.{gaps_are}
use Rattle.ndc_world_queries.proofs.gaps.gaps.Goals as goal

pub returns : goal.returns
returns g c =
    gaps_are c.args.header.now c.args.replication.now c.requires.reached c.args.cluster c.requires.cluster c.in_ok-gaps.gaps.items c.in_ok-text.text c.in_ok-gaps.ensures
    (c.in_ok-text.ensures ∙ ap (λ (l : List GapOf). ok (decimal (length l) ∷ []) ++ flat_map gap_text l) c.as_slice.ensures.value)
