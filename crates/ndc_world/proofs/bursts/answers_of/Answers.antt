use Rattle.std.proofs.Common.{List, ℕ, ◌++◌, append-nil, ap, sym, ◌∙◌, arith}
use Rattle.ndc_world.proofs.BurstLemmas.{no_more_text}
use Rattle.ndc_world.proofs.bursts.answers_of.Goals as goal

pub returns-then-replies-place : goal.returns-then-replies-place
returns-then-replies-place c =
    sym (append-nil c.loop-place.text.items)
    ∙ ap (λ (l : List ℕ). c.loop-place.text.items ++ l) (sym (no_more_text c.args.burst.now c.args.replies.now c.loop-place.place (omega arith)))
    ∙ c.loop-place.invariant
