use Rattle.std.proofs.Common.{◌∙◌, ap, sym, arith}
use Rattle.std.specs.Prelude.{is_some}
use Rattle.ndc_shard_runs.proofs.StrayLemmas.{seen-at, seen-first}
use Rattle.ndc_shard_runs.proofs.stray.place_of.Goals as goal

pub returns-then-has_origin : goal.returns-then-has_origin
returns-then-has_origin c =
    sym (seen-at (λ s. s.now) c.args.states.now c.args.origin c.args.hint c.index-states-hint.result (omega (arith, c.if-hint-states.true)) c.index-states-hint.is (sym c.if-has_origin.ensures))

pub returns : goal.returns
returns c = ap is_some c.first_place.ensures ∙ seen-first (λ s. s.now) c.args.states.now c.args.origin
