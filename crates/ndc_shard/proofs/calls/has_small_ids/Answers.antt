use Rattle.std.proofs.Common.{◌∙◌, ap, sym, Some}
use Rattle.std.specs.Option.{option_copied}
use Rattle.std.specs.Prelude.{◌^◌, nat_le}
use Rattle.std.specs.List.{list_all}
use Rattle.ndc_event.specs.declared.batch.Batch.{Batch}
use Rattle.ndc_shard.proofs.TryLemmas.{first-large, second-large}
use Rattle.ndc_shard.proofs.calls.has_small_ids.Goals as goal

pub returns-then-not-are_small-clause-none : goal.returns-then-not-are_small-clause-none
returns-then-not-are_small-clause-none c = λ _.
    first-large c.args.entry.now c.are_small.result (c.are_small.ensures ∙ ap (λ (b : Batch). list_all (λ event. nat_le event.id (10 ^ 12)) b.events) c.batch.ensures) c.if-not-are_small.true

pub returns-in-Some-clause-none : goal.returns-in-Some-clause-none
returns-in-Some-clause-none c =
    second-large c.args.entry.now c.are_small.result (c.are_small.ensures ∙ ap (λ (b : Batch). list_all (λ event. nat_le event.id (10 ^ 12)) b.events) c.batch.ensures) c.if-not-are_small.false
    c.in-Some.second.now (sym c.second.ensures ∙ ap option_copied c.in-Some.is) c.are_small-in-Some.result c.are_small-in-Some.ensures
