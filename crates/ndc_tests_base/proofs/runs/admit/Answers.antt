use Rattle.std.proofs.Common.{◌≡◌, false, ◌∙◌, sym}
use Rattle.std.specs.Option.{option_copied}
use Rattle.ndc_tests_base.proofs.FirstLemmas.{comes-next, none-of}
use Rattle.ndc_tests_base.proofs.runs.admit.Goals as goal

pub admit-requires-clause-next : goal.admit-requires-clause-next
admit-requires-clause-next c =
    comes-next c.args.runs.now c.args.batch.now c.requires.faultless (none-of c.args.batch.now.carrier (sym c.is_some.ensures ∙ c.if-is_some.false)) (sym c.has.ensures ∙ c.if-has.false)
    (sym c.is_reached.ensures ∙ c.if-not-is_reached.false)

pub admit-requires-clause-lone : goal.admit-requires-clause-lone
admit-requires-clause-lone c = none-of c.args.batch.now.carrier (sym c.is_some.ensures ∙ c.if-is_some.false)
