use Rattle.std.proofs.Common.{sym, ap, ◌∙◌, subst, Result}
use Rattle.ndc_event.specs.Outcome.{Gives}
use Rattle.ndc_dump_causes.specs.Causes.{holds_of_none, is_split}
use Rattle.ndc_dump_causes.specs.declared.error.DumpError.{DumpError}
use Rattle.ndc_dump_causes.specs.declared.error.DumpError.TheVariants.{Memory}
use Rattle.ndc_dump_causes.specs.declared.error.KeyCause.TheVariants.{SplitVersion}
use Rattle.ndc_dump_causes.proofs.Chained.{first-split, refused_key}
use Rattle.ndc_dump_causes.proofs.sound.versions_are_chains.Goals as goal

pub returns-in-None : goal.returns-in-None
returns-in-None c = sym (first-split c.args.batches.now c.requires.read c.requires.formed) ∙ ap refused_key (sym c.in_ok-first_loose.ensures ∙ c.in-None.is)

pub returns-in-Some : goal.returns-in-Some
returns-in-Some c =
    subst (λ (r : Result (Unit {0}) DumpError). Gives Memory (λ (done : Unit {0}). done) r (holds_of_none SplitVersion (is_split c.args.batches.now) c.args.batches.now)) (sym c.refusal.ensures)
    (λ _. sym (first-split c.args.batches.now c.requires.read c.requires.formed) ∙ ap refused_key (sym c.in_ok-first_loose.ensures ∙ c.in-Some.is))
