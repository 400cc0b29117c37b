use Rattle.ndc_laws.proofs.DamageLemmas.{letters-alone, purge-alone}
use Rattle.ndc_laws.proofs.letter_laws.purging_changes_letters_alone.Goals as goal

pub returns-clause-purge : goal.returns-clause-purge
returns-clause-purge c = purge-alone

pub returns-clause-letters : goal.returns-clause-letters
returns-clause-letters c = letters-alone
