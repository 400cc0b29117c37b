use Rattle.ndc_laws_jobs.proofs.AuthorLemmas.{author-learned}
use Rattle.ndc_laws_jobs.proofs.author_laws.authors_have_learned_what_was_written.Goals as goal
use Rattle.ndc_model.specs.Moves.{all_written}
use Rattle.ndc_model.proofs.ListLemmas.{is-among}

pub returns : goal.returns
returns c = λ header lines w shard b is below among. author-learned header lines w is shard below b (is-among (all_written header shard w) b among)
