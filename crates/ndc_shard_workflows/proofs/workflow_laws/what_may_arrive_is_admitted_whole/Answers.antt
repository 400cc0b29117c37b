use Rattle.ndc_shard_workflows.proofs.HonestLemmas.{all-settle, new-fits}
use Rattle.ndc_shard_workflows.proofs.workflow_laws.what_may_arrive_is_admitted_whole.Goals as goal

pub returns-clause-fits : goal.returns-clause-fits
returns-clause-fits c = λ known waiting new are message fresh reached own ids sound after lone lones small task tasks all all_sound within told histories.
    new-fits known waiting are new message fresh reached own ids sound after lone lones small task tasks all all_sound within told histories

pub returns-clause-settled : goal.returns-clause-settled
returns-clause-settled c = λ known waiting new are message fresh reached own ids sound after lone lones small task tasks all all_sound within told histories.
    all-settle known waiting are new message fresh reached own ids sound after lone lones small task tasks all all_sound within told histories
