use Rattle.ndc_laws_reached.proofs.LaneLaws.{renewed_kept, rewound_kept, trimmed_kept}
use Rattle.ndc_laws_reached.proofs.lane_laws.changes_of_levels_keep_worlds_reached.Goals as goal

pub returns-clause-renewed : goal.returns-clause-renewed
returns-clause-renewed c = renewed_kept

pub returns-clause-rewound : goal.returns-clause-rewound
returns-clause-rewound c = rewound_kept

pub returns-clause-trimmed : goal.returns-clause-trimmed
returns-clause-trimmed c = trimmed_kept
