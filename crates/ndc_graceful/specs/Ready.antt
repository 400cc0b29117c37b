-- What keeps a handover from its end.
use Rattle.std.specs.Prelude.{ℕ, ◌+◌, Bool, nat_lt, List, [], ◌∷◌, Option, Some, None, Result, Ok, Err, if◌then◌else◌}
use Rattle.ndc_domain.specs.Records.{record_of}
use Rattle.ndc_domain.specs.declared.record.DomainRecord.{DomainRecord}
use Rattle.ndc_graceful.specs.declared.handover.Handover.{Handover}
use Rattle.ndc_graceful.specs.declared.handover.ReadyError.{ReadyError}
use Rattle.ndc_graceful.specs.declared.handover.ReadyError.TheVariants.{BootstrapDue, NotYet, Overtaken}
use Rattle.ndc_queue.specs.Levels.{LevelPair}

-- the version of a record that is not below another one, where there is such a record
abbrev pub not_below : ℕ → Option DomainRecord → Option ℕ
not_below new None = None
not_below new (Some one) = if nat_lt one.version new then None else Some one.version

-- the first shard, counted on, that is not done up to its place, with both numbers
abbrev pub lagging_from : ℕ → List ℕ → List LevelPair → Result (Unit {0}) ReadyError
lagging_from shard [] lanes = Ok tt
lagging_from shard (place ∷ places) [] = Ok tt
lagging_from shard (place ∷ places) (levels ∷ lanes) =
    if nat_lt levels.done place then Err (NotYet shard levels.done place) else lagging_from (shard + 1) places lanes

-- a handover is ready where nothing is to be brought and no shard lags, if the target's record has not come to the new version
abbrev pub ready_unless : Option ℕ → Bool → List ℕ → List LevelPair → Result (Unit {0}) ReadyError
ready_unless (Some version) late places lanes = Err (Overtaken version)
ready_unless None late places lanes = if late then Err BootstrapDue else lagging_from 0 places lanes

-- whether a handover is ready to be completed, by the target's levels, whether it is late, and its table; or what keeps it
unfoldable pub ready_of : Handover → List LevelPair → Bool → List DomainRecord → Result (Unit {0}) ReadyError
ready_of handover lanes late table = ready_unless (not_below handover.new (record_of table handover.domain)) late handover.places lanes
