-- The end of a path that begins after an id, as one goes up to its first batch.
use Rattle.std.specs.Prelude.{ℕ, nat_lt, Option, Some, None, if◌then◌else◌}
use Rattle.ndc_event.specs.declared.batch.Batch.{Batch}
use Rattle.ndc_model_sets.specs.Paths.{first_id}

-- a batch, where it begins after an id
abbrev pub behind : ℕ → Option Batch → Option Batch
behind id None = None
behind id (Some b) = if nat_lt id (first_id b.events) then Some b else None
