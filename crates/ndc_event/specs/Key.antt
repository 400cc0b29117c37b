-- Keys of batches and ids of runs.
use Rattle.std.specs.Prelude.{ℕ, ◌+◌, ◌*◌, ◌^◌, ◌%◌, Bool, ◌||◌, ◌&&◌, ◌==◌, nat_lt, List}
use Rattle.std.specs.Int.{w128, to_be_bytes}
use Rattle.uuid.specs.Text.{hyphenated_text, lower}
use Rattle.ndc_event.specs.declared.key.BatchKey.{BatchKey}
use Rattle.ndc_event.specs.declared.key.RunId.{RunId}
use Rattle.ndc_event.specs.declared.key.Origin.{Origin}

-- the first key comes before the second: by version, then by task
abbrev pub key_lt : BatchKey → BatchKey → Bool
key_lt one two = nat_lt one.version two.version || (one.version == two.version) && nat_lt one.task two.task

-- the two keys are one
abbrev pub key_eq : BatchKey → BatchKey → Bool
key_eq one two = (one.version == two.version) && (one.task == two.task)

-- the run whose first batch has this key
abbrev pub run_of : BatchKey → RunId
run_of key = record { value = key.version * 2 ^ 64 + key.task }

-- how a run id is printed: hyphenated, in lower case
abbrev pub run_text : RunId → List ℕ
run_text run = hyphenated_text lower (to_be_bytes w128 run.value)

-- one number of all that an origin is, by which it is hashed
abbrev pub mixed : Origin → ℕ
mixed origin = ((((origin.event * 11400714819323198485) % 2 ^ 64) + origin.run.value % 2 ^ 64) % 2 ^ 64 + (origin.version * 14029467366897019727) % 2 ^ 64) % 2 ^ 64
