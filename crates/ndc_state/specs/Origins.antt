-- Origins of signals.
use Rattle.std.specs.Prelude.{ℕ, Bool, ◌&&◌, ◌==◌, List, Option, Some, None, ◌++◌, [], ◌∷◌, if◌then◌else◌}
use Rattle.std.specs.List.{list_any}
use Rattle.ndc_event.specs.declared.key.Origin.{Origin}
use Rattle.ndc_event.specs.declared.key.RunId.{RunId}

-- whether two origins are one
abbrev pub same_origin : Origin → Origin → Bool
same_origin one two = (one.run.value == two.run.value) && (one.event == two.event) && (one.version == two.version)

-- whether the origin is among those listed
abbrev pub is_among : Origin → List Origin → Bool
is_among origin origins = list_any (same_origin origin) origins

-- the origin goes last, where it is not among those listed
abbrev pub with_origin : Origin → List Origin → List Origin
with_origin origin origins = if is_among origin origins then origins else origins ++ origin ∷ []

-- the origin of a signal event of a run: the one that a copy names, or the event itself
abbrev pub origin_of : RunId → ℕ → ℕ → Option Origin → Origin
origin_of run id version None = record { run = run; event = id; version = version }
origin_of run id version (Some origin) = origin
