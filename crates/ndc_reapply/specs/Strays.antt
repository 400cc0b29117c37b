-- Signals whose origins are not settled, in order.
use Rattle.std.specs.Prelude.{Bool, ◌||◌, ◌&&◌, ◌==◌, nat_lt, List, [], ◌∷◌, map, if◌then◌else◌}
use Rattle.ndc_event.specs.declared.key.Origin.{Origin}
use Rattle.ndc_reapply.specs.declared.stray.Stray.{Stray}
use Rattle.ndc_state.specs.Origins.{is_among}

-- the first origin comes before the second: by version, then by event, then by run
abbrev pub origin_lt : Origin → Origin → Bool
origin_lt one two =
    nat_lt one.version two.version
    || (one.version == two.version) && (nat_lt one.event two.event || (one.event == two.event) && nat_lt one.run.value two.run.value)

-- the origins of signals
abbrev pub origins_of : List Stray → List Origin
origins_of signals = map (λ signal. signal.origin) signals

-- the signal goes to its place by origin, instead of one that has its origin
abbrev pub with_stray : Stray → List Stray → List Stray
with_stray signal [] = signal ∷ []
with_stray signal (first ∷ others) =
    if origin_lt signal.origin first.origin then signal ∷ first ∷ others
    else if origin_lt first.origin signal.origin then first ∷ with_stray signal others
    else signal ∷ others

-- each origin of the signals that is not settled, once and in order: of two signals with one origin the first counts
abbrev pub strays_of : List Stray → List Origin → List Stray
strays_of [] settled = []
strays_of (signal ∷ signals) settled =
    if is_among signal.origin settled then strays_of signals settled else with_stray signal (strays_of signals settled)
