-- What replay keeps.
use Rattle.std.specs.Prelude.{◌≡◌, ◌≢◌, ◌+◌, ◌&&◌, nat_lt, is_none, length, List, IsTrue, AllPairs}
use Rattle.ndc_event.specs.declared.batch.Event.{Event}
use Rattle.ndc_event.specs.declared.key.Origin.{Origin}
use Rattle.ndc_event.specs.Batch.{follow_from}
use Rattle.ndc_state.specs.Value.{StateValue}

-- the run is open exactly where it has seen an event and has not closed
abbrev pub IsOpenFit : StateValue → Type 0
IsOpenFit s = s.running ≡ (nat_lt 1 s.next && is_none s.close)

-- the events have the ids 1, 2, 3 and so on, and the next id is one more than there are
abbrev pub CountsFromOne : List Event → StateValue → Type 0
CountsFromOne events s = IsTrue (follow_from 0 events) × (s.next ≡ length events + 1)

-- no origin stands twice
abbrev pub AreApart : List Origin → Type 0
AreApart origins = AllPairs (λ one two. one ≢ two) origins
