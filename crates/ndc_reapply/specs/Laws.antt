-- What strays are, and what applying signals again leaves of a state.
use Rattle.std.specs.Prelude.{◌≡◌, ◌+◌, ◌<◌, ℕ, Bool, true, not, ◌&&◌, IsTrue, IsSome, List, [], ◌∷◌, ◌++◌, length, Option, find}
use Rattle.std.specs.List.{list_all}
use Rattle.ndc_event.specs.declared.key.Origin.{Origin}
use Rattle.ndc_reapply.specs.declared.stray.Stray.{Stray}
use Rattle.ndc_reapply.specs.Reapplied.{reapplied}
use Rattle.ndc_reapply.specs.Strays.{origin_lt, origins_of}
use Rattle.ndc_state.specs.Origins.{same_origin, is_among}
use Rattle.ndc_state.specs.Value.{StateValue}

-- each origin comes before all that stand after it
abbrev pub rises : List Origin → Bool
rises [] = true
rises (origin ∷ origins) = list_all (origin_lt origin) origins && rises origins

-- the first of the signals that has this origin
abbrev pub signal_at : Origin → List Stray → Option Stray
signal_at origin signals = find (λ signal. same_origin origin signal.origin) signals

-- none of the origins is among those listed
abbrev pub are_unlisted : List Origin → List Origin → Bool
are_unlisted origins listed = list_all (λ origin. not (is_among origin listed)) origins

-- each origin of the first list is among those of the second
abbrev pub AreAmong : List Origin → List Origin → Type 0
AreAmong one two = (origin : Origin) → IsTrue (is_among origin one) → IsTrue (is_among origin two)

-- the run has seen an event and has not closed
abbrev pub IsOpen : StateValue → Type 0
IsOpen s = (1 < s.next) × IsTrue s.running

-- what signals applied again leave of a state: their origins go last, a decision is pending, and the rest is as it was
pub record IsReapplied (s : StateValue) (version : ℕ) (list : List Stray) (after : StateValue) : Type 0 where
  pub origins : after.origins ≡ s.origins ++ origins_of list
  pub pending : IsSome after.decision
  pub next : after.next ≡ s.next + length (reapplied s version list)
  pub rest : after ≡ record s { next = after.next; version = after.version; decision = after.decision; origins = after.origins }
