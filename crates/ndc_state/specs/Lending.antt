-- What a state is once its loan with a mark has ended.
use Rattle.std.specs.Borrow.{Lends, MutBor, Fml}
use Rattle.ndc_state.specs.contracts.state.State.{the_row as state_row}
use Rattle.ndc_state.specs.contracts.tracked.Tracked.{the_row as tracked_row}
use Rattle.ndc_state.specs.Marked.{Marked}
use Rattle.ndc_state.specs.Value.{StateValue}

-- the state ends as the lent one is left
abbrev pub LendsTracked : MutBor StateValue → MutBor (Marked StateValue) → Fml
LendsTracked s r = Lends state_row tracked_row s r (λ left. left.current)
