-- What is written where signals are applied again.
use Rattle.std.specs.Prelude.{ℕ, ◌++◌, List, map, Some}
use Rattle.ndc_event.specs.declared.kind.EventKind.{EventKind}
use Rattle.ndc_event.specs.declared.kind.EventKind.TheVariants.{WorkflowExecutionSignaled}
use Rattle.ndc_reapply.specs.declared.stray.Stray.{Stray}
use Rattle.ndc_state.specs.Value.{StateValue}
use Rattle.ndc_state.specs.Written.{failover_close, wake}

-- a copy of a signal, which names its origin
abbrev pub copy_of : Stray → EventKind
copy_of stray = WorkflowExecutionSignaled stray.name stray.input (Some stray.origin)

-- the failover close where it is due, a copy of each signal, and a decision where none is pending
unfoldable pub reapplied : StateValue → ℕ → List Stray → List EventKind
reapplied s version list = failover_close s version ++ map copy_of list ++ wake s
