use Rattle.std.proofs.Common.{◌≡◌, ◌++◌, drop}
use Rattle.std.specs.List.{flat_map}
use Rattle.ndc_explain.specs.Signals.{signal_line}
use Rattle.ndc_explain.proofs.signals.push_fates.Given as goal

-- the text so far, with what is left, is the whole
abbrev pub invariant-loop-signal : goal.invariant-loop-signal
invariant-loop-signal l = l.text.items ++ flat_map (signal_line l.clusters l.workflow l.is_open l.known) (drop l.signal-index l.signals)
    ≡ l.initial.text.items ++ flat_map (signal_line l.clusters l.workflow l.is_open l.known) l.signals
