-- Which of two paths is the current one, and which is held beside it.
use Rattle.std.specs.Prelude.{Option, Some, None, if◌then◌else◌}
use Rattle.ndc_event.specs.Key.{key_lt}
use Rattle.ndc_event.specs.declared.key.BatchKey.{BatchKey}
use Rattle.ndc_state.specs.Value.{StateValue}
use Rattle.ndc_run.specs.declared.run.Branch.{Branch}

-- the state of the path with the later last key: of this one, or of the one with this tip
abbrev pub leading_of : BatchKey → Option BatchKey → StateValue → StateValue → StateValue
leading_of key None state current = current
leading_of key (Some tip) state current = if key_lt tip key then state else current

-- the path with the earlier last key, and its state
abbrev pub beside_of : BatchKey → Option BatchKey → StateValue → StateValue → Branch
beside_of key None state current = record { tip = key; state = state }
beside_of key (Some tip) state current = if key_lt tip key then record { tip = tip; state = current } else record { tip = key; state = state }
