-- How what is wrong with a dump is printed.
use Rattle.std.specs.Prelude.{ℕ, List, [], ◌∷◌, codes, decimal}
use Rattle.std.specs.List.{concat}
use Rattle.ndc_event.specs.declared.batch.BatchFault.{BatchFault}
use Rattle.ndc_event.specs.declared.batch.BatchFault.TheVariants as fault
use Rattle.ndc_event.specs.declared.key.BatchKey.{BatchKey}
use Rattle.ndc_dump_causes.specs.declared.error.KeyCause.{KeyCause}
use Rattle.ndc_dump_causes.specs.declared.error.KeyCause.TheVariants as unfit
use Rattle.ndc_dump_causes.specs.declared.error.LineCause.{LineCause}
use Rattle.ndc_dump_causes.specs.declared.error.LineCause.TheVariants as cause

-- how a fault of a batch by itself is printed
abbrev pub batch_fault_name : BatchFault → List ℕ
batch_fault_name fault.NoEvents = codes "NoEvents"
batch_fault_name fault.IdsNotConsecutive = codes "IdsNotConsecutive"
batch_fault_name fault.MixedVersions = codes "MixedVersions"
batch_fault_name fault.BadFirst = codes "BadFirst"
batch_fault_name fault.BadParent = codes "BadParent"
batch_fault_name fault.BadCarrier = codes "BadCarrier"

-- how a cause of a faulty line of a dump is printed
abbrev pub line_cause_name : LineCause → List ℕ
line_cause_name cause.BadFrame = codes "BadFrame"
line_cause_name cause.NotJson = codes "NotJson"
line_cause_name cause.MissingKey = codes "MissingKey"
line_cause_name cause.ExtraKey = codes "ExtraKey"
line_cause_name cause.WrongKind = codes "WrongKind"
line_cause_name cause.Range = codes "Range"
line_cause_name cause.NotCanonical = codes "NotCanonical"
line_cause_name (cause.Check fault) = batch_fault_name fault
line_cause_name cause.Foreign = codes "Foreign"
line_cause_name cause.SameKey = codes "SameKey"
line_cause_name cause.BadOrder = codes "BadOrder"
line_cause_name cause.BadView = codes "BadView"

-- how a cause of a batch that does not fit the others is printed
abbrev pub key_cause_name : KeyCause → List ℕ
key_cause_name unfit.MissingParent = codes "MissingParent"
key_cause_name unfit.NotWellFormed = codes "NotWellFormed"
key_cause_name unfit.SplitVersion = codes "SplitVersion"
key_cause_name unfit.OriginTwice = codes "OriginTwice"
key_cause_name unfit.OriginUnfit = codes "OriginUnfit"
key_cause_name unfit.BadReplay = codes "BadReplay"
key_cause_name unfit.CarrierUnfit = codes "CarrierUnfit"

-- the line by which the program of this name tells of a faulty line of a dump
abbrev pub dump_line : List ℕ → ℕ → LineCause → List ℕ
dump_line program line cause = concat (program ∷ codes ": dump line " ∷ decimal line ∷ codes ": " ∷ line_cause_name cause ∷ codes "\n" ∷ [])

-- the line by which it tells of a batch that does not fit the others
abbrev pub dump_batch_line : List ℕ → BatchKey → KeyCause → List ℕ
dump_batch_line program key cause =
    concat (program ∷ codes ": dump batch " ∷ decimal key.version ∷ codes "." ∷ decimal key.task ∷ codes ": " ∷ key_cause_name cause ∷ codes "\n" ∷ [])
