-- The run of a script: what is written, and why it ends with a fault.
use Rattle.std.specs.Prelude.{◌≡◌, ◌⊎◌, ℕ, ◌<◌, ◌≤◌, ⊤, false, IsOkAnd, IfSome, length, Some, List, [], ◌++◌, Option, Err}
use Rattle.ndc_script_types.specs.declared.script.ScriptError.{ScriptError}
use Rattle.ndc_script_types.specs.declared.script.ScriptError.TheVariants.{Refused, Memory}
use Rattle.ndc_event.specs.declared.name.Name.{Name}
use Rattle.ndc_index.specs.Seats.{IndexerValue, all_known}
use Rattle.ndc_port.specs.Fault.{Rose}
use Rattle.ndc_laws_program.specs.Promises.{KeepsPromises}
use Rattle.ndc_script_read.specs.Body.{script_of}
use Rattle.ndc_world.specs.Seats.{Reports, ReportsFront}
use Rattle.ndc_dump.specs.Input.{most_bytes}
use Rattle.ndc_dump.specs.Telling.{Streams, Tells}
use Rattle.ndc_tool_top.specs.Top.{script_line}
use Rattle.ndc_tool_top.specs.declared.fault.Fault.{Fault}
use Rattle.ndc_tool_top.specs.declared.fault.Fault.TheVariants as fault

-- all was read, it was a script, its report was written whole, and what is promised of every script holds of it
abbrev pub Succeeds : List IndexerValue → List Name → List Name → Option (List ℕ) → Option (List ℕ) → Option (List ℕ) → Option (List ℕ) → Type 0
Succeeds all index late left rest before after =
    IfSome left (λ bytes. (length bytes ≤ most_bytes) × (rest ≡ Some []) × IsOkAnd (script_of bytes) (λ script. Reports script all index late before after × KeepsPromises script))

-- a script was read, a prefix of its report was written, and what is promised of every script holds of it
abbrev pub StopsWithin : List IndexerValue → List Name → List Name → Option (List ℕ) → Option (List ℕ) → Option (List ℕ) → Type 0
StopsWithin all index late left before after =
    IfSome left (λ bytes. (length bytes ≤ most_bytes) × IsOkAnd (script_of bytes) (λ script. ReportsFront script all index late before after × KeepsPromises script))

-- nothing was written, or a script was read, a prefix of its report was written, and what is promised holds of it
abbrev pub FrontOfReport : List IndexerValue → List Name → List Name → Option (List ℕ) → Option (List ℕ) → Option (List ℕ) → Type 0
FrontOfReport all index late left before after = (after ≡ before) ⊎ StopsWithin all index late left before after

-- why reading a script ends with a fault
abbrev pub ReadFault : Option (List ℕ) → ℕ → ℕ → Fault → Type 0
ReadFault left before after fault.Words = ⊥
ReadFault left before after (fault.Script line cause) = IfSome left (λ bytes. (length bytes ≤ most_bytes) × (script_of bytes ≡ Err (Refused line cause)))
ReadFault left before after (fault.DumpLine line cause) = ⊥
ReadFault left before after (fault.DumpBatch key cause) = ⊥
ReadFault left before after fault.Read = Rose before after
ReadFault left before after fault.Write = ⊥
ReadFault left before after fault.Limit = IfSome left (λ bytes. most_bytes < length bytes)
ReadFault left before after fault.Memory = ⊤

-- why a run ends with a fault, between what was there and what is there
abbrev pub RunFault : List IndexerValue → List Name → List Name → Streams → Streams → Fault → Type 0
RunFault all index late old new fault.Words = (all_known all (index ++ late) ≡ false) × (new.written ≡ old.written)
RunFault all index late old new (fault.Script line cause) =
    ReadFault old.left old.source_faults new.source_faults (fault.Script line cause) × (new.written ≡ old.written)
RunFault all index late old new (fault.DumpLine line cause) = ⊥
RunFault all index late old new (fault.DumpBatch key cause) = ⊥
RunFault all index late old new fault.Read = Rose old.source_faults new.source_faults × (new.written ≡ old.written)
RunFault all index late old new fault.Write = Rose old.out_faults new.out_faults × StopsWithin all index late old.left old.written new.written
RunFault all index late old new fault.Limit = IfSome old.left (λ bytes. most_bytes < length bytes) × (new.written ≡ old.written)
RunFault all index late old new fault.Memory = FrontOfReport all index late old.left old.written new.written

-- the line on a faulty script was written, or a prefix of it and a fault came
abbrev pub TellsError : Option (List ℕ) → Option (List ℕ) → ℕ → ℕ → ScriptError → Type 0
TellsError before after faults_before faults_after (Refused line cause) = Tells before after faults_before faults_after (script_line line cause)
TellsError before after faults_before faults_after Memory = ⊥
