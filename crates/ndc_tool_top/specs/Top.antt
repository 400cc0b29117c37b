-- The program as a whole: the faults that end it, and what it tells of them.
use Rattle.std.specs.Prelude.{◌≡◌, ℕ, ◌+◌, IfSome, Some, None, ◌==◌, drop, List, [], ◌∷◌, Option, codes, decimal, if◌then◌else◌}
use Rattle.std.specs.List.{concat}
use Rattle.ndc_script_types.specs.declared.script.ScriptCause.{ScriptCause}
use Rattle.ndc_script_types.specs.declared.script.ScriptCause.TheVariants.{BadHeader, IncrementLimit, NoClusters, TooMany, SameName, SameInitial, NotBelowIncrement, BadLine, UnknownName, LineLimit}
use Rattle.ndc_dump_causes.specs.declared.error.DumpError.{DumpError}
use Rattle.ndc_dump.specs.Faults.{dump_batch_line, dump_line}
use Rattle.ndc_dump.specs.Input.{most_bytes}
use Rattle.ndc_dump.specs.Telling.{IsAmong, Tells, TellsErrorAs}
use Rattle.ndc_dump.specs.declared.input.InputFault.{InputFault}
use Rattle.ndc_dump.specs.declared.input.InputFault.TheVariants as input
use Rattle.ndc_port.specs.Bytes.{ConsumesAtMost}
use Rattle.ndc_tool_top.specs.declared.fault.Fault.{Fault}
use Rattle.ndc_tool_top.specs.declared.fault.Fault.TheVariants as fault

-- how a cause of a faulty script is printed
abbrev pub script_cause_name : ScriptCause → List ℕ
script_cause_name BadHeader = codes "BadHeader"
script_cause_name IncrementLimit = codes "IncrementLimit"
script_cause_name NoClusters = codes "NoClusters"
script_cause_name TooMany = codes "TooMany"
script_cause_name SameName = codes "SameName"
script_cause_name SameInitial = codes "SameInitial"
script_cause_name NotBelowIncrement = codes "NotBelowIncrement"
script_cause_name BadLine = codes "BadLine"
script_cause_name UnknownName = codes "UnknownName"
script_cause_name LineLimit = codes "LineLimit"

-- the fault that ends the program where no dump was read from its input
abbrev pub of_input : InputFault → Fault
of_input input.Read = fault.Read
of_input input.Limit = fault.Limit
of_input (input.Line line cause) = fault.DumpLine line cause
of_input (input.Key key cause) = fault.DumpBatch key cause
of_input input.Memory = fault.Memory

-- the status that the program ends with after a fault
abbrev pub status_of : Fault → ℕ
status_of fault.Words = 2
status_of (fault.Script line cause) = 3
status_of (fault.DumpLine line cause) = 7
status_of (fault.DumpBatch key cause) = 7
status_of fault.Read = 4
status_of fault.Write = 5
status_of fault.Limit = 6
status_of fault.Memory = 8

-- the line that tells of a faulty line of a script
abbrev pub script_line : ℕ → ScriptCause → List ℕ
script_line line cause = concat (codes "ndc: script line " ∷ decimal line ∷ codes ": " ∷ script_cause_name cause ∷ codes "\n" ∷ [])

-- the line that tells of a fault
abbrev pub fault_line : Fault → List ℕ
fault_line fault.Words = codes "ndc: words: run [--workers N] [--index NAMES] [--late NAMES], rebuild, inspect, make N SEED, demo N\n"
fault_line (fault.Script line cause) = script_line line cause
fault_line (fault.DumpLine line cause) = dump_line (codes "ndc") line cause
fault_line (fault.DumpBatch key cause) = dump_batch_line (codes "ndc") key cause
fault_line fault.Read = codes "ndc: read fault\n"
fault_line fault.Write = codes "ndc: write fault\n"
fault_line fault.Limit = codes "ndc: input limit\n"
fault_line fault.Memory = codes "ndc: out of memory\n"

-- the line for a status that needs no more than a constant line
abbrev pub status_line : ℕ → Option (List ℕ)
status_line status =
    if status == 2 then Some (fault_line fault.Words)
    else if status == 4 then Some (fault_line fault.Read)
    else if status == 5 then Some (fault_line fault.Write)
    else if status == 6 then Some (fault_line fault.Limit)
    else if status == 8 then Some (fault_line fault.Memory)
    else None

-- whatever the script was, a line on a faulty script was written, or a prefix of it and a fault came
abbrev pub TellsSomeLine : Option (List ℕ) → Option (List ℕ) → ℕ → ℕ → Type 0
TellsSomeLine before after faults_before faults_after = (line : ℕ) × (cause : ScriptCause) × Tells before after faults_before faults_after (script_line line cause)

-- the line on a faulty dump was written, or a prefix of it and a fault came
abbrev pub TellsDumpError : Option (List ℕ) → Option (List ℕ) → ℕ → ℕ → DumpError → Type 0
TellsDumpError before after faults_before faults_after error = TellsErrorAs (codes "ndc") before after faults_before faults_after error

-- whatever the dump was, a line on a faulty dump was written, or a prefix of it and a fault came
abbrev pub TellsSomeCause : Option (List ℕ) → Option (List ℕ) → ℕ → ℕ → Type 0
TellsSomeCause before after faults_before faults_after = (error : DumpError) × TellsDumpError before after faults_before faults_after error

-- what a fault leaves in the source: nothing is read for words that are refused; what is after the limit and one byte more, where the input is too
-- long; what is after a prefix within the limit, where reading failed or memory ran out; and else nothing is left
abbrev pub LeavesAfter : Fault → Option (List ℕ) → Option (List ℕ) → Type 0
LeavesAfter fault.Words before after = after ≡ before
LeavesAfter (fault.Script line cause) before after = IfSome before (λ _. after ≡ Some [])
LeavesAfter (fault.DumpLine line cause) before after = IfSome before (λ _. after ≡ Some [])
LeavesAfter (fault.DumpBatch key cause) before after = IfSome before (λ _. after ≡ Some [])
LeavesAfter fault.Read before after = ConsumesAtMost most_bytes before after
LeavesAfter fault.Write before after = IfSome before (λ _. after ≡ Some [])
LeavesAfter fault.Limit before after = IfSome before (λ bytes. after ≡ Some (drop (most_bytes + 1) bytes))
LeavesAfter fault.Memory before after = ConsumesAtMost most_bytes before after

-- what a run that reads an input leaves in the source, by the status that it ends with
pub record LeavesSource (status : ℕ) (before after : Option (List ℕ)) : Type 0 where
  pub untouched : status ≡ 2 → after ≡ before
  pub ended : IsAmong status (0 ∷ 3 ∷ 5 ∷ 7 ∷ []) → IfSome before (λ _. after ≡ Some [])
  pub limit : status ≡ 6 → IfSome before (λ bytes. after ≡ Some (drop (most_bytes + 1) bytes))
  pub stopped : IsAmong status (4 ∷ 8 ∷ []) → ConsumesAtMost most_bytes before after
