-- The program as a whole: the faults that end it, and what it tells of them.
use Rattle.std.specs.Prelude.{◌≡◌, ◌⊎◌, ℕ, ◌<◌, ◌≤◌, ⊤, IfSome, IsOkAnd, Some, None, ◌==◌, List, [], ◌∷◌, Option, Err, codes, decimal, length, if◌then◌else◌}
use Rattle.std.specs.List.{concat}
use Rattle.ndc_dump.specs.Input.{most_bytes}
use Rattle.ndc_dump.specs.Telling.{Streams, Tells}
use Rattle.ndc_port.specs.Bytes.{Appends, AppendsFront}
use Rattle.ndc_port.specs.Fault.{Rose}
use Rattle.ndc_probe_questions.specs.Finding.{questions_in}
use Rattle.ndc_script_read.specs.Body.{script_of}
use Rattle.ndc_script_types.specs.declared.script.ScriptCause.{ScriptCause}
use Rattle.ndc_script_types.specs.declared.script.ScriptCause.TheVariants.{BadHeader, BadLine, IncrementLimit, LineLimit, NoClusters, NotBelowIncrement, SameInitial, SameName, TooMany, UnknownName}
use Rattle.ndc_script_types.specs.declared.script.ScriptError.{ScriptError}
use Rattle.ndc_script_types.specs.declared.script.ScriptError.TheVariants.{Memory, Refused}
use Rattle.ndc_probe.specs.Probed.{probed, text_of}
use Rattle.ndc_probe.specs.declared.fault.Fault.{Fault}
use Rattle.ndc_probe.specs.declared.fault.Fault.TheVariants as fault

-- how a cause of a faulty script is printed
abbrev pub script_cause_name : ScriptCause → List ℕ
script_cause_name BadHeader = codes "BadHeader"
script_cause_name IncrementLimit = codes "IncrementLimit"
script_cause_name NoClusters = codes "NoClusters"
script_cause_name TooMany = codes "TooMany"
script_cause_name SameName = codes "SameName"
script_cause_name SameInitial = codes "SameInitial"
script_cause_name NotBelowIncrement = codes "NotBelowIncrement"
script_cause_name BadLine = codes "BadLine"
script_cause_name UnknownName = codes "UnknownName"
script_cause_name LineLimit = codes "LineLimit"

-- the status that the program ends with after a fault
abbrev pub status_of : Fault → ℕ
status_of fault.Words = 2
status_of (fault.Script line cause) = 3
status_of fault.Read = 4
status_of fault.Write = 5
status_of fault.Limit = 6
status_of fault.Memory = 8

-- the line that tells of a faulty line of a script
abbrev pub script_line : ℕ → ScriptCause → List ℕ
script_line line cause = concat (codes "ndc: script line " ∷ decimal line ∷ codes ": " ∷ script_cause_name cause ∷ codes "\n" ∷ [])

-- the line that tells of a fault
abbrev pub fault_line : Fault → List ℕ
fault_line fault.Words = codes "ndc: words: none; the script comes on standard input\n"
fault_line (fault.Script line cause) = script_line line cause
fault_line fault.Read = codes "ndc: read fault\n"
fault_line fault.Write = codes "ndc: write fault\n"
fault_line fault.Limit = codes "ndc: input limit\n"
fault_line fault.Memory = codes "ndc: out of memory\n"

-- the line on a faulty script was written, or a prefix of it and a fault came
abbrev pub TellsError : Option (List ℕ) → Option (List ℕ) → ℕ → ℕ → ScriptError → Type 0
TellsError before after faults_before faults_after (Refused line cause) = Tells before after faults_before faults_after (script_line line cause)
TellsError before after faults_before faults_after Memory = ⊥

-- the line for a status that needs no more than a constant line
abbrev pub status_line : ℕ → Option (List ℕ)
status_line status =
    if status == 2 then Some (fault_line fault.Words)
    else if status == 4 then Some (fault_line fault.Read)
    else if status == 5 then Some (fault_line fault.Write)
    else if status == 6 then Some (fault_line fault.Limit)
    else if status == 8 then Some (fault_line fault.Memory)
    else None

-- the text is a script, and what is told of it and of its questions was written
abbrev pub TextIsProbed : List ℕ → Option (List ℕ) → Option (List ℕ) → Type 0
TextIsProbed text before after = IsOkAnd (script_of text) (λ script. Appends before after (text_of (probed script (questions_in text))))

-- the text is a script, and a prefix of that was
abbrev pub TextIsBegun : List ℕ → Option (List ℕ) → Option (List ℕ) → Type 0
TextIsBegun text before after = IsOkAnd (script_of text) (λ script. AppendsFront before after (text_of (probed script (questions_in text))))

-- why a text that was read ends the program with a fault
abbrev pub TextFault : List ℕ → Option (List ℕ) → Option (List ℕ) → ℕ → ℕ → Fault → Type 0
TextFault text before after faults_before faults_after fault.Words = ⊥
TextFault text before after faults_before faults_after (fault.Script line cause) = (script_of text ≡ Err (Refused line cause)) × (after ≡ before)
TextFault text before after faults_before faults_after fault.Read = ⊥
TextFault text before after faults_before faults_after fault.Write = Rose faults_before faults_after × TextIsBegun text before after
TextFault text before after faults_before faults_after fault.Limit = ⊥
TextFault text before after faults_before faults_after fault.Memory = (after ≡ before) ⊎ TextIsBegun text before after

-- why reading a text ends it so
abbrev pub ReadFault : Option (List ℕ) → ℕ → ℕ → Fault → Type 0
ReadFault left before after fault.Words = ⊥
ReadFault left before after (fault.Script line cause) = ⊥
ReadFault left before after fault.Read = Rose before after
ReadFault left before after fault.Write = ⊥
ReadFault left before after fault.Limit = IfSome left (λ bytes. most_bytes < length bytes)
ReadFault left before after fault.Memory = ⊤

-- all was read, it was a script, and what is told of it and of its questions was written
abbrev pub Probes : Option (List ℕ) → Option (List ℕ) → Option (List ℕ) → Option (List ℕ) → Type 0
Probes left rest before after = IfSome left (λ bytes. (length bytes ≤ most_bytes) × (rest ≡ Some []) × TextIsProbed bytes before after)

-- a script was read, and a prefix of what is told was written
abbrev pub StopsWithin : Option (List ℕ) → Option (List ℕ) → Option (List ℕ) → Type 0
StopsWithin left before after = IfSome left (λ bytes. (length bytes ≤ most_bytes) × TextIsBegun bytes before after)

-- nothing was written, or a script was read and a prefix of what is told was
abbrev pub FrontOfProbe : Option (List ℕ) → Option (List ℕ) → Option (List ℕ) → Type 0
FrontOfProbe left before after = (after ≡ before) ⊎ StopsWithin left before after

-- why the program ends with a fault, between what was there and what is there
abbrev pub ProbeFault : Streams → Streams → Fault → Type 0
ProbeFault old new fault.Words = ⊥
ProbeFault old new (fault.Script line cause) = IfSome old.left (λ bytes. (length bytes ≤ most_bytes) × (script_of bytes ≡ Err (Refused line cause))) × (new.written ≡ old.written)
ProbeFault old new fault.Read = Rose old.source_faults new.source_faults × (new.written ≡ old.written)
ProbeFault old new fault.Write = Rose old.out_faults new.out_faults × StopsWithin old.left old.written new.written
ProbeFault old new fault.Limit = IfSome old.left (λ bytes. most_bytes < length bytes) × (new.written ≡ old.written)
ProbeFault old new fault.Memory = FrontOfProbe old.left old.written new.written
