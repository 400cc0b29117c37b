-- The program as a whole: what it writes, the faults that end it, and what it tells of them.
use Rattle.std.specs.Prelude.{◌+◌, ◌≡◌, ◌⊎◌, ℕ, ◌==◌, ◌<◌, ◌≤◌, ⊤, ◌++◌, Bool, List, [], ◌∷◌, drop, length, codes, decimal, Option, Some, None, Err, IsOkAnd, IfSome, if◌then◌else◌}
use Rattle.std.specs.List.{concat}
use Rattle.ndc_event.specs.declared.name.Name.{Name}
use Rattle.ndc_port.specs.Bytes.{Appends, AppendsFront, ConsumesAtMost}
use Rattle.ndc_port.specs.Fault.{Rose}
use Rattle.ndc_dump.specs.Faults.{dump_batch_line, dump_line}
use Rattle.ndc_dump.specs.Telling.{IsAmong, Streams, Tells}
use Rattle.ndc_explain_union.specs.declared.taken.Spot.{Spot}
use Rattle.ndc_explain_top.specs.Report.{limit_of, report_of}
use Rattle.ndc_explain_top.specs.declared.asked.Request.{Request}
use Rattle.ndc_explain_top.specs.declared.fault.Fault.{Fault}
use Rattle.ndc_explain_top.specs.declared.fault.Fault.TheVariants as fault

-- the status that the program ends with after a fault
abbrev pub status_of : Fault → ℕ
status_of fault.Words = 2
status_of (fault.DumpLine spot line cause) = 7
status_of (fault.DumpBatch spot key cause) = 7
status_of fault.NotDrawn = 7
status_of fault.Read = 4
status_of fault.Write = 5
status_of fault.Limit = 6
status_of fault.Memory = 8

-- the beginning of the line on a faulty dump: the program, and where the dump stands among many
abbrev pub spot_words : ℕ → Option Name → List ℕ
spot_words number None = concat (codes "ndc_explain: dump " ∷ decimal number ∷ [])
spot_words number (Some name) = concat (codes "ndc_explain: dump " ∷ decimal number ∷ codes " of " ∷ name ∷ [])

abbrev pub spot_head : Option Spot → List ℕ
spot_head None = codes "ndc_explain"
spot_head (Some spot) = spot_words spot.number spot.cluster

-- the line that tells of a fault
abbrev pub fault_line : Fault → List ℕ
fault_line fault.Words = codes "ndc_explain: words: [view|--picture|--picture=text] [--all] [--bare] [--limit BYTES] [--clusters NAME=INITIAL,.. --increment INCREMENT]\n"
fault_line (fault.DumpLine spot line cause) = spot_head spot ++ dump_line [] line cause
fault_line (fault.DumpBatch spot key cause) = spot_head spot ++ dump_batch_line [] key cause
fault_line fault.NotDrawn = codes "ndc_explain: --picture draws one workflow whose dumps make a sound set\n"
fault_line fault.Read = codes "ndc_explain: read fault\n"
fault_line fault.Write = codes "ndc_explain: write fault\n"
fault_line fault.Limit = codes "ndc_explain: input limit\n"
fault_line fault.Memory = codes "ndc_explain: out of memory\n"

-- the line for a status that needs no more than a constant line
abbrev pub status_line : ℕ → Option (List ℕ)
status_line status =
    if status == 2 then Some (fault_line fault.Words)
    else if status == 4 then Some (fault_line fault.Read)
    else if status == 5 then Some (fault_line fault.Write)
    else if status == 6 then Some (fault_line fault.Limit)
    else if status == 8 then Some (fault_line fault.Memory)
    else None

-- the status that says whether something is left: to be driven again, waiting, or without a sound set
abbrev pub told_status : Bool → ℕ
told_status leaves = if leaves then 1 else 0

-- the line on why the input cannot be told was written, or a prefix of it and a fault came
abbrev pub TellsRefusal : Option (List ℕ) → Option (List ℕ) → ℕ → ℕ → Fault → Type 0
TellsRefusal before after faults_before faults_after fault = (status_of fault ≡ 7) × Tells before after faults_before faults_after (fault_line fault)

-- all was read, it was told whole in the form that was asked for, and this is whether something is left
abbrev pub Explains : Request → Bool → Option (List ℕ) → Option (List ℕ) → Option (List ℕ) → Option (List ℕ) → Type 0
Explains request leaves left rest before after =
    IfSome left (λ bytes. (length bytes ≤ limit_of request) × (rest ≡ Some [])
    × IsOkAnd (report_of request bytes) (λ report. Appends before after report.text × (leaves ≡ report.leaves)))

-- the input could be told, and a prefix of what is told of it was written
abbrev pub StopsExplaining : Request → Option (List ℕ) → Option (List ℕ) → Option (List ℕ) → Type 0
StopsExplaining request left before after =
    IfSome left (λ bytes. (length bytes ≤ limit_of request) × IsOkAnd (report_of request bytes) (λ report. AppendsFront before after report.text))

-- nothing was written, or the input could be told and a prefix of what is told of it was written
abbrev pub ExplainsFront : Request → Option (List ℕ) → Option (List ℕ) → Option (List ℕ) → Type 0
ExplainsFront request left before after = (after ≡ before) ⊎ StopsExplaining request left before after

-- why nothing is told of an input, by the bytes that were left, and the source's faults before and after
abbrev pub ReadingFails : Request → Option (List ℕ) → ℕ → ℕ → Fault → Type 0
ReadingFails request left before after fault.Words = ⊥
ReadingFails request left before after (fault.DumpLine spot line cause) =
    IfSome left (λ bytes. (length bytes ≤ limit_of request) × (report_of request bytes ≡ Err (fault.DumpLine spot line cause)))
ReadingFails request left before after (fault.DumpBatch spot key cause) =
    IfSome left (λ bytes. (length bytes ≤ limit_of request) × (report_of request bytes ≡ Err (fault.DumpBatch spot key cause)))
ReadingFails request left before after fault.NotDrawn =
    IfSome left (λ bytes. (length bytes ≤ limit_of request) × (report_of request bytes ≡ Err fault.NotDrawn))
ReadingFails request left before after fault.Read = Rose before after
ReadingFails request left before after fault.Write = ⊥
ReadingFails request left before after fault.Limit = IfSome left (λ bytes. limit_of request < length bytes)
ReadingFails request left before after fault.Memory = ⊤

-- what is left in the source after a fault: what is after the limit and one byte more, where there was too much; what is after a prefix within the
-- limit, where reading failed or memory ran out; and else nothing
abbrev pub LeavesAfter : Request → Fault → Option (List ℕ) → Option (List ℕ) → Type 0
LeavesAfter request fault.Read before after = ConsumesAtMost (limit_of request) before after
LeavesAfter request fault.Limit before after = IfSome before (λ bytes. after ≡ Some (drop (limit_of request + 1) bytes))
LeavesAfter request fault.Memory before after = ConsumesAtMost (limit_of request) before after
LeavesAfter request _ before after = IfSome before (λ _. after ≡ Some [])

-- what a run that reads an input leaves in the source, by the status that it ends with
pub record LeavesSource (request : Request) (status : ℕ) (before after : Option (List ℕ)) : Type 0 where
  pub ended : IsAmong status (0 ∷ 1 ∷ 5 ∷ 7 ∷ []) → IfSome before (λ _. after ≡ Some [])
  pub limit : status ≡ 6 → IfSome before (λ bytes. after ≡ Some (drop (limit_of request + 1) bytes))
  pub stopped : IsAmong status (4 ∷ 8 ∷ []) → ConsumesAtMost (limit_of request) before after

-- why explaining an input ends with a fault, between what was there and what is there
abbrev pub ExplainFault : Request → Streams → Streams → Fault → Type 0
ExplainFault request old new fault.Write = Rose old.out_faults new.out_faults × StopsExplaining request old.left old.written new.written
ExplainFault request old new fault = ReadingFails request old.left old.source_faults new.source_faults fault × (new.written ≡ old.written)
