-- What the fault that ends a call says of the line that tells of it, and of what is left in the source.
use Rattle.std.proofs.Common.{◌≡◌, ℕ, List, [], Option, Some, None, IfSome, refl, sym, subst, arith}
use Rattle.ndc_dump_causes.specs.declared.error.DumpError.TheVariants as error
use Rattle.ndc_dump.specs.Input.{InputLeaves, most_bytes}
use Rattle.ndc_dump.specs.Telling.{Tells}
use Rattle.ndc_dump.specs.declared.input.InputFault.{InputFault}
use Rattle.ndc_dump.specs.declared.input.InputFault.TheVariants as input
use Rattle.ndc_port.specs.Bytes.{ConsumesAtMost}
use Rattle.ndc_tool_words.specs.declared.words.Asked.{Asked}
use Rattle.ndc_tool_top.specs.Asking.{IfRun, IfShown}
use Rattle.ndc_tool_top.specs.Top.{LeavesAfter, LeavesSource, TellsSomeCause, TellsSomeLine, fault_line, of_input, status_of}
use Rattle.ndc_tool_top.specs.declared.fault.Fault.{Fault}
use Rattle.ndc_tool_top.specs.declared.fault.Fault.TheVariants as fault
use Rattle.ndc_tool_top.proofs.AskingLemmas.{if_run, if_shown}

module _ (before after : Option (List ℕ)) (faults_before faults_after : ℕ) where
  -- a fault of status 3 is one of a script
  pub tells-line : (f : Fault) (n : ℕ) → n ≡ status_of f → Tells before after faults_before faults_after (fault_line f) → n ≡ 3 → TellsSomeLine before after faults_before faults_after
  tells-line fault.Words n s told e = absurd (cc)
  tells-line (fault.Script line cause) n s told e = (line, cause, told)
  tells-line (fault.DumpLine line cause) n s told e = absurd (cc)
  tells-line (fault.DumpBatch key cause) n s told e = absurd (cc)
  tells-line fault.Read n s told e = absurd (cc)
  tells-line fault.Write n s told e = absurd (cc)
  tells-line fault.Limit n s told e = absurd (cc)
  tells-line fault.Memory n s told e = absurd (cc)

  -- one of status 7 is one of a dump
  pub tells-cause : (f : Fault) (n : ℕ) → n ≡ status_of f → Tells before after faults_before faults_after (fault_line f) → n ≡ 7 → TellsSomeCause before after faults_before faults_after
  tells-cause fault.Words n s told e = absurd (cc)
  tells-cause (fault.Script line cause) n s told e = absurd (cc)
  tells-cause (fault.DumpLine line cause) n s told e = (error.Line line cause, told)
  tells-cause (fault.DumpBatch key cause) n s told e = (error.Key key cause, told)
  tells-cause fault.Read n s told e = absurd (cc)
  tells-cause fault.Write n s told e = absurd (cc)
  tells-cause fault.Limit n s told e = absurd (cc)
  tells-cause fault.Memory n s told e = absurd (cc)

module _ (before after : Option (List ℕ)) where
  -- what a dump that was not read leaves is what the fault leaves
  pub left-input : (f : InputFault) → InputLeaves most_bytes before after f → LeavesAfter (of_input f) before after
  left-input input.Read left = left
  left-input input.Limit left = left
  left-input (input.Line line cause) left = left
  left-input (input.Key key cause) left = left
  left-input input.Memory left = left

  -- what a fault leaves is what its status says
  left-after : (f : Fault) → LeavesAfter f before after → LeavesSource (status_of f) before after
  left-after fault.Words left = record { untouched = λ e. left; ended = λ e. absurd (cc); limit = λ e. absurd (cc); stopped = λ e. absurd (cc) }
  left-after (fault.Script line cause) left = record { untouched = λ e. absurd (cc); ended = λ e. left; limit = λ e. absurd (cc); stopped = λ e. absurd (cc) }
  left-after (fault.DumpLine line cause) left = record { untouched = λ e. absurd (cc); ended = λ e. left; limit = λ e. absurd (cc); stopped = λ e. absurd (cc) }
  left-after (fault.DumpBatch key cause) left = record { untouched = λ e. absurd (cc); ended = λ e. left; limit = λ e. absurd (cc); stopped = λ e. absurd (cc) }
  left-after fault.Read left = record { untouched = λ e. absurd (cc); ended = λ e. absurd (cc); limit = λ e. absurd (cc); stopped = λ e. left }
  left-after fault.Write left = record { untouched = λ e. absurd (cc); ended = λ e. left; limit = λ e. absurd (cc); stopped = λ e. absurd (cc) }
  left-after fault.Limit left = record { untouched = λ e. absurd (cc); ended = λ e. absurd (cc); limit = λ e. left; stopped = λ e. absurd (cc) }
  left-after fault.Memory left = record { untouched = λ e. absurd (cc); ended = λ e. absurd (cc); limit = λ e. absurd (cc); stopped = λ e. left }

  pub leaves : (f : Fault) (n : ℕ) → n ≡ status_of f → LeavesAfter f before after → LeavesSource n before after
  leaves f n s left = subst (λ (m : ℕ). LeavesSource m before after) (sym s) (left-after f left)

  -- at status 0 nothing is left
  pub leaves-none : IfSome before (λ _. after ≡ Some []) → LeavesSource 0 before after
  leaves-none left = record { untouched = λ e. absurd (cc); ended = λ e. left; limit = λ e. absurd (cc); stopped = λ e. absurd (cc) }

-- where nothing was read
takes-none : (n : ℕ) (left : Option (List ℕ)) → ConsumesAtMost n left left
takes-none n None = ([], omega arith, tt)
takes-none n (Some bytes) = ([], omega arith, (bytes, refl, refl))

pub unread-words : (left : Option (List ℕ)) (n : ℕ) → n ≡ 2 → LeavesSource n left left
unread-words left n s = leaves left left fault.Words n s refl

pub unread-memory : (left : Option (List ℕ)) (n : ℕ) → n ≡ 8 → LeavesSource n left left
unread-memory left n s = leaves left left fault.Memory n s (takes-none most_bytes left)

-- so whatever was asked for
pub run-unread : (asked : Option Asked) (n : ℕ) (left : Option (List ℕ)) → LeavesSource n left left → IfRun asked (λ _ _. LeavesSource n left left)
run-unread asked n left leaves = if_run asked (λ _ _. LeavesSource n left left) (λ _ _. leaves)

pub shown-unread : (asked : Option Asked) (n : ℕ) (left : Option (List ℕ)) → LeavesSource n left left → IfShown asked (λ _. LeavesSource n left left)
shown-unread asked n left leaves = if_shown asked (λ _. LeavesSource n left left) (λ _. leaves)
