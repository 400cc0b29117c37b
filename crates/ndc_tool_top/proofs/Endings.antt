-- What the fault that ends a run says of what was written.
use Rattle.std.proofs.Common.{◌≡◌, ℕ, ◌≤◌, List, [], length, inl, inr, Option, Some, None, Result, Ok, IfSome, IsOkAnd, sym, subst}
use Rattle.ndc_script_types.specs.declared.script.Script.{Script}
use Rattle.ndc_event.specs.declared.name.Name.{Name}
use Rattle.ndc_index.specs.Seats.{IndexerValue}
use Rattle.ndc_port.specs.Bytes.{AppendsFront}
use Rattle.ndc_port.proofs.Steps.{Sent_start, Sent_stop}
use Rattle.ndc_laws_program.specs.Promises.{KeepsPromises}
use Rattle.ndc_script_read.specs.Body.{script_of}
use Rattle.ndc_world.specs.Seats.{Reports, ReportsFront}
use Rattle.ndc_dump.specs.Input.{most_bytes}
use Rattle.ndc_dump.specs.Telling.{Streams}
use Rattle.ndc_tool_top.specs.declared.fault.Fault.{Fault}
use Rattle.ndc_tool_top.specs.declared.fault.Fault.TheVariants as fault
use Rattle.ndc_tool_top.specs.Running.{FrontOfReport, ReadFault, RunFault, StopsWithin, Succeeds}

-- what follows from a fact on the bytes that were left, if they are told
some_weaker : (left : Option (List ℕ)) (P Q : List ℕ → Type 0) → ((bytes : List ℕ) → P bytes → Q bytes) → IfSome left P → IfSome left Q
some_weaker None P Q step p = tt
some_weaker (Some bytes) P Q step p = step bytes p

-- a result that is known
known-ok : {T E : Type 0} (r : Result T E) (x : T) (Q : T → Type 0) → r ≡ Ok x → Q x → IsOkAnd r Q
known-ok r x Q is q = subst (λ (s : Result _ _). IsOkAnd s Q) (sym is) q

-- where nothing was written, a prefix of any text was
pub nothing_written : (before after : Option (List ℕ)) (text : List ℕ) → after ≡ before → AppendsFront before after text
nothing_written before after text same = subst (λ (w : Option (List ℕ)). AppendsFront before w text) (sym same) (Sent_stop before before text text (Sent_start before text))

module _ (all : List IndexerValue) (index late : List Name) where
  -- a fault of reading is one of the run, which has written nothing
  pub read_fault : (old new : Streams) (f : Fault) → new.written ≡ old.written → ReadFault old.left old.source_faults new.source_faults f → RunFault all index late old new f
  read_fault old new fault.Words same r = absurd r
  read_fault old new (fault.Script line cause) same r = (r, same)
  read_fault old new (fault.DumpLine line cause) same r = absurd r
  read_fault old new (fault.DumpBatch key cause) same r = absurd r
  read_fault old new fault.Read same r = (r, same)
  read_fault old new fault.Write same r = absurd r
  read_fault old new fault.Limit same r = (r, same)
  read_fault old new fault.Memory same r = inl same

  -- whatever the fault, a prefix of the report was written
  pub front_end : (old new : Streams) (f : Fault) → RunFault all index late old new f → FrontOfReport all index late old.left old.written new.written
  front_end old new fault.Words r = inl r.1
  front_end old new (fault.Script line cause) r = inl r.1
  front_end old new (fault.DumpLine line cause) r = absurd r
  front_end old new (fault.DumpBatch key cause) r = absurd r
  front_end old new fault.Read r = inl r.1
  front_end old new fault.Write r = inr r.1
  front_end old new fault.Limit r = inl r.1
  front_end old new fault.Memory r = r

  -- a script that was read
  module _ (left : Option (List ℕ)) (script : Script) (read : IfSome left (λ bytes. (length bytes ≤ most_bytes) × (script_of bytes ≡ Ok script))) (before after : Option (List ℕ)) where
    -- its report was written whole
    pub succeeds : (rest : Option (List ℕ)) → IfSome left (λ _. rest ≡ Some []) → Reports script all index late before after → KeepsPromises script → Succeeds all index late left rest before after
    succeeds rest ended reports keeps =
        both left (λ bytes. (length bytes ≤ most_bytes) × (script_of bytes ≡ Ok script)) (λ _. rest ≡ Some [])
        (λ bytes. (length bytes ≤ most_bytes) × (rest ≡ Some []) × IsOkAnd (script_of bytes) (λ s. Reports s all index late before after × KeepsPromises s))
        (λ bytes p e. (p.0, e, known-ok (script_of bytes) script (λ s. Reports s all index late before after × KeepsPromises s) p.1 (reports, keeps))) read ended
      where
        both : (l : Option (List ℕ)) (P Q R : List ℕ → Type 0) → ((bytes : List ℕ) → P bytes → Q bytes → R bytes) → IfSome l P → IfSome l Q → IfSome l R
        both None P Q R step p q = tt
        both (Some bytes) P Q R step p q = step bytes p q

    -- a prefix of it was
    pub stops_within : ReportsFront script all index late before after → KeepsPromises script → StopsWithin all index late left before after
    stops_within front keeps =
        some_weaker left (λ bytes. (length bytes ≤ most_bytes) × (script_of bytes ≡ Ok script)) (λ bytes. (length bytes ≤ most_bytes) × IsOkAnd (script_of bytes) (λ s. ReportsFront s all index late before after × KeepsPromises s))
        (λ bytes p. (p.0, known-ok (script_of bytes) script (λ s. ReportsFront s all index late before after × KeepsPromises s) p.1 (front, keeps))) read
