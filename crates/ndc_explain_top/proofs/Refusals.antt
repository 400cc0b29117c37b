-- Which faults an input has.
use Rattle.std.proofs.Common.{◌≡◌, ◌≢◌, ◌≤◌, ℕ, Bool, true, false, List, length, Option, Some, None, Result, Ok, Err, IfSome, subst, if◌then◌else◌}
use Rattle.std.specs.Prelude.{IfErr, ⊤}
use Rattle.ndc_event.specs.Outcome.{◌>>=◌, Gives}
use Rattle.ndc_dump.specs.declared.dump.Dump.{Dump}
use Rattle.ndc_dump_causes.specs.declared.error.DumpError.{DumpError}
use Rattle.ndc_dump_causes.specs.declared.error.DumpError.TheVariants as error
use Rattle.ndc_explain_union.specs.Groupings.{groups_of}
use Rattle.ndc_explain_union.specs.Parts.{Inputs, is_alone, parts_of}
use Rattle.ndc_explain_union.specs.Takings.{Taking, dump_in, taken_of}
use Rattle.ndc_explain_union.specs.declared.taken.InputError.{InputError}
use Rattle.ndc_explain_union.specs.declared.taken.InputError.TheVariants as input
use Rattle.ndc_explain_top.specs.Report.{Reported, can_be_told, dumps_or, limit_of, report_alone, report_many, report_of, report_with, sections_of}
use Rattle.ndc_explain_top.specs.Sections.{Sectioned}
use Rattle.ndc_explain_top.specs.Top.{ReadingFails}
use Rattle.ndc_explain_top.specs.declared.asked.Request.{Request}
use Rattle.ndc_explain_top.specs.declared.fault.Fault.{Fault}
use Rattle.ndc_explain_top.specs.declared.fault.Fault.TheVariants as fault

-- a fault of an input, and no other
abbrev IsRefusal : Fault → Type 0
IsRefusal fault.Words = ⊥
IsRefusal (fault.DumpLine spot line cause) = ⊤
IsRefusal (fault.DumpBatch spot key cause) = ⊤
IsRefusal fault.NotDrawn = ⊤
IsRefusal fault.Read = ⊥
IsRefusal fault.Write = ⊥
IsRefusal fault.Limit = ⊥
IsRefusal fault.Memory = ⊤

abbrev IsRefused : Result Reported Fault → Type 0
IsRefused (Ok report) = ⊤
IsRefused (Err f) = IsRefusal f

alone-refused : (request : Request) (r : Result Dump DumpError) → IsRefused (report_alone request r)
alone-refused request (Ok dump) = tt
alone-refused request (Err (error.Line line cause)) = tt
alone-refused request (Err (error.Key key cause)) = tt
alone-refused request (Err error.Memory) = tt

with-refused : (request : Request) (dumps clusters : ℕ) (sections : List Sectioned) → IsRefused (report_with request dumps clusters sections)
unfolding report_with
with-refused request dumps clusters sections = by (can_be_told request.form sections) _
  where
    by : (t : Bool) (report : Reported) → IsRefused (if t then Ok report else Err fault.NotDrawn)
    by true report = tt
    by false report = tt

many-refused : (request : Request) (inputs : Inputs) → IsRefused (report_many request inputs)
unfolding report_many
many-refused request inputs = by (taken_of request.bare inputs.parts)
  where
    by : (t : Result (List Taking) InputError)
        → IsRefused (dumps_or t >>= (λ takings. report_with request (length takings) (length inputs.clusters) (sections_of request inputs.clusters (groups_of takings))))
    by (Ok takings) = with-refused request (length takings) (length inputs.clusters) (sections_of request inputs.clusters (groups_of takings))
    by (Err (input.Line spot line cause)) = tt
    by (Err (input.Key spot key cause)) = tt
    by (Err input.Memory) = tt

refused : (request : Request) (bytes : List ℕ) → IsRefused (report_of request bytes)
unfolding report_of
refused request bytes = by (is_alone (parts_of bytes))
  where
    by : (t : Bool) → IsRefused (if t then report_alone request (dump_in request.bare bytes) else report_many request (parts_of bytes))
    by true = alone-refused request (dump_in request.bare bytes)
    by false = many-refused request (parts_of bytes)

module _ (request : Request) (left : Option (List ℕ)) (bytes : List ℕ) (within : length bytes ≤ limit_of request) (all : IfSome left (λ rest. bytes ≡ rest)) where
  -- what holds of the bytes holds of what was left
  said : (f : Fault) → report_of request bytes ≡ Err f → IfSome left (λ rest. (length rest ≤ limit_of request) × (report_of request rest ≡ Err f))
  said f e = by left all
    where
      by : (o : Option (List ℕ)) → IfSome o (λ rest. bytes ≡ rest) → IfSome o (λ rest. (length rest ≤ limit_of request) × (report_of request rest ≡ Err f))
      by None same = tt
      by (Some rest) same = subst (λ (bs : List ℕ). (length bs ≤ limit_of request) × (report_of request bs ≡ Err f)) same (within, e)

  fails : (before after : ℕ) (f : Fault) → (f ≢ fault.Memory → report_of request bytes ≡ Err f) → ReadingFails request left before after f
  fails before after fault.Words e = subst IsRefused (e (λ same. cc)) (refused request bytes)
  fails before after (fault.DumpLine spot line cause) e = said (fault.DumpLine spot line cause) (e (λ same. cc))
  fails before after (fault.DumpBatch spot key cause) e = said (fault.DumpBatch spot key cause) (e (λ same. cc))
  fails before after fault.NotDrawn e = said fault.NotDrawn (e (λ same. cc))
  fails before after fault.Read e = absurd (subst IsRefused (e (λ same. cc)) (refused request bytes))
  fails before after fault.Write e = subst IsRefused (e (λ same. cc)) (refused request bytes)
  fails before after fault.Limit e = absurd (subst IsRefused (e (λ same. cc)) (refused request bytes))
  fails before after fault.Memory e = tt

  pub reading-fails : (before after : ℕ) (r : Result Reported Fault) → Gives fault.Memory (λ report. report) r (report_of request bytes) → IfErr r (ReadingFails request left before after)
  reading-fails before after (Ok report) e = tt
  reading-fails before after (Err f) e = fails before after f e
