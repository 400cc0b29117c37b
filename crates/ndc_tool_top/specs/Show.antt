-- What is shown of a dump, and why showing one ends with a fault.
use Rattle.std.specs.Prelude.{◌≡◌, ◌⊎◌, ℕ, ◌<◌, ◌≤◌, ⊤, IsOkAnd, IfSome, length, Some, List, [], Option, Err}
use Rattle.ndc_port.specs.Bytes.{Appends, AppendsFront}
use Rattle.ndc_port.specs.Fault.{Rose}
use Rattle.ndc_text.specs.Views.{dump_text, tree_text}
use Rattle.ndc_text.specs.declared.form.TextForm.TheVariants as form
use Rattle.ndc_dump.specs.Frame.{IsHeaded}
use Rattle.ndc_dump.specs.Lines.{lines_of}
use Rattle.ndc_dump.specs.Read.{dump_of}
use Rattle.ndc_dump.specs.declared.dump.Dump.{Dump}
use Rattle.ndc_dump_causes.specs.declared.error.DumpError.TheVariants as error
use Rattle.ndc_dump.specs.Input.{most_bytes}
use Rattle.ndc_dump.specs.Telling.{Streams}
use Rattle.ndc_tool_top.specs.declared.fault.Fault.{Fault}
use Rattle.ndc_tool_top.specs.declared.fault.Fault.TheVariants as fault
use Rattle.ndc_tool_top.specs.declared.show.ShownAs.{ShownAs}
use Rattle.ndc_tool_top.specs.declared.show.ShownAs.TheVariants as shown

-- what is shown of a dump: its text, printed again from its batches, or the tree of its workflow
unfoldable pub shown_text : ShownAs → Dump → List ℕ
shown_text shown.Dump dump = dump_text dump.domain dump.workflow dump.view
shown_text shown.Tree dump = tree_text dump.domain dump.workflow dump.view

-- all was read, it was a dump, and what is shown of it was written whole
abbrev pub Shows : ShownAs → Option (List ℕ) → Option (List ℕ) → Option (List ℕ) → Option (List ℕ) → Type 0
Shows how left rest before after =
    IfSome left (λ bytes. (length bytes ≤ most_bytes) × (rest ≡ Some []) × IsOkAnd (dump_of bytes) (λ dump. Appends before after (shown_text how dump)))

-- a dump was read, and a prefix of what is shown of it was written
abbrev pub StopsShowing : ShownAs → Option (List ℕ) → Option (List ℕ) → Option (List ℕ) → Type 0
StopsShowing how left before after =
    IfSome left (λ bytes. (length bytes ≤ most_bytes) × IsOkAnd (dump_of bytes) (λ dump. AppendsFront before after (shown_text how dump)))

-- nothing was written, or a dump was read and a prefix of what is shown of it was written
abbrev pub ShowsFront : ShownAs → Option (List ℕ) → Option (List ℕ) → Option (List ℕ) → Type 0
ShowsFront how left before after = (after ≡ before) ⊎ StopsShowing how left before after

-- where a dump is printed again, and its first line says the form with carriers, the bytes that were read were written
abbrev pub PrintsAsRead : ShownAs → Option (List ℕ) → Option (List ℕ) → Option (List ℕ) → Type 0
PrintsAsRead shown.Dump left before after = IfSome left (λ bytes. IsHeaded form.Two (lines_of bytes) → Appends before after bytes)
PrintsAsRead shown.Tree left before after = ⊤

-- why showing a dump ends with a fault, between what was there and what is there
abbrev pub ShowFault : ShownAs → Streams → Streams → Fault → Type 0
ShowFault how old new fault.Words = ⊥
ShowFault how old new (fault.Script line cause) = ⊥
ShowFault how old new (fault.DumpLine line cause) =
    IfSome old.left (λ bytes. (length bytes ≤ most_bytes) × (dump_of bytes ≡ Err (error.Line line cause))) × (new.written ≡ old.written)
ShowFault how old new (fault.DumpBatch key cause) =
    IfSome old.left (λ bytes. (length bytes ≤ most_bytes) × (dump_of bytes ≡ Err (error.Key key cause))) × (new.written ≡ old.written)
ShowFault how old new fault.Read = Rose old.source_faults new.source_faults × (new.written ≡ old.written)
ShowFault how old new fault.Write = Rose old.out_faults new.out_faults × StopsShowing how old.left old.written new.written
ShowFault how old new fault.Limit = IfSome old.left (λ bytes. most_bytes < length bytes) × (new.written ≡ old.written)
ShowFault how old new fault.Memory = new.written ≡ old.written
