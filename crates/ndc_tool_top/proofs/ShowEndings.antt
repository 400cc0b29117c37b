-- What the fault that ends the showing of a dump says of what was written.
use Rattle.std.proofs.Common.{◌≡◌, inl, inr}
use Rattle.ndc_dump.specs.Input.{InputFails, most_bytes}
use Rattle.ndc_dump.specs.Telling.{Streams}
use Rattle.ndc_dump.specs.declared.input.InputFault.{InputFault}
use Rattle.ndc_dump.specs.declared.input.InputFault.TheVariants as input
use Rattle.ndc_tool_top.specs.declared.fault.Fault.{Fault}
use Rattle.ndc_tool_top.specs.declared.fault.Fault.TheVariants as fault
use Rattle.ndc_tool_top.specs.declared.show.ShownAs.{ShownAs}
use Rattle.ndc_tool_top.specs.Show.{ShowsFront, ShowFault}
use Rattle.ndc_tool_top.specs.Top.{of_input}

-- a fault of reading is one of showing, which has written nothing
pub input_fault : (how : ShownAs) (old new : Streams) (f : InputFault) → new.written ≡ old.written → InputFails most_bytes old.left old.source_faults new.source_faults f → ShowFault how old new (of_input f)
input_fault how old new input.Read same r = (r, same)
input_fault how old new input.Limit same r = (r, same)
input_fault how old new (input.Line line cause) same r = (r, same)
input_fault how old new (input.Key key cause) same r = (r, same)
input_fault how old new input.Memory same r = same

-- whatever the fault, a prefix of what is shown was written
pub shown_end : (how : ShownAs) (old new : Streams) (f : Fault) → ShowFault how old new f → ShowsFront how old.left old.written new.written
shown_end how old new fault.Words r = absurd r
shown_end how old new (fault.Script line cause) r = absurd r
shown_end how old new (fault.DumpLine line cause) r = inl r.1
shown_end how old new (fault.DumpBatch key cause) r = inl r.1
shown_end how old new fault.Read r = inl r.1
shown_end how old new fault.Write r = inr r.1
shown_end how old new fault.Limit r = inl r.1
shown_end how old new fault.Memory r = inl r
