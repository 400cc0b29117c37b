-- Dumps read from a source: why reading one fails, and what it leaves in the source then.
use Rattle.std.specs.Prelude.{◌≡◌, ℕ, ◌+◌, ◌<◌, ◌≤◌, ⊤, IfSome, Some, Err, List, [], length, drop, Option}
use Rattle.ndc_port.specs.Bytes.{ConsumesAtMost}
use Rattle.ndc_port.specs.Fault.{Rose}
use Rattle.ndc_dump.specs.Read.{dump_of}
use Rattle.ndc_dump.specs.declared.input.InputFault.{InputFault}
use Rattle.ndc_dump.specs.declared.input.InputFault.TheVariants as fault
use Rattle.ndc_dump_causes.specs.declared.error.DumpError.TheVariants as error

-- how many bytes the input of a program may have
abbrev pub most_bytes : ℕ
most_bytes = 16777216

-- why no dump is read, by the limit, the bytes that were left, and the source's faults before and after
abbrev pub InputFails : ℕ → Option (List ℕ) → ℕ → ℕ → InputFault → Type 0
InputFails limit left before after fault.Read = Rose before after
InputFails limit left before after fault.Limit = IfSome left (λ bytes. limit < length bytes)
InputFails limit left before after (fault.Line line cause) = IfSome left (λ bytes. (length bytes ≤ limit) × (dump_of bytes ≡ Err (error.Line line cause)))
InputFails limit left before after (fault.Key key cause) = IfSome left (λ bytes. (length bytes ≤ limit) × (dump_of bytes ≡ Err (error.Key key cause)))
InputFails limit left before after fault.Memory = ⊤

-- what is left then: what is after the limit and one byte more, where there was too much; what is after a prefix within the limit, where
-- reading failed or memory ran out; and else nothing
abbrev pub InputLeaves : ℕ → Option (List ℕ) → Option (List ℕ) → InputFault → Type 0
InputLeaves limit before after fault.Read = ConsumesAtMost limit before after
InputLeaves limit before after fault.Limit = IfSome before (λ bytes. after ≡ Some (drop (limit + 1) bytes))
InputLeaves limit before after (fault.Line line cause) = IfSome before (λ _. after ≡ Some [])
InputLeaves limit before after (fault.Key key cause) = IfSome before (λ _. after ≡ Some [])
InputLeaves limit before after fault.Memory = ConsumesAtMost limit before after
