-- The dumps of an input, each with where it stands there and whose it is.
use Rattle.std.specs.Prelude.{ℕ, ◌+◌, Bool, List, [], ◌∷◌, ◌++◌, Result, Ok, Err, Option, if◌then◌else◌}
use Rattle.ndc_event.specs.Outcome.{◌>>=◌}
use Rattle.ndc_dump.specs.Bare.{bare_dump_of}
use Rattle.ndc_dump.specs.Read.{dump_of}
use Rattle.ndc_dump.specs.declared.dump.Dump.{Dump}
use Rattle.ndc_dump_causes.specs.declared.error.DumpError.{DumpError}
use Rattle.ndc_dump_causes.specs.declared.error.DumpError.TheVariants as dump
use Rattle.ndc_event.specs.declared.name.Name.{Name}
use Rattle.ndc_explain_union.specs.Parts.{Parted}
use Rattle.ndc_explain_union.specs.declared.taken.InputError.{InputError}
use Rattle.ndc_explain_union.specs.declared.taken.InputError.TheVariants as input
use Rattle.ndc_explain_union.specs.declared.taken.Spot.{Spot}

-- the dump that bytes are, with its view or bare, or the first cause why they are not one
abbrev pub dump_in : Bool → List ℕ → Result Dump DumpError
dump_in bare bytes = if bare then bare_dump_of bytes else dump_of bytes

-- a dump as it was taken
pub record Taking : Type 0 where
  pub spot : Spot
  pub dump : Dump

-- the dump at this spot, or its fault there
abbrev pub at_spot : Spot → Result Dump DumpError → Result Taking InputError
at_spot spot (Ok dump) = Ok (record { spot = spot; dump = dump })
at_spot spot (Err (dump.Line line cause)) = Err (input.Line spot line cause)
at_spot spot (Err (dump.Key key cause)) = Err (input.Key spot key cause)
at_spot spot (Err dump.Memory) = Err input.Memory

-- where the part with this number stands
abbrev pub spot_of : ℕ → Option Name → Spot
spot_of number cluster = record { number = number; cluster = cluster }

-- the dump that the part with this number is
unfoldable pub taken_in : Bool → ℕ → Parted → Result Taking InputError
taken_in bare number part = at_spot (spot_of number part.cluster) (dump_in bare part.text)

-- dumps after others
abbrev pub behind : List Taking → Result (List Taking) InputError → Result (List Taking) InputError
behind front (Ok takings) = Ok (front ++ takings)
behind front (Err error) = Err error

-- the dumps that parts are, with numbers from this one on, or the first fault
abbrev pub taken_on : Bool → ℕ → List Parted → Result (List Taking) InputError
taken_on bare number [] = Ok []
taken_on bare number (part ∷ parts) = taken_in bare number part >>= (λ taking. behind (taking ∷ []) (taken_on bare (number + 1) parts))

-- the dumps that the parts of an input are, numbered from 1, or the first fault
abbrev pub taken_of : Bool → List Parted → Result (List Taking) InputError
taken_of bare parts = taken_on bare 1 parts
