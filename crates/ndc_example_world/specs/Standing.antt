-- Worlds that a program may go on with.
use Rattle.std.specs.Prelude.{◌≡◌}
use Rattle.ndc_script_types.specs.WellFormed.{IsWellFormedHeader}
use Rattle.ndc_script_types.specs.declared.script.Header.{Header}
use Rattle.ndc_world.specs.Standing.{WorldValue}

-- a world of a well-formed header
pub record IsStanding (header : Header) (world : WorldValue) : Type 0 where
  pub fit : IsWellFormedHeader header
  pub header_is : world.header ≡ header
