-- Worlds that some lines lead to.
use Rattle.std.specs.Prelude.{ℕ, ◌≤◌}
use Rattle.ndc_script_types.specs.declared.script.Header.{Header}
use Rattle.ndc_model.specs.Facts.{IsReached}
use Rattle.ndc_model.specs.World.{World}

-- a world is as it should be after so many lines, at most 100,000
pub record IsReachedSometime (header : Header) (w : World) : Type 0 where
  pub lines : ℕ
  pub most : lines ≤ 100000
  pub reached : IsReached header lines w
