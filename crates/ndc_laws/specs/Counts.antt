-- Worlds that are as they should be, each after one line more than the one before.
use Rattle.std.specs.Prelude.{ℕ, ◌+◌, List, [], ◌∷◌}
use Rattle.ndc_script_types.specs.declared.script.Header.{Header}
use Rattle.ndc_model.specs.Facts.{IsReached}
use Rattle.ndc_model.specs.World.{World}

-- the first of these worlds is as it should be after so many lines, and each further one after one line more
abbrev pub AreReachedFrom : Header → ℕ → List World → Type 0
AreReachedFrom header lines [] = Unit {0}
AreReachedFrom header lines (w ∷ worlds) = IsReached header lines w × AreReachedFrom header (lines + 1) worlds
