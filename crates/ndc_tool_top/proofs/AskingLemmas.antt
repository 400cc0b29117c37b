-- What holds whatever is asked for.
use Rattle.std.proofs.Common.{◌≡◌, ◌≢◌, ℕ, List, inl, Option, Some, None}
use Rattle.ndc_event.specs.declared.name.Name.{Name}
use Rattle.ndc_index.specs.Seats.{IndexerValue}
use Rattle.ndc_tool_words.specs.declared.words.Asked.{Asked}
use Rattle.ndc_tool_words.specs.declared.words.Asked.TheVariants.{Run, Rebuild, Inspect, Make, Demo}
use Rattle.ndc_tool_top.specs.Asking.{IfDemo, IfMade, IfRun, IfShown}
use Rattle.ndc_tool_top.specs.Running.{FrontOfReport}
use Rattle.ndc_tool_top.specs.Show.{ShowsFront}
use Rattle.ndc_tool_top.specs.declared.show.ShownAs.{ShownAs}
use Rattle.ndc_tool_top.specs.declared.show.ShownAs.TheVariants as shown

pub if_run : (asked : Option Asked) (P : List Name → List Name → Type 0) → ((index late : List Name) → P index late) → IfRun asked P
if_run None P p = tt
if_run (Some (Run workers index late)) P p = p index late
if_run (Some Rebuild) P p = tt
if_run (Some Inspect) P p = tt
if_run (Some (Make count seed)) P p = tt
if_run (Some (Demo count)) P p = tt

pub if_shown : (asked : Option Asked) (P : ShownAs → Type 0) → ((how : ShownAs) → P how) → IfShown asked P
if_shown None P p = tt
if_shown (Some (Run workers index late)) P p = tt
if_shown (Some Rebuild) P p = p shown.Dump
if_shown (Some Inspect) P p = p shown.Tree
if_shown (Some (Make count seed)) P p = tt
if_shown (Some (Demo count)) P p = tt

pub if_made : (asked : Option Asked) (P : ℕ → ℕ → Type 0) → ((count seed : ℕ) → P count seed) → IfMade asked P
if_made None P p = tt
if_made (Some (Run workers index late)) P p = tt
if_made (Some Rebuild) P p = tt
if_made (Some Inspect) P p = tt
if_made (Some (Make count seed)) P p = p count seed
if_made (Some (Demo count)) P p = tt

pub if_demo : (asked : Option Asked) (P : ℕ → Type 0) → ((count : ℕ) → P count) → IfDemo asked P
if_demo None P p = tt
if_demo (Some (Run workers index late)) P p = tt
if_demo (Some Rebuild) P p = tt
if_demo (Some Inspect) P p = tt
if_demo (Some (Make count seed)) P p = tt
if_demo (Some (Demo count)) P p = p count

-- where nothing was written, what was written is a prefix of whatever was asked for
module _ (left before after : Option (List ℕ)) (n : ℕ) (same : after ≡ before) where
  pub run_front : (all : List IndexerValue) (asked : Option Asked) → IfRun asked (λ index late. n ≢ 0 → FrontOfReport all index late left before after)
  run_front all asked = if_run asked (λ index late. n ≢ 0 → FrontOfReport all index late left before after) (λ index late _. inl same)

  pub shown_front : (asked : Option Asked) → IfShown asked (λ how. n ≢ 0 → ShowsFront how left before after)
  shown_front asked = if_shown asked (λ how. n ≢ 0 → ShowsFront how left before after) (λ how _. inl same)
