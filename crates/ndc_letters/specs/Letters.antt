-- Letters: what came of messages, and whether it is whole.
use Rattle.std.specs.Prelude.{ℕ, Bool, true, false, List, [], ◌∷◌, ◌++◌, take, Result, Ok, Err, if◌then◌else◌}
use Rattle.ndc_model_cells.specs.Places.{is_at}
use Rattle.ndc_model_cells.specs.declared.place.Place.{Place}
use Rattle.ndc_domain.specs.declared.clusters.ClusterNo.{ClusterNo}
use Rattle.ndc_event.specs.declared.batch.Batch.{Batch}
use Rattle.ndc_letters.specs.declared.letter.Letter.{Letter}
use Rattle.ndc_letters.specs.declared.letters.Taken.{Taken}
use Rattle.ndc_letters.specs.declared.letters.Taken.TheVariants.{Aside, Whole}
use Rattle.ndc_text.specs.Read.{read_of}
use Rattle.ndc_text.specs.Text.{batch_text}
use Rattle.ndc_text.specs.declared.error.TextError.{TextError}
use Rattle.ndc_text.specs.declared.form.TextForm.TheVariants.{Two}

-- what comes of a batch that a source sends, where so many bytes of its text arrive
abbrev pub letter_of : ClusterNo → ℕ → Batch → Letter
letter_of source cut b = record { source = source; domain = b.domain; workflow = b.workflow; key = b.key; bytes = take cut (batch_text b) }

-- the place of the batch that a letter was
abbrev pub place_of_letter : Letter → Place
place_of_letter letter = record { domain = letter.domain; workflow = letter.workflow; key = letter.key }

-- what comes of a letter whose bytes were read: it is whole, where they were read as a batch of its place
abbrev pub taken_as : Place → Result Batch TextError → Taken
taken_as place (Ok b) = if is_at place b then Whole b else Aside
taken_as place (Err error) = Aside

-- what comes of a letter that is taken
unfoldable pub taken_of : Letter → Taken
taken_of letter = taken_as (place_of_letter letter) (read_of Two letter.bytes)

-- whether a letter that is taken is whole
abbrev pub was_whole : Taken → Bool
was_whole (Whole b) = true
was_whole Aside = false

-- whether a letter is whole: its bytes are read as the batch that it was
abbrev pub is_whole : Letter → Bool
is_whole letter = was_whole (taken_of letter)

-- the letters after one that comes: it goes last, where it is not whole
abbrev pub with_letter : Letter → List Letter → List Letter
with_letter letter letters = if is_whole letter then letters else letters ++ letter ∷ []
