-- The heading of a dump, and which lines are those of batches.
use Rattle.std.specs.Prelude.{◌≡◌, ℕ, ◌==◌, Bool, false, List, [], ◌∷◌, Option, Some, None, Result, Ok, Err, codes, if◌then◌else◌}
use Rattle.std.specs.List.{slice_split}
use Rattle.std.specs.Str.{bytes_eq}
use Rattle.ndc_event.specs.Name.{is_name}
use Rattle.ndc_event.specs.declared.name.Name.{Name}
use Rattle.ndc_text.specs.declared.form.TextForm.{TextForm}
use Rattle.ndc_text.specs.declared.form.TextForm.TheVariants as form
use Rattle.ndc_dump_causes.specs.declared.error.DumpError.{DumpError}
use Rattle.ndc_dump_causes.specs.declared.error.DumpError.TheVariants.{Line}
use Rattle.ndc_dump_causes.specs.declared.error.LineCause.TheVariants.{BadFrame}
use Rattle.ndc_dump.specs.declared.frame.Heading.{Heading}
use Rattle.ndc_dump.specs.Lines.{without_end}

-- the form with this number
abbrev pub form_of : List ℕ → Option TextForm
form_of word = if bytes_eq word (codes "1") then Some form.One else if bytes_eq word (codes "2") then Some form.Two else None

-- the name that bytes are
abbrev pub named : List ℕ → Option Name
named bytes = if is_name bytes then Some bytes else None

-- the heading with this form and these names, where there are such
abbrev pub heading_by : Option TextForm → Option Name → Option Name → Option Heading
heading_by (Some text) (Some domain) (Some workflow) = Some (record { form = text; domain = domain; workflow = workflow })
heading_by _ _ _ = None

-- the same after the word `dump`
abbrev pub heading_with : List ℕ → Option TextForm → Option Name → Option Name → Option Heading
heading_with word text domain workflow = if bytes_eq word (codes "dump") then heading_by text domain workflow else None

-- the heading of these words: `dump`, a form and two names
abbrev pub heading_in : List (List ℕ) → Option Heading
heading_in (word ∷ number ∷ domain ∷ workflow ∷ []) = heading_with word (form_of number) (named domain) (named workflow)
heading_in _ = None

-- the heading, or the fault of the first line
abbrev pub framed : Option Heading → Result Heading DumpError
framed None = Err (Line 1 BadFrame)
framed (Some heading) = Ok heading

-- the heading of the first line, its words with single spaces between them
abbrev pub heading_of : List (List ℕ) → Result Heading DumpError
heading_of [] = Err (Line 1 BadFrame)
heading_of (line ∷ lines) = framed (heading_in (slice_split (λ byte. byte == 32) (without_end line)))

-- whether a line is that of a batch: it begins with an opening brace
abbrev pub begins_batch : List ℕ → Bool
begins_batch [] = false
begins_batch (byte ∷ line) = byte == 123

-- whether there is a first line and it is that of a batch
abbrev pub begins_first : List (List ℕ) → Bool
begins_first [] = false
begins_first (line ∷ lines) = begins_batch line

-- the lines after the first one, of which the next is that of a batch, or the fault of the second line
abbrev pub body_of : List (List ℕ) → Result (List (List ℕ)) DumpError
body_of [] = Err (Line 2 BadFrame)
body_of (heading ∷ lines) = if begins_first lines then Ok lines else Err (Line 2 BadFrame)

-- the first line says this form, where it is a heading
abbrev pub IsHeaded : TextForm → List (List ℕ) → Type 0
IsHeaded text lines = (heading : Heading) → heading_of lines ≡ Ok heading → heading.form ≡ text
