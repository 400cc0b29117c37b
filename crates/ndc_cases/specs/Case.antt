-- A case of a transcript, and what each of its lines gives.
use Rattle.std.specs.Prelude.{ℕ, zero, suc, ◌+◌, ◌-◌, ◌*◌, ◌&&◌, nat_le, take, Option, None, Some, List, [], ◌∷◌, ◌++◌, Result, Ok, Err, if◌then◌else◌}
use Rattle.ndc_event.specs.Outcome.{◌>>=◌}
use Rattle.ndc_script_words.specs.Number.{number_of}
use Rattle.ndc_cases.specs.Line.{mark_len, text_of, mark_of}
use Rattle.ndc_cases.specs.declared.case.CaseError.{CaseError}
use Rattle.ndc_cases.specs.declared.case.CaseError.TheVariants.{Form}
use Rattle.ndc_cases.specs.declared.line.Mark.{Mark}
use Rattle.ndc_cases.specs.declared.line.Mark.TheVariants as mark

-- a call, its input, and what it has to answer
pub record Case : Type 0 where
  pub name : List ℕ
  pub words : List ℕ
  pub input : List ℕ
  pub output : List ℕ
  pub told : List ℕ
  pub status : ℕ

-- a case of which no line was read
abbrev pub no_case : Case
no_case = record { name = []; words = []; input = []; output = []; told = []; status = 0 }

-- the value of a hexadecimal digit
abbrev pub digit_of : ℕ → Option ℕ
digit_of byte =
    if nat_le 48 byte && nat_le byte 57 then Some (byte - 48)
    else if nat_le 97 byte && nat_le byte 102 then Some (byte - 87)
    else None

-- the byte of two digits
abbrev pub byte_with : Option ℕ → Option ℕ → Result ℕ CaseError
byte_with (Some high) (Some low) = Ok (high * 16 + low)
byte_with (Some high) None = Err Form
byte_with None low = Err Form

-- the byte of two hexadecimal digits
abbrev pub byte_of : ℕ → ℕ → Result ℕ CaseError
byte_of high low = byte_with (digit_of high) (digit_of low)

-- the bytes of hexadecimal digits, two by two
unfoldable pub hex_of : List ℕ → Result (List ℕ) CaseError
hex_of [] = Ok []
hex_of (digit ∷ []) = Err Form
hex_of (high ∷ low ∷ rest) = do
  byte ← byte_of high low
  bytes ← hex_of rest
  Ok (byte ∷ bytes)

-- a line so many times
abbrev pub lines_of : ℕ → List ℕ → List ℕ
lines_of zero line = []
lines_of (suc count) line = lines_of count line ++ line ++ 10 ∷ []

-- a line so many times, where there is a number
abbrev pub many_with : Option ℕ → List ℕ → Result (List ℕ) CaseError
many_with None line = Err Form
many_with (Some count) line = Ok (lines_of count line)

-- the lines of `COUNT TEXT`
unfoldable pub many_of : List ℕ → Result (List ℕ) CaseError
many_of text = many_with (number_of (take (mark_len text) text)) (text_of text)

-- the status that a digit is
abbrev pub status_of : List ℕ → Result ℕ CaseError
status_of (digit ∷ []) = if nat_le 48 digit && nat_le digit 57 then Ok (digit - 48) else Err Form
status_of _ = Err Form

-- the case after a line with this mark and text
unfoldable pub marked : Case → Mark → List ℕ → Result Case CaseError
marked case mark.Comment text = Ok case
marked case mark.Name text = Ok (record case { name = case.name ++ text })
marked case mark.Words text = Ok (record case { words = case.words ++ text })
marked case mark.Input text = Ok (record case { input = case.input ++ text ++ 10 ∷ [] })
marked case mark.LastInput text = Ok (record case { input = case.input ++ text })
marked case mark.HexInput text = do
  bytes ← hex_of text
  Ok (record case { input = case.input ++ bytes })
marked case mark.ManyInput text = do
  lines ← many_of text
  Ok (record case { input = case.input ++ lines })
marked case mark.Output text = Ok (record case { output = case.output ++ text ++ 10 ∷ [] })
marked case mark.LastOutput text = Ok (record case { output = case.output ++ text })
marked case mark.Told text = Ok (record case { told = case.told ++ text ++ 10 ∷ [] })
marked case mark.Status text = do
  status ← status_of text
  Ok (record case { status = status })

-- the case after a line with this mark, where it is one
abbrev pub marked_by : Case → Option Mark → List ℕ → Result Case CaseError
marked_by case None text = Err Form
marked_by case (Some mark) text = marked case mark text

-- the case after a line
unfoldable pub with_line : Case → List ℕ → Result Case CaseError
with_line case line = marked_by case (mark_of (take (mark_len line) line)) (text_of line)
