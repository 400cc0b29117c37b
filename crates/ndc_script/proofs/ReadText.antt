-- A text that is read as a script says the same as the script's own text.
use Rattle.std.proofs.Common.{◌≡◌, ℕ, ◌+◌, Bool, true, false, cond, not, nat_le, List, [], ◌∷◌, ◌++◌, filter, map, Some, None, Ok, refl, sym, ◌∙◌, ap, subst, if◌then◌else◌}
use Rattle.std.specs.List.{cons_option, list_all}
use Rattle.ndc_script_types.specs.Print.{body_lines, header_lines, renumbered, script_lines, script_text}
use Rattle.ndc_script_types.specs.WellFormed.{IsWellFormed}
use Rattle.ndc_script_types.specs.declared.script.Script.{Script}
use Rattle.ndc_script_words.specs.Header.{header_of}
use Rattle.ndc_script_words.specs.Text.{is_line_byte, is_skipped, kept_from, kept_line, kept_of, line_after, reading_of, text_lines, words_of}
use Rattle.ndc_script_words.specs.declared.text.Reading.TheVariants.{PastLimit, Readable, Unreadable}
use Rattle.ndc_script_read.specs.Body.{body_behind, script_of}
use Rattle.ndc_script.specs.Alike.{SayTheSame, cluster_names, word_lines}
use Rattle.ndc_script.proofs.PrintedScript.{script_of-text}
use Rattle.ndc_script.proofs.ReadBody.{body-is, readable-both, say-both, say-itself, words-both}
use Rattle.ndc_script.proofs.ReadHeader.{AreReadable, header-is, words_in}
use Rattle.ndc_script.proofs.ReadOperands.{ok-same, steps}

-- where all kept lines can be read, they are those that are not skipped
kept-words : (number : ℕ) (lines : List (List ℕ)) → AreReadable (kept_from number lines) → words_in (kept_from number lines) ≡ filter (λ words. not (is_skipped words)) (map words_of lines)
kept-words number [] readable = refl
kept-words number (line ∷ lines) readable = by (nat_le number 100000) readable (kept-words (number + 1) lines)
  where
    rest : List (List (List ℕ))
    rest = filter (λ words. not (is_skipped words)) (map words_of lines)

    of_line : (a b : Bool) → AreReadable (cons_option (if a then Some (record { number = number; reading = Unreadable; words = words_of line }) else if b then None else Some (record { number = number; reading = reading_of (words_of line); words = words_of line })) (kept_from (number + 1) lines))
        → (AreReadable (kept_from (number + 1) lines) → words_in (kept_from (number + 1) lines) ≡ rest)
        → words_in (cons_option (if a then Some (record { number = number; reading = Unreadable; words = words_of line }) else if b then None else Some (record { number = number; reading = reading_of (words_of line); words = words_of line })) (kept_from (number + 1) lines)) ≡ cond (not b) (words_of line ∷ rest) rest
    of_line true b kept more = absurd (let wrong : Unreadable ≡ Readable = kept.0 in cc)
    of_line false true kept more = more kept
    of_line false false kept more = ap (λ (l : List (List (List ℕ))). words_of line ∷ l) (more kept.1)

    by : (t : Bool) → AreReadable (if t then cons_option (kept_line number line) (kept_from (number + 1) lines) else record { number = number; reading = PastLimit; words = [] } ∷ [])
        → (AreReadable (kept_from (number + 1) lines) → words_in (kept_from (number + 1) lines) ≡ rest)
        → words_in (if t then cons_option (kept_line number line) (kept_from (number + 1) lines) else record { number = number; reading = PastLimit; words = [] } ∷ []) ≡ cond (not (is_skipped (words_of line))) (words_of line ∷ rest) rest
    by true kept more = of_line (not (list_all is_line_byte line)) (is_skipped (words_of line)) kept more
    by false kept more = absurd (let wrong : PastLimit ≡ Readable = kept.0 in cc)

pub text-says : (bytes : List ℕ) (script : Script) → script_of bytes ≡ Ok script → SayTheSame (cluster_names script.header) (word_lines bytes) (script_lines script)
unfolding script_of
text-says bytes script e =
    let a = steps (header_of (line_after bytes) (kept_of bytes)) _ script e in
    let b = steps (body_behind a.value.header (line_after bytes) 0 a.value.body) _ script a.rest in
    let h = header-is (line_after bytes) (kept_of bytes) a.value a.is in
    let body = body-is a.value.header h.sound.count_most h.few (line_after bytes) a.value.body b.value b.is in
    let readable : AreReadable (kept_of bytes) = subst AreReadable (sym h.parts) (readable-both h.front a.value.body h.readable body.0) in
    let words : word_lines bytes ≡ header_lines a.value.header ++ words_in a.value.body =
    sym (kept-words 1 (text_lines bytes) readable) ∙ ap words_in h.parts ∙ words-both h.front a.value.body ∙ ap (λ (l : List (List (List ℕ))). l ++ words_in a.value.body) h.words in
    subst (λ (s : Script). SayTheSame (cluster_names s.header) (word_lines bytes) (script_lines s)) (ok-same (record { header = a.value.header; lines = b.value }) script b.rest)
    (subst (λ (l : List (List (List ℕ))). SayTheSame (cluster_names a.value.header) l (header_lines a.value.header ++ body_lines a.value.header b.value)) (sym words)
    (say-both (cluster_names a.value.header) (header_lines a.value.header) (header_lines a.value.header) (words_in a.value.body) (body_lines a.value.header b.value)
    (say-itself (cluster_names a.value.header) (header_lines a.value.header)) body.1))

-- two scripts of one text are one
pub one-text : (one two : Script) → IsWellFormed one → IsWellFormed two → script_text one ≡ script_text two → renumbered one ≡ renumbered two
one-text one two first second same = ok-same (renumbered one) (renumbered two) (sym (script_of-text one first) ∙ ap script_of same ∙ script_of-text two second)
