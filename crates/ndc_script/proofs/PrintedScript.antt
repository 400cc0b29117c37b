-- A printed script is read again.
use Rattle.std.proofs.Common.{◌≡◌, ℕ, ◌+◌, List, [], ◌∷◌, ◌++◌, length, flat_map, Result, Ok, refl, sym, ap, ◌∙◌, arith}
use Rattle.std.proofs.lemmas.Bool.{and_from}
use Rattle.std.specs.List.{AllByRecursion as ByRecursion}
use Rattle.std.proofs.lemmas.Grind.{flat_map-append}
use Rattle.std.proofs.lemmas.List.{length-map}
use Rattle.std.proofs.lemmas.List.Elements.{recursion_from_All}
use Rattle.std.proofs.lemmas.List.Folds.{list_all-append}
use Rattle.ndc_event.specs.Outcome.{◌>>=◌}
use Rattle.ndc_script_types.specs.declared.script.Header.{Header}
use Rattle.ndc_script_types.specs.declared.script.Line.{Line}
use Rattle.ndc_script_types.specs.declared.script.Script.{Script}
use Rattle.ndc_script_types.specs.declared.script.ScriptError.{ScriptError}
use Rattle.ndc_script_words.specs.Text.{kept_of, line_after}
use Rattle.ndc_script_words.specs.Header.{HeaderRead, header_of}
use Rattle.ndc_script_read.specs.Body.{body_of, script_in, script_of}
use Rattle.ndc_script_types.specs.Print.{line_text, lines_text, cluster_line_of, header_lines, act_lines, body_lines, script_lines, script_text, numbered_from, renumbered}
use Rattle.ndc_script_types.specs.WellFormed.{IsWellFormedAct, IsWellFormed}
use Rattle.ndc_script.proofs.PrintedAreLines.{body-lines, header-lines}
use Rattle.ndc_script.proofs.PrintedBody.{body_of-lines, no_cluster_lines}
use Rattle.ndc_script.proofs.PrintedHeader.{header_of-lines}
use Rattle.ndc_script.proofs.PrintedLines.{is_line, AreLines, kept_numbered, kept_from-lines}

body-text : (header : Header) (lines : List Line) → flat_map (λ line. lines_text (act_lines header line.act)) lines ≡ lines_text (body_lines header lines)
body-text header [] = refl
body-text header (line ∷ lines) =
    ap (λ (rest : List ℕ). lines_text (act_lines header line.act) ++ rest) (body-text header lines)
    ∙ sym (flat_map-append line_text (act_lines header line.act) (body_lines header lines))

-- the text of a script is that of its lines
text-lines : (script : Script) → script_text script ≡ lines_text (script_lines script)
text-lines script =
    ap (λ (rest : List ℕ). lines_text (header_lines script.header) ++ rest) (body-text script.header script.lines)
    ∙ sym (flat_map-append line_text (header_lines script.header) (body_lines script.header script.lines))

script-lines : (script : Script) → IsWellFormed script → AreLines (script_lines script)
script-lines script fit =
    list_all-append is_line (header_lines script.header) (body_lines script.header script.lines)
    ∙ and_from _ _ (header-lines script.header fit.header fit.header.names)
    (body-lines script.header script.lines fit.header.names fit.header (recursion_from_All (λ (line : Line). IsWellFormedAct script.header line.act) script.lines fit.lines))

-- a printed script is read again, line numbers aside
pub script_of-text : (script : Script) → IsWellFormed script → script_of (script_text script) ≡ Ok (renumbered script)
unfolding script_of
script_of-text script fit =
    let text = script_text script in
    let lines = body_lines script.header script.lines in
    let first = 5 + length script.header.clusters.members in
    let acts : ByRecursion (λ line. IsWellFormedAct script.header line.act) script.lines = recursion_from_All (λ (line : Line). IsWellFormedAct script.header line.act) script.lines fit.lines in
    let kept : kept_of text ≡ kept_numbered 1 (script_lines script) =
    ap kept_of (text-lines script) ∙ kept_from-lines 1 (script_lines script) (script-lines script fit) (omega (arith, fit.short)) in
    let header : header_of (line_after text) (kept_of text) ≡ Ok (record { header = script.header; body = kept_numbered first lines }) =
    ap (header_of (line_after text)) kept
    ∙ header_of-lines (line_after text) script.header lines fit.header fit.header.names (no_cluster_lines script.header script.lines) in
    let body : body_of script.header (line_after text) (kept_numbered first lines) ≡ Ok (numbered_from script.header first script.lines) =
    body_of-lines script.header (line_after text) first script.lines fit.header acts in
    let number : first ≡ length (header_lines script.header) + 1 = omega (arith, length-map script.header.clusters.members cluster_line_of) in
    ap (λ (r : Result HeaderRead ScriptError). r >>= script_in (line_after text)) header
    ∙ ap (λ (r : Result (List Line) ScriptError). r >>= (λ ls. Ok (record { header = script.header; lines = ls }))) body
    ∙ ap (λ (n : ℕ). Ok (record { header = script.header; lines = numbered_from script.header n script.lines })) number
