-- Generated scripts are read again as they are, and leave all clusters the same.
use Rattle.std.proofs.Common.{◌≡◌, ℕ, zero, suc, ◌+◌, ◌≤◌, false, true, List, [], ◌∷◌, ◌++◌, codes, decimal, length, Ok, Some, append_assoc, refl, sym, ◌∙◌, ap, arith}
use Rattle.std.specs.List.{AllByRecursion}
use Rattle.ndc_script_types.specs.Print.{act_lines, act_numbered, numbered_from, script_text}
use Rattle.ndc_script_types.specs.declared.script.Act.{Act}
use Rattle.ndc_script_types.specs.declared.script.Act.TheVariants as act
use Rattle.ndc_script_types.specs.declared.script.Header.{Header}
use Rattle.ndc_script_types.specs.declared.script.Line.{Line}
use Rattle.ndc_laws_program.proofs.GeneratedLemmas.{generated-answers, generated-same, generated-sums}
use Rattle.ndc_model.specs.Lines.{ran_of}
use Rattle.ndc_script.specs.Generate.{drawn_lines, generated_header, generated_lines, generated_script, line_at, next_state}
use Rattle.ndc_script.proofs.GeneratedFits.{generated_fits}
use Rattle.ndc_script.proofs.PrintedScript.{script_of-text}
use Rattle.ndc_script_read.specs.Body.{script_of}
use Rattle.ndc_world.specs.Counts.{refused_in}
use Rattle.ndc_world.specs.Summary.{summary_with}
use Rattle.ndc_world.specs.declared.summary.Summary.{Summary}
use Rattle.ndc_world.specs.Rest.{last_world}
use Rattle.ndc_world_queries.specs.Summaries.{totals_of}
use Rattle.ndc_tool_words.specs.WellFormed.{IsWellFormedAsked}
use Rattle.ndc_tool_words.specs.declared.words.Asked.{Asked}
use Rattle.ndc_tool_words.specs.declared.words.Asked.TheVariants.{Demo, Inspect, Make, Rebuild, Run}
use Rattle.ndc_tool_top.specs.Asking.{IfDemo, IfMade}
use Rattle.ndc_tool_top.specs.Demo.{SaysNumbers, SaysSame, answer_of, summary_line}
use Rattle.ndc_tool_top.proofs.PlainLemmas.{generated_plain, is_burst}

-- a line that is not a burst is one line in print, and has no numbers but its own
plain-numbers : (n : ℕ) (asked : Act) → is_burst asked ≡ false → act_numbered n asked ≡ asked
plain-numbers n (act.Burst cluster jobs) e = absurd (cc)
plain-numbers n other e = refl

plain-length : (header : Header) (asked : Act) → is_burst asked ≡ false → length (act_lines header asked) ≡ 1
plain-length header (act.Burst cluster jobs) e = absurd (cc)
plain-length header other e = refl

-- lines have the numbers from this one on
abbrev AreNumbered : ℕ → List Line → Type 0
AreNumbered n [] = Unit {0}
AreNumbered n (line ∷ lines) = (line.number ≡ n) × AreNumbered (n + 1) lines

-- lines without bursts that have them are those of the print
numbered-same : (header : Header) (lines : List Line) (n : ℕ) → AllByRecursion (λ line. is_burst line.act ≡ false) lines → AreNumbered n lines → numbered_from header n lines ≡ lines
numbered-same header [] n plain are = refl
numbered-same header (line ∷ lines) n plain are =
    ap (λ (rest : List Line). record { number = n; act = act_numbered n line.act } ∷ rest)
    (ap (λ (m : ℕ). numbered_from header (n + m) lines) (plain-length header line.act plain.0) ∙ numbered-same header lines (n + 1) plain.1 are.1)
    ∙ ap (λ (first : Line). first ∷ lines) (ap (λ (a : Act). record { number = n; act = a }) (plain-numbers n line.act plain.0) ∙ ap (λ (m : ℕ). record { number = m; act = line.act }) (sym are.0))

-- those of a generated script have them
drawn-numbered : (left place state n last : ℕ) → n ≡ 13 + place → last ≡ 13 + place + left → AreNumbered n (drawn_lines left place state ++ line_at last act.Settle ∷ [])
drawn-numbered zero place state n last first behind = (omega (arith, first, behind), tt)
drawn-numbered (suc left) place state n last first behind = (sym first, drawn-numbered left (place + 1) (next_state state) (n + 1) last (omega (arith, first)) (omega (arith, behind)))

generated-numbered : (count seed : ℕ) → AreNumbered 8 (generated_lines count seed)
generated-numbered count seed = (refl, (refl, (refl, (refl, (refl, (refl, drawn-numbered count 1 seed 14 (14 + count) refl (omega arith)))))))

-- what is printed of a generated script is read again as it
made-again : (count seed : ℕ) → count ≤ 99000 → script_of (script_text (generated_script count seed)) ≡ Ok (generated_script count seed)
made-again count seed most =
    script_of-text (generated_script count seed) (generated_fits count seed most)
    ∙ ap (λ (lines : List Line). Ok (record { header = generated_header; lines = lines })) (numbered-same generated_header (generated_lines count seed) 8 (generated_plain count seed) (generated-numbered count seed))

-- a line on clusters that are the same says so
line-same : (summary : Summary) → summary.same ≡ true → (front : List ℕ) × (summary_line summary ≡ front ++ codes " same yes\n")
line-same summary same =
    let front : List ℕ = codes "answers " ++ decimal summary.answers ++ codes " refused " ++ decimal summary.refused ++ codes " batches " ++ decimal summary.batches ++ codes " workflows " ++ decimal summary.workflows ++ codes " branches " ++ decimal summary.branches in
    (front, ap (λ b. front ++ codes " same " ++ answer_of b ++ codes "\n") same ∙ joined front)
  where
    joined : (front : List ℕ) → front ++ codes " same " ++ codes "yes" ++ codes "\n" ≡ front ++ codes " same yes\n"
    joined front =
        append_assoc (front ++ codes " same ") (codes "yes") (codes "\n") ∙ append_assoc front (codes " same ") (codes "yes" ++ codes "\n")

-- what is shown of a generated script says it
demo-same : (count : ℕ) → count ≤ 99000 → SaysSame (generated_script count 0)
demo-same count most =
    line-same (summary_with (length (ran_of (generated_script count 0))) (refused_in (ran_of (generated_script count 0))) (totals_of generated_header (last_world (generated_script count 0)))) (generated-same count 0 most)

-- and shows numbers that sum its clusters up
demo-numbers : (count : ℕ) → count ≤ 99000 → SaysNumbers (count + 7) (generated_script count 0)
demo-numbers count most = record {
  totals = totals_of generated_header (last_world (generated_script count 0));
  sums = generated-sums count 0 most;
  shown = ap (λ (n : ℕ). summary_line (summary_with n (refused_in (ran_of (generated_script count 0))) (totals_of generated_header (last_world (generated_script count 0))))) (generated-answers count 0);
}

-- so it is of what words ask for
pub if-made-again : (asked : Asked) (n : ℕ) → IsWellFormedAsked asked → IfMade (Some asked) (λ count seed. n ≡ 0 → script_of (script_text (generated_script count seed)) ≡ Ok (generated_script count seed))
if-made-again (Make count seed) n fit = λ _. made-again count seed fit.1
if-made-again (Run workers index late) n fit = tt
if-made-again Rebuild n fit = tt
if-made-again Inspect n fit = tt
if-made-again (Demo count) n fit = tt

pub if-demo-same : (asked : Asked) (n : ℕ) → IsWellFormedAsked asked → IfDemo (Some asked) (λ count. n ≡ 0 → SaysSame (generated_script count 0))
if-demo-same (Demo count) n fit = λ _. demo-same count fit.1
if-demo-same (Run workers index late) n fit = tt
if-demo-same Rebuild n fit = tt
if-demo-same Inspect n fit = tt
if-demo-same (Make count seed) n fit = tt

pub if-demo-numbers : (asked : Asked) (n : ℕ) → IsWellFormedAsked asked → IfDemo (Some asked) (λ count. n ≡ 0 → SaysNumbers (count + 7) (generated_script count 0))
if-demo-numbers (Demo count) n fit = λ _. demo-numbers count fit.1
if-demo-numbers (Run workers index late) n fit = tt
if-demo-numbers Rebuild n fit = tt
if-demo-numbers Inspect n fit = tt
if-demo-numbers (Make count seed) n fit = tt
