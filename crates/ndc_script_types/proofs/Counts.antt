-- As many lines are printed of a body as its lines say.
use Rattle.std.proofs.Common.{◌≡◌, ℕ, suc, ◌+◌, List, [], ◌∷◌, length, map, codes, refl, arith}
use Rattle.std.proofs.lemmas.List.{length-map, length-append}
use Rattle.ndc_domain.specs.Clusters.{name_of}
use Rattle.ndc_script_types.specs.declared.script.Act.{Act}
use Rattle.ndc_script_types.specs.declared.script.Act.TheVariants as act
use Rattle.ndc_script_types.specs.declared.script.Header.{Header}
use Rattle.ndc_script_types.specs.declared.script.Line.{Line}
use Rattle.ndc_script_types.specs.Print.{lines_within, job_words, act_lines, body_lines}

-- how many lines were read for lines
unfoldable pub read_count : List Line → ℕ
read_count [] = 0
read_count (line ∷ lines) = suc (lines_within line.act) + read_count lines

-- as many lines are printed of a line as were read for it
pub printed_count : (header : Header) (asked : Act) → length (act_lines header asked) ≡ suc (lines_within asked)
printed_count header (act.Burst cluster jobs) =
    omega (arith, length-append (map (job_words (name_of header.clusters cluster)) jobs) ((codes "end" ∷ []) ∷ []), length-map jobs (job_words (name_of header.clusters cluster)))
printed_count header (act.Command _ _ _ _) = refl
printed_count header (act.Register _ _ _ _ _) = refl
printed_count header (act.Retain _ _ _) = refl
printed_count header (act.Join _ _ _) = refl
printed_count header (act.Failover _ _ _) = refl
printed_count header (act.Domains _ _) = refl
printed_count header (act.Domain _ _) = refl
printed_count header (act.MembersOf _ _) = refl
printed_count header (act.Pull _ _) = refl
printed_count header (act.PullSome _ _ _ _) = refl
printed_count header (act.Lose _ _ _ _) = refl
printed_count header (act.Repeat _ _ _ _) = refl
printed_count header (act.Move _ _ _ _ _) = refl
printed_count header (act.Work _) = refl
printed_count header (act.Rewind _ _) = refl
printed_count header (act.Trim _) = refl
printed_count header (act.LevelsOf _ _ _) = refl
printed_count header (act.Gaps _) = refl
printed_count header (act.Resend _) = refl
printed_count header (act.Bootstrap _ _) = refl
printed_count header act.Settle = refl
printed_count header (act.History _ _ _) = refl
printed_count header (act.Branches _ _ _) = refl
printed_count header (act.Current _ _ _) = refl
printed_count header (act.StateOf _ _ _) = refl
printed_count header (act.Dump _ _ _) = refl
printed_count header (act.Compare _ _ _ _) = refl
printed_count header (act.Handover _ _ _) = refl
printed_count header (act.Complete _ _) = refl
printed_count header (act.Reset _ _ _ _) = refl
printed_count header (act.Damage _ _ _ _ _) = refl
printed_count header (act.LettersOf _) = refl
printed_count header (act.Purge _) = refl
printed_count header (act.MergeLetters _) = refl
printed_count header (act.Beat _ _ _ _ _) = refl
printed_count header (act.Sync _ _) = refl
printed_count header (act.ProgressOf _ _ _ _) = refl

pub body_printed : (header : Header) (lines : List Line) → length (body_lines header lines) ≡ read_count lines
unfolding read_count
body_printed header [] = refl
body_printed header (line ∷ lines) =
    omega (arith, length-append (act_lines header line.act) (body_lines header lines), printed_count header line.act, body_printed header lines)
