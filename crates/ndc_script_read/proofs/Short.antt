-- A script that is read has no more lines in print than were read for it, and no line past the limit.
use Rattle.std.proofs.Common.{◌≡◌, ℕ, zero, suc, ◌+◌, ◌≤◌, Bool, true, false, nat_le, List, [], ◌∷◌, length, drop, codes, Option, Some, None, Result, Ok, Err, IfOk, if◌then◌else◌, refl, sym, ap, ◌^◌, arith, lit≤}
use Rattle.std.specs.List.{cons_option}
use Rattle.std.proofs.lemmas.Bool.{leb-true}
use Rattle.std.proofs.lemmas.List.{length-map, length-append}
use Rattle.ndc_event.specs.Outcome.{◌>>=◌}
use Rattle.ndc_domain.specs.Clusters.{ClusterList, clusters_of}
use Rattle.ndc_domain.specs.declared.clusters.ClustersError.{ClustersError}
use Rattle.ndc_script_types.specs.declared.script.Act.{Act}
use Rattle.ndc_script_types.specs.declared.script.BurstJob.{BurstJob}
use Rattle.ndc_script_types.specs.declared.script.Header.{Header}
use Rattle.ndc_script_types.specs.declared.script.Line.{Line}
use Rattle.ndc_script_types.specs.declared.script.Script.{Script}
use Rattle.ndc_script_types.specs.declared.script.ScriptError.{ScriptError}
use Rattle.ndc_script_words.specs.declared.text.Reading.{Reading}
use Rattle.ndc_script_words.specs.declared.text.Reading.TheVariants.{Readable, Unreadable, PastLimit}
use Rattle.ndc_script_words.specs.declared.verb.Verb.{Verb}
use Rattle.ndc_script_words.specs.declared.verb.Verb.TheVariants as verb
use Rattle.ndc_script_words.specs.Text.{KeptLine, kept_line, kept_from, kept_of, text_lines, line_after}
use Rattle.ndc_script_types.specs.declared.script.ScriptCause.TheVariants.{BadHeader}
use Rattle.ndc_script_words.specs.Header.{refused, is_cluster_line, Setting, number_read, setting_of, increment_at, member_read, member_of, before_members, members_of, behind_members, placed, body_lines as rest_lines, HeaderRead, clusters_read, header_of}
use Rattle.ndc_script_words.specs.Operands.{known}
use Rattle.ndc_script_read.specs.Body.{job_read, is_end, jobs_of, burst_line, verb_act, act_by, words_act, act_read, body_behind, body_of, script_of}
use Rattle.ndc_script_types.specs.Print.{lines_within, body_lines as printed_lines, header_lines, cluster_line_of, script_lines}
use Rattle.ndc_script_words.specs.Verbs.{verb_of}
use Rattle.ndc_script_types.proofs.Counts.{read_count, body_printed}
use Rattle.ndc_script_words.proofs.Fits.{after}
use Rattle.ndc_script_words.proofs.HeaderNames.{clusters_same}
use Rattle.ndc_script_read.proofs.Singles.{IsSingle, cluster_line_single, pair_line_single, domain_line_single, retain_line_single, target_line_single, handover_line_single, levels_line_single, place_line_single, pull_line_single, places_line_single, settle_line_single, workflow_line_single, compare_line_single, reset_line_single, beat_line_single, progress_line_single, register_line_single, command_line_single}

-- the line is not past the limit
unfoldable pub not_past : Reading → Bool
not_past Readable = true
not_past Unreadable = true
not_past PastLimit = false

-- the first lines, so many, are there, and none of them is past the limit
unfoldable pub Front : ℕ → List KeptLine → Type 0
Front zero lines = Unit {0}
Front (suc n) [] = ⊥
Front (suc n) (line ∷ lines) = (not_past line.reading ≡ true) × Front n lines

-- none of the lines is past the limit
unfoldable pub Within : List KeptLine → Type 0
Within [] = Unit {0}
Within (line ∷ lines) = (not_past line.reading ≡ true) × Within lines

pub weaker : {A E : Type 0} (r : Result A E) (P : A → Type 0) (x : A) → IfOk r P → r ≡ Ok x → P x
weaker (Ok y) P x p is = let same : y ≡ x = cc in rw (sym same) p
weaker (Err e) P x p is = absurd (cc)

always : {A E : Type 0} (r : Result A E) (P Q : A → Type 0) → ((x : A) → P x → Q x) → IfOk r P → IfOk r Q
always (Ok x) P Q step p = step x p
always (Err e) P Q step p = tt

end_within : (reading : Reading) (words : List (List ℕ)) → is_end reading words ≡ true → not_past reading ≡ true
unfolding not_past
end_within Readable words h = refl
end_within Unreadable words h = refl
end_within PastLimit words h = absurd (cc)

job_within : (name : List ℕ) (line : ℕ) (reading : Reading) (words : List (List ℕ)) (job : BurstJob) → job_read name line reading words ≡ Ok job → not_past reading ≡ true
unfolding not_past
job_within name line Readable words job ok = refl
job_within name line Unreadable words job ok = refl
job_within name line PastLimit words job ok = absurd (cc)

job_front : (end : ℕ) (name : List ℕ) (line : KeptLine) (lines : List KeptLine) (b : Bool) → is_end line.reading line.words ≡ b → IfOk (jobs_of end name lines) (λ jobs. Front (suc (length jobs)) lines) → IfOk (if b then Ok [] else (job_read name line.number line.reading line.words >>= (λ job. jobs_of end name lines >>= (λ more. Ok (job ∷ more))))) (λ jobs. Front (suc (length jobs)) (line ∷ lines))
unfolding Front
job_front end name line lines true is rest = (end_within line.reading line.words is, tt)
job_front end name line lines false is rest =
    after (λ (jobs : List BurstJob). Front (suc (length jobs)) (line ∷ lines)) _ (job_read name line.number line.reading line.words) (λ job ok.
    after (λ (jobs : List BurstJob). Front (suc (length jobs)) (line ∷ lines)) _ (jobs_of end name lines) (λ more fine.
    (job_within name line.number line.reading line.words job ok, weaker (jobs_of end name lines) (λ (jobs : List BurstJob). Front (suc (length jobs)) lines) more rest fine)))

-- the lines of a burst, with its `end`, are there
jobs_front : (end : ℕ) (name : List ℕ) (lines : List KeptLine) → IfOk (jobs_of end name lines) (λ jobs. Front (suc (length jobs)) lines)
unfolding jobs_of Front
jobs_front end name [] = tt
jobs_front end name (line ∷ lines) = job_front end name line lines (is_end line.reading line.words) refl (jobs_front end name lines)

-- the lines that belong to a line are there
unfoldable pub FrontOf : List KeptLine → Act → Type 0
FrontOf lines asked = Front (lines_within asked) lines

single_front : (lines : List KeptLine) (r : Result Act ScriptError) → IfOk r IsSingle → IfOk r (FrontOf lines)
unfolding FrontOf Front
single_front lines r single = always r IsSingle (FrontOf lines) (λ asked is. rw is tt) single

burst_front : (header : Header) (end line : ℕ) (words : List (List ℕ)) (lines : List KeptLine) → IfOk (burst_line header end line words lines) (FrontOf lines)
unfolding burst_line FrontOf
burst_front header end line [] lines = tt
burst_front header end line (name ∷ []) lines =
    after (FrontOf lines) _ (known header line name) (λ cluster ok.
    after (FrontOf lines) _ (jobs_of end name lines) (λ jobs fine.
    let same : length jobs + 1 ≡ suc (length jobs) = omega arith in
    rw same (weaker (jobs_of end name lines) (λ (jobs : List BurstJob). Front (suc (length jobs)) lines) jobs (jobs_front end name lines) fine)))
burst_front header end line (name ∷ other ∷ words) lines = tt

verb_front : (header : Header) (end line : ℕ) (begins : Verb) (words : List (List ℕ)) (lines : List KeptLine) → IfOk (verb_act header end line begins words lines) (FrontOf lines)
unfolding verb_act
verb_front header end line (verb.Command command) words lines = single_front lines _ (command_line_single header line command words)
verb_front header end line verb.Burst words lines = burst_front header end line words lines
verb_front header end line verb.Register words lines = single_front lines _ (register_line_single header line words)
verb_front header end line verb.Retain words lines = single_front lines _ (retain_line_single header line words)
verb_front header end line (verb.Domain domain) words lines = single_front lines _ (domain_line_single header line domain words)
verb_front header end line (verb.Target target) words lines = single_front lines _ (target_line_single header line target words)
verb_front header end line verb.Handover words lines = single_front lines _ (handover_line_single header line words)
verb_front header end line (verb.Pair pair) words lines = single_front lines _ (pair_line_single header line pair words)
verb_front header end line verb.Pull words lines = single_front lines _ (pull_line_single header line words)
verb_front header end line (verb.Place place) words lines = single_front lines _ (place_line_single header line place words)
verb_front header end line (verb.Places places) words lines = single_front lines _ (places_line_single header line places words)
verb_front header end line verb.Levels words lines = single_front lines _ (levels_line_single header line words)
verb_front header end line (verb.Cluster cluster) words lines = single_front lines _ (cluster_line_single header line cluster words)
verb_front header end line verb.Settle words lines = single_front lines _ (settle_line_single line words)
verb_front header end line (verb.Workflow workflow) words lines = single_front lines _ (workflow_line_single header line workflow words)
verb_front header end line verb.Compare words lines = single_front lines _ (compare_line_single header line words)
verb_front header end line verb.Reset words lines = single_front lines _ (reset_line_single header line words)
verb_front header end line verb.Beat words lines = single_front lines _ (beat_line_single header line words)
verb_front header end line verb.Progress words lines = single_front lines _ (progress_line_single header line words)

by_front : (header : Header) (end line : ℕ) (begins : Option Verb) (words : List (List ℕ)) (lines : List KeptLine) → IfOk (act_by header end line begins words lines) (FrontOf lines)
by_front header end line None words lines = tt
by_front header end line (Some begins) words lines = verb_front header end line begins words lines

words_front : (header : Header) (end line : ℕ) (words : List (List ℕ)) (lines : List KeptLine) → IfOk (words_act header end line words lines) (FrontOf lines)
unfolding words_act
words_front header end line [] lines = tt
words_front header end line (word ∷ words) lines = by_front header end line (verb_of word) words lines

pub act_front : (header : Header) (end line : ℕ) (reading : Reading) (words : List (List ℕ)) (lines : List KeptLine) → IfOk (act_read header end line reading words lines) (FrontOf lines)
act_front header end line Readable words lines = words_front header end line words lines
act_front header end line Unreadable words lines = tt
act_front header end line PastLimit words lines = tt

act_within : (header : Header) (end line : ℕ) (reading : Reading) (words : List (List ℕ)) (lines : List KeptLine) (asked : Act) → act_read header end line reading words lines ≡ Ok asked → not_past reading ≡ true
unfolding not_past
act_within header end line Readable words lines asked ok = refl
act_within header end line Unreadable words lines asked ok = refl
act_within header end line PastLimit words lines asked ok = absurd (cc)

-- the lines of a body, after those that belong to the line before: none is past the limit, and there are enough
pub record Counted (within : ℕ) (lines : List KeptLine) (read : List Line) : Type 0 where
  pub none_past : Within lines
  pub enough : within + read_count read ≤ length lines

counted_none : (lines : List KeptLine) → Counted 0 [] []
unfolding Within read_count
counted_none lines = record { none_past = tt; enough = omega arith }

pub body_counted : (header : Header) (end within : ℕ) (lines : List KeptLine) → Front within lines → IfOk (body_behind header end within lines) (Counted within lines)
unfolding body_behind Front Within read_count FrontOf
body_counted header end zero [] front = record { none_past = tt; enough = omega arith }
body_counted header end (suc within) [] front = absurd front
body_counted header end (suc within) (line ∷ lines) front =
    always (body_behind header end within lines) (Counted within lines) (Counted (suc within) (line ∷ lines))
    (λ read counted. record { none_past = (front.0, counted.none_past); enough = omega (arith, counted.enough) }) (body_counted header end within lines front.1)
body_counted header end zero (line ∷ lines) front =
    after (Counted 0 (line ∷ lines)) _ (act_read header end line.number line.reading line.words lines) (λ asked ok.
    after (Counted 0 (line ∷ lines)) _ (body_behind header end (lines_within asked) lines) (λ more fine.
    let fronts : Front (lines_within asked) lines = weaker (act_read header end line.number line.reading line.words lines) (FrontOf lines) asked (act_front header end line.number line.reading line.words lines) ok in
    let counted : Counted (lines_within asked) lines more = weaker (body_behind header end (lines_within asked) lines) (Counted (lines_within asked) lines) more (body_counted header end (lines_within asked) lines fronts) fine in
    record { none_past = (act_within header end line.number line.reading line.words lines asked ok, counted.none_past); enough = omega (arith, counted.enough) }))

-- what is kept of a text, where none is past the limit, are at most 100,000 lines
kept_by : (number : ℕ) (b : Bool) (kept : Option KeptLine) (rest : List KeptLine) → nat_le number 100000 ≡ b → (number + 1 ≤ 100001 → Within rest → number + 1 + length rest ≤ 100001) → number ≤ 100001 → Within (if b then cons_option kept rest else record { number = number; reading = PastLimit; words = [] } ∷ []) → number + length (if b then cons_option kept rest else record { number = number; reading = PastLimit; words = [] } ∷ []) ≤ 100001
unfolding Within not_past
kept_by number false kept rest is step most none = absurd (cc (none.0))
kept_by number true None rest is step most none =
    let few : number ≤ 100000 = leb-true number 100000 is in omega (arith, step (omega (arith, few)) none)
kept_by number true (Some kept) rest is step most none =
    let few : number ≤ 100000 = leb-true number 100000 is in omega (arith, step (omega (arith, few)) none.1)

kept_few : (number : ℕ) (lines : List (List ℕ)) → number ≤ 100001 → Within (kept_from number lines) → number + length (kept_from number lines) ≤ 100001
kept_few number [] most none = omega arith
kept_few number (line ∷ lines) most none =
    kept_by number (nat_le number 100000) (kept_line number line) (kept_from (number + 1) lines) refl (kept_few (number + 1) lines) most none

-- what a header takes of lines: so many, none of them past the limit
pub record Took (lines : List KeptLine) (count : ℕ) (rest : List KeptLine) : Type 0 where
  pub counts : length lines ≡ count + length rest
  pub none_past : Within rest → Within lines

number_within : (line : ℕ) (reading : Reading) (number : Option ℕ) (value : ℕ) → number_read line reading number ≡ Ok value → not_past reading ≡ true
unfolding not_past
number_within line Readable number value ok = refl
number_within line Unreadable number value ok = refl
number_within line PastLimit number value ok = absurd (cc)

setting_took : (key : List ℕ) (low high end : ℕ) (lines : List KeptLine) → IfOk (setting_of key low high end lines) (λ setting. Took lines 1 setting.rest)
unfolding setting_of Within
setting_took key low high end [] = tt
setting_took key low high end (line ∷ rest) =
    after (λ (setting : Setting). Took (line ∷ rest) 1 setting.rest) _ (number_read line.number line.reading _) (λ value ok.
    record { counts = omega arith; none_past = λ none. (number_within line.number line.reading _ value ok, none) })

read_within : (reading : Reading) (words : List (List ℕ)) (member : List ℕ × ℕ) → member_read reading words ≡ Some member → not_past reading ≡ true
unfolding not_past
read_within Readable words member ok = refl
read_within Unreadable words member ok = refl
read_within PastLimit words member ok = absurd (cc)

members_by : (line : KeptLine) (lines : List KeptLine) (member : Option (List ℕ × ℕ)) → member_of line ≡ member → Took lines (length (members_of lines)) (drop (length (members_of lines)) lines) → Took (line ∷ lines) (length (before_members member (members_of lines))) (drop (length (before_members member (members_of lines))) (line ∷ lines))
unfolding Within
members_by line lines None is took = record { counts = omega arith; none_past = λ none. none }
members_by line lines (Some member) is took =
    record { counts = omega (arith, took.counts); none_past = λ none. (read_within line.reading line.words member is, took.none_past none) }

pub members_took : (lines : List KeptLine) → Took lines (length (members_of lines)) (behind_members lines)
unfolding Within
members_took [] = record { counts = refl; none_past = λ none. none }
members_took (line ∷ lines) = members_by line lines (member_of line) refl (members_took lines)

body_by : (line : KeptLine) (lines : List KeptLine) (b : Bool) → IfOk (if b then refused line.number BadHeader else Ok (line ∷ lines)) (λ body. body ≡ line ∷ lines)
body_by line lines true = tt
body_by line lines false = refl

same_body : (lines : List KeptLine) → IfOk (rest_lines lines) (λ body. body ≡ lines)
same_body [] = refl
same_body (line ∷ lines) = body_by line lines (is_cluster_line line.words)

pub placed_ok : (end increment : ℕ) (lines : List KeptLine) (made : Result ClusterList ClustersError) (clusters : ClusterList) → placed end increment lines made ≡ Ok clusters → made ≡ Ok clusters
placed_ok end increment lines (Ok one) clusters ok = let same : one ≡ clusters = cc in ap Ok same
placed_ok end increment lines (Err error) clusters ok = absurd (cc)

-- a header that was read took its lines
unfoldable pub TookHeader : List KeptLine → ℕ → HeaderRead → Type 0
TookHeader lines before read = Took lines (before + length read.header.clusters.members) read.body

clusters_took : (end : ℕ) (increment : Setting) (shards limit : ℕ) (lines : List KeptLine) → IfOk (clusters_read end increment shards limit lines) (TookHeader lines 0)
unfolding clusters_read TookHeader
clusters_took end increment shards limit lines =
    after (TookHeader lines 0) _ (placed end increment.line lines (clusters_of increment.value (members_of lines))) (λ clusters ok.
    after (TookHeader lines 0) _ (rest_lines (behind_members lines)) (λ body fine.
    let members : members_of lines ≡ clusters.members = clusters_same increment.value (members_of lines) clusters (placed_ok end increment.line lines (clusters_of increment.value (members_of lines)) clusters ok) in
    let rest : body ≡ behind_members lines = weaker (rest_lines (behind_members lines)) (λ (b : List KeptLine). b ≡ behind_members lines) body (same_body (behind_members lines)) fine in
    let took = members_took lines in
    rw rest (record { counts = omega (arith, took.counts, ap length members); none_past = took.none_past })))

took_on : (before : ℕ) (lines rest : List KeptLine) (count : ℕ) (read : HeaderRead) → Took lines count rest → TookHeader rest before read → TookHeader lines (count + before) read
unfolding TookHeader
took_on before lines rest count read one two = record { counts = omega (arith, one.counts, two.counts); none_past = λ none. one.none_past (two.none_past none) }

next_took : (key : List ℕ) (low high end before : ℕ) (lines : List KeptLine) (f : Setting → Result HeaderRead ScriptError) → ((setting : Setting) → IfOk (f setting) (TookHeader setting.rest before)) → IfOk (setting_of key low high end lines >>= f) (TookHeader lines (1 + before))
next_took key low high end before lines f step =
    after (TookHeader lines (1 + before)) f (setting_of key low high end lines) (λ setting ok.
    always (f setting) (TookHeader setting.rest before) (TookHeader lines (1 + before))
    (λ read. took_on before lines setting.rest 1 read (weaker (setting_of key low high end lines) (λ (s : Setting). Took lines 1 s.rest) setting (setting_took key low high end lines) ok)) (step setting))

pub header_took : (end : ℕ) (lines : List KeptLine) → IfOk (header_of end lines) (TookHeader lines 4)
unfolding header_of
header_took end lines =
    next_took (codes "ndc") 1 1 end 3 lines _ (λ edition.
    next_took (codes "increment") 0 (10 ^ 18) end 2 edition.rest _ (λ increment.
    after (TookHeader increment.rest 2) _ (increment_at increment.line increment.value) (λ lawful ok.
    next_took (codes "shards") 1 64 end 1 increment.rest _ (λ shards.
    next_took (codes "limit") 10 204800 end 0 shards.rest _ (λ limit.
    clusters_took end increment shards.value limit.value limit.rest)))))

-- a script has few enough lines in print
abbrev pub IsShort : Script → Type 0
IsShort script = length (script_lines script) ≤ 100000

lines_short : (header : Header) (kept body : List KeptLine) (lines : List Line) → Took kept (4 + length header.clusters.members) body → Counted 0 body lines → (Within kept → 1 + length kept ≤ 100001) → IsShort (record { header = header; lines = lines })
lines_short header kept body lines took counted few =
    omega (arith, took.counts, counted.enough, few (took.none_past counted.none_past), length-append (header_lines header) (printed_lines header lines), length-map header.clusters.members cluster_line_of, body_printed header lines)

-- a script that is read has few enough lines in print
pub script_short : (bytes : List ℕ) → IfOk (script_of bytes) IsShort
unfolding script_of TookHeader Front
script_short bytes =
    let end = line_after bytes in
    let kept = kept_of bytes in
    after IsShort _ (header_of end kept) (λ read ok.
    after IsShort _ (body_of read.header end read.body) (λ lines fine.
    lines_short read.header kept read.body lines
    (weaker (header_of end kept) (TookHeader kept 4) read (header_took end kept) ok)
    (weaker (body_of read.header end read.body) (Counted 0 read.body) lines (body_counted read.header end 0 read.body tt) fine)
    (kept_few 1 (text_lines bytes) (lit≤ tt))))

pub short_of : (bytes : List ℕ) (script : Script) → script_of bytes ≡ Ok script → IsShort script
short_of bytes script ok = weaker (script_of bytes) IsShort script (script_short bytes) ok
