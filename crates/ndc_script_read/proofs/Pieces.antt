-- Lines that are read piece by piece.
use Rattle.std.proofs.Common.{◌≡◌, ℕ, zero, suc, ◌+◌, ◌<◌, ◌≤◌, ◌^◌, ◌==◌, Bool, true, false, nat_le, List, [], ◌∷◌, ◌++◌, length, drop, codes, Option, Some, None, Result, Ok, Err, if◌then◌else◌, refl, ap, ◌∙◌, subst, arith}
use Rattle.std.specs.Prelude.{◌≢◌}
use Rattle.std.specs.List.{cons_option, onto_first}
use Rattle.std.specs.Str.{bytes_eq}
use Rattle.std.proofs.lemmas.Bool.{leb-true, leb-false, lt-leb}
use Rattle.std.proofs.lemmas.List.{length-append, drop-append-le}
use Rattle.ndc_event.specs.Outcome.{◌>>=◌}
use Rattle.ndc_domain.specs.Clusters.{ClusterList, clusters_of}
use Rattle.ndc_domain.specs.declared.clusters.ClusterNo.{ClusterNo}
use Rattle.ndc_domain.specs.declared.clusters.ClustersError.{ClustersError}
use Rattle.ndc_script_types.specs.declared.script.Act.{Act}
use Rattle.ndc_script_types.specs.declared.script.Act.TheVariants as act
use Rattle.ndc_script_types.specs.declared.script.BurstJob.{BurstJob}
use Rattle.ndc_script_types.specs.declared.script.Header.{Header}
use Rattle.ndc_script_types.specs.declared.script.Line.{Line}
use Rattle.ndc_script_types.specs.declared.script.Script.{Script}
use Rattle.ndc_script_types.specs.declared.script.ScriptCause.TheVariants.{BadHeader}
use Rattle.ndc_script_types.specs.declared.script.ScriptError.{ScriptError}
use Rattle.ndc_script_types.specs.Print.{lines_within}
use Rattle.ndc_script_words.specs.declared.text.Reading.{Reading}
use Rattle.ndc_script_words.specs.declared.text.Reading.TheVariants.{Readable, Unreadable, PastLimit}
use Rattle.ndc_script_words.specs.declared.verb.Verb.{Verb}
use Rattle.ndc_script_words.specs.declared.verb.Verb.TheVariants as verb
use Rattle.ndc_script_words.specs.Text.{KeptLine, kept_line, kept_from, kept_of, line_after, line_behind, text_lines}
use Rattle.ndc_script_words.specs.Header.{refused, is_cluster_line, Setting, number_read, keyed_number, within, setting_of, increment_at, cluster_words, member_read, member_of, before_members, members_of, behind_members, placed, body_lines, HeaderRead, clusters_read, header_of}
use Rattle.ndc_script_words.specs.Operands.{known}
use Rattle.ndc_script_words.specs.Verbs.{verb_of}
use Rattle.ndc_script_read.specs.Body.{job_read, is_end, jobs_of, burst_line, verb_act, act_by, words_act, act_read, body_behind, body_of, lines_read, script_in, script_of}
use Rattle.ndc_script_read.specs.Pieces.{is_whole, begins_cluster, with_front, with_rest}
use Rattle.ndc_script_read.proofs.LineLists.{behind}
use Rattle.ndc_script_read.proofs.Short.{Front, FrontOf, Within, not_past, weaker, Counted, act_front, body_counted, members_took, TookHeader, header_took}

went : {A B E : Type 0} (r : Result A E) (f : A → Result B E) (x : B) → (r >>= f) ≡ Ok x → (a : A) × (r ≡ Ok a) × (f a ≡ Ok x)
went (Ok a) f x e = (a, refl, e)
went (Err error) f x e = absurd (cc)

-- ---- past the limit, the line after the last plays no part

late-by : (header : Header) (one two first : ℕ) (kept : List KeptLine) (b : Bool) → b ≡ false
    → body_of header one (if b then kept else record { number = first; reading = PastLimit; words = [] } ∷ []) ≡ body_of header two (if b then kept else record { number = first; reading = PastLimit; words = [] } ∷ [])
unfolding body_behind
late-by header one two first kept true is = absurd (cc)
late-by header one two first kept false is = refl

late : (header : Header) (one two first : ℕ) (lines : List (List ℕ)) → 100000 < first → body_of header one (kept_from first lines) ≡ body_of header two (kept_from first lines)
unfolding body_behind
late header one two first [] past = refl
late header one two first (line ∷ lines) past = late-by header one two first (cons_option (kept_line first line) (kept_from (first + 1) lines)) (nat_le first 100000) (lt-leb first 100000 past)

-- what is read is the same where the number of the line after the last is right as far as it plays a part
pub end-right : (header : Header) (first end : ℕ) (bytes : List ℕ) → (first ≤ 100000 → end ≡ line_behind first bytes)
    → body_of header end (kept_from first (text_lines bytes)) ≡ lines_read header first bytes
end-right header first end bytes right = by (nat_le first 100000) refl
  where
    by : (b : Bool) → nat_le first 100000 ≡ b → body_of header end (kept_from first (text_lines bytes)) ≡ lines_read header first bytes
    by true is = ap (λ (n : ℕ). body_of header n (kept_from first (text_lines bytes))) (right (leb-true first 100000 is))
    by false is = late header end (line_behind first bytes) first (text_lines bytes) (leb-false first 100000 is)

-- ---- texts

onto-apart : (byte : ℕ) (one two : List (List ℕ)) → one ≢ [] → onto_first byte (one ++ two) ≡ onto_first byte one ++ two
onto-apart byte [] two some = absurd (some refl)
onto-apart byte (line ∷ one) two some = refl

some-lines : (byte : ℕ) (bytes : List ℕ) → text_lines (byte ∷ bytes) ≢ []
some-lines byte bytes = by (byte == 10) (text_lines bytes)
  where
    by : (t : Bool) (lines : List (List ℕ)) → (if t then [] ∷ lines else onto_first byte lines) ≢ []
    by true lines none = absurd (cc)
    by false [] none = absurd (cc)
    by false (line ∷ lines) none = absurd (cc)

last-apart : (byte : ℕ) (two : List ℕ) (t : Bool) → t ≡ true → (if t then [] ∷ text_lines two else onto_first byte (text_lines two)) ≡ (if t then [] ∷ [] else onto_first byte []) ++ text_lines two
last-apart byte two true whole = refl
last-apart byte two false whole = absurd (cc)

-- the lines of two texts, the first of which is whole
lines-apart : (one two : List ℕ) → is_whole one ≡ true → text_lines (one ++ two) ≡ text_lines one ++ text_lines two
lines-apart [] two whole = refl
lines-apart (byte ∷ []) two whole = last-apart byte two (byte == 10) whole
lines-apart (byte ∷ next ∷ bytes) two whole = by (byte == 10) (lines-apart (next ∷ bytes) two whole)
  where
    by : (t : Bool) → text_lines (next ∷ bytes ++ two) ≡ text_lines (next ∷ bytes) ++ text_lines two
        → (if t then [] ∷ text_lines (next ∷ bytes ++ two) else onto_first byte (text_lines (next ∷ bytes ++ two)))
        ≡ (if t then [] ∷ text_lines (next ∷ bytes) else onto_first byte (text_lines (next ∷ bytes))) ++ text_lines two
    by true e = ap (λ lines. [] ∷ lines) e
    by false e = ap (onto_first byte) e ∙ onto-apart byte (text_lines (next ∷ bytes)) (text_lines two) (some-lines next bytes)

kept-by : (number : ℕ) (b : Bool) (kept : Option KeptLine) (one both rest : List KeptLine) → (Within one → both ≡ one ++ rest)
    → Within (if b then cons_option kept one else record { number = number; reading = PastLimit; words = [] } ∷ [])
    → (if b then cons_option kept both else record { number = number; reading = PastLimit; words = [] } ∷ [])
    ≡ (if b then cons_option kept one else record { number = number; reading = PastLimit; words = [] } ∷ []) ++ rest
unfolding Within not_past
kept-by number false kept one both rest step none = absurd (cc (none.0))
kept-by number true None one both rest step none = step none
kept-by number true (Some line) one both rest step none = ap (λ lines. line ∷ lines) (step none.1)

-- what is kept of lines, of which none of the first ones is past the limit
kept-apart : (number : ℕ) (one two : List (List ℕ)) → Within (kept_from number one) → kept_from number (one ++ two) ≡ kept_from number one ++ kept_from (number + length one) two
kept-apart number [] two none = let same : number ≡ number + 0 = omega arith in ap (λ (n : ℕ). kept_from n two) same
kept-apart number (line ∷ one) two none =
    let same : number + 1 + length one ≡ number + suc (length one) = omega arith in
    kept-by number (nat_le number 100000) (kept_line number line) (kept_from (number + 1) one) (kept_from (number + 1) (one ++ two)) (kept_from (number + suc (length one)) two)
    (λ none. kept-apart (number + 1) one two none ∙ ap (λ (n : ℕ). kept_from (number + 1) one ++ kept_from n two) same) none

-- ---- the body

jobs-more : (end other : ℕ) (name : List ℕ) (lines more : List KeptLine) (jobs : List BurstJob) → jobs_of end name lines ≡ Ok jobs → jobs_of other name (lines ++ more) ≡ Ok jobs
unfolding jobs_of
jobs-more end other name [] more jobs e = absurd (cc)
jobs-more end other name (line ∷ lines) more jobs e = by (is_end line.reading line.words) e (jobs-more end other name lines more)
  where
    by : (t : Bool)
        → (if t then Ok [] else (job_read name line.number line.reading line.words >>= (λ job. jobs_of end name lines >>= (λ rest. Ok (job ∷ rest))))) ≡ Ok jobs
        → ((rest : List BurstJob) → jobs_of end name lines ≡ Ok rest → jobs_of other name (lines ++ more) ≡ Ok rest)
        → (if t then Ok [] else (job_read name line.number line.reading line.words >>= (λ job. jobs_of other name (lines ++ more) >>= (λ rest. Ok (job ∷ rest))))) ≡ Ok jobs
    by true e step = e
    by false e step =
        let one = went (job_read name line.number line.reading line.words) _ jobs e in
        let two = went (jobs_of end name lines) _ jobs one.2 in
        ap (λ (r : Result BurstJob ScriptError). r >>= (λ job. jobs_of other name (lines ++ more) >>= (λ rest. Ok (job ∷ rest)))) one.1
        ∙ ap (λ (r : Result (List BurstJob) ScriptError). r >>= (λ rest. Ok (one.0 ∷ rest))) (step two.0 two.1)
        ∙ two.2

burst-more : (header : Header) (end other line : ℕ) (words : List (List ℕ)) (lines more : List KeptLine) (asked : Act) → burst_line header end line words lines ≡ Ok asked → burst_line header other line words (lines ++ more) ≡ Ok asked
unfolding burst_line
burst-more header end other line [] lines more asked e = e
burst-more header end other line (name ∷ []) lines more asked e =
    let one = went (known header line name) _ asked e in
    let two = went (jobs_of end name lines) _ asked one.2 in
    ap (λ (r : Result ClusterNo ScriptError). r >>= (λ cluster. jobs_of other name (lines ++ more) >>= (λ jobs. Ok (act.Burst cluster jobs)))) one.1
    ∙ ap (λ (r : Result (List BurstJob) ScriptError). r >>= (λ jobs. Ok (act.Burst one.0 jobs))) (jobs-more end other name lines more two.0 two.1)
    ∙ two.2
burst-more header end other line (name ∷ word ∷ words) lines more asked e = e

verb-more : (header : Header) (end other line : ℕ) (begins : Verb) (words : List (List ℕ)) (lines more : List KeptLine) (asked : Act) → verb_act header end line begins words lines ≡ Ok asked → verb_act header other line begins words (lines ++ more) ≡ Ok asked
unfolding verb_act
verb-more header end other line (verb.Command command) words lines more asked e = e
verb-more header end other line verb.Burst words lines more asked e = burst-more header end other line words lines more asked e
verb-more header end other line verb.Register words lines more asked e = e
verb-more header end other line verb.Retain words lines more asked e = e
verb-more header end other line (verb.Domain which) words lines more asked e = e
verb-more header end other line (verb.Target target) words lines more asked e = e
verb-more header end other line verb.Handover words lines more asked e = e
verb-more header end other line (verb.Pair pair) words lines more asked e = e
verb-more header end other line verb.Pull words lines more asked e = e
verb-more header end other line (verb.Place place) words lines more asked e = e
verb-more header end other line (verb.Places places) words lines more asked e = e
verb-more header end other line verb.Levels words lines more asked e = e
verb-more header end other line (verb.Cluster cluster) words lines more asked e = e
verb-more header end other line verb.Settle words lines more asked e = e
verb-more header end other line (verb.Workflow workflow) words lines more asked e = e
verb-more header end other line verb.Compare words lines more asked e = e
verb-more header end other line verb.Reset words lines more asked e = e
verb-more header end other line verb.Beat words lines more asked e = e
verb-more header end other line verb.Progress words lines more asked e = e

by-more : (header : Header) (end other line : ℕ) (begins : Option Verb) (words : List (List ℕ)) (lines more : List KeptLine) (asked : Act) → act_by header end line begins words lines ≡ Ok asked → act_by header other line begins words (lines ++ more) ≡ Ok asked
by-more header end other line None words lines more asked e = e
by-more header end other line (Some begins) words lines more asked e = verb-more header end other line begins words lines more asked e

words-more : (header : Header) (end other line : ℕ) (words : List (List ℕ)) (lines more : List KeptLine) (asked : Act) → words_act header end line words lines ≡ Ok asked → words_act header other line words (lines ++ more) ≡ Ok asked
unfolding words_act
words-more header end other line [] lines more asked e = e
words-more header end other line (word ∷ words) lines more asked e = by-more header end other line (verb_of word) words lines more asked e

-- a line asks for the same where more lines stand after it
act-more : (header : Header) (end other line : ℕ) (reading : Reading) (words : List (List ℕ)) (lines more : List KeptLine) (asked : Act) → act_read header end line reading words lines ≡ Ok asked → act_read header other line reading words (lines ++ more) ≡ Ok asked
act-more header end other line Readable words lines more asked e = words-more header end other line words lines more asked e
act-more header end other line Unreadable words lines more asked e = e
act-more header end other line PastLimit words lines more asked e = e

behind-none : {A E : Type 0} (rest : Result (List A) E) → rest ≡ behind [] rest
behind-none (Ok items) = refl
behind-none (Err error) = refl

behind-next : {A E : Type 0} (item : A) (front : List A) (rest : Result (List A) E) → (behind front rest >>= (λ more. Ok (item ∷ more))) ≡ behind (item ∷ front) rest
behind-next item front (Ok items) = refl
behind-next item front (Err error) = refl

-- lines that are read, and more after them
body-more : (header : Header) (end other n : ℕ) (lines more : List KeptLine) (read : List Line) → Front n lines → body_behind header end n lines ≡ Ok read
    → body_behind header other n (lines ++ more) ≡ behind read (body_behind header other 0 more)
unfolding body_behind Front FrontOf
body-more header end other zero [] more read front e =
    let none : [] ≡ read = cc in subst (λ (r : List Line). body_behind header other 0 more ≡ behind r (body_behind header other 0 more)) none (behind-none (body_behind header other 0 more))
body-more header end other (suc n) [] more read front e = absurd front
body-more header end other (suc n) (line ∷ lines) more read front e = body-more header end other n lines more read front.1 e
body-more header end other zero (line ∷ lines) more read front e =
    let one = went (act_read header end line.number line.reading line.words lines) _ read e in
    let two = went (body_behind header end (lines_within one.0) lines) _ read one.2 in
    let whole : record { number = line.number; act = one.0 } ∷ two.0 ≡ read = cc in
    let fronts : Front (lines_within one.0) lines = weaker (act_read header end line.number line.reading line.words lines) (FrontOf lines) one.0 (act_front header end line.number line.reading line.words lines) one.1 in
    ap (λ (r : Result Act ScriptError). r >>= (λ asked. body_behind header other (lines_within asked) (lines ++ more) >>= (λ rest. Ok (record { number = line.number; act = asked } ∷ rest))))
    (act-more header end other line.number line.reading line.words lines more one.0 one.1)
    ∙ ap (λ (r : Result (List Line) ScriptError). r >>= (λ rest. Ok (record { number = line.number; act = one.0 } ∷ rest))) (body-more header end other (lines_within one.0) lines more two.0 fronts two.1)
    ∙ behind-next (record { number = line.number; act = one.0 }) two.0 (body_behind header other 0 more)
    ∙ ap (λ (r : List Line). behind r (body_behind header other 0 more)) whole

behind-is : {A E : Type 0} (front : List A) (rest : Result (List A) E) → behind front rest ≡ (rest >>= (λ more. Ok (front ++ more)))
behind-is front (Ok items) = refl
behind-is front (Err error) = refl

none-past : (header : Header) (end : ℕ) (lines : List KeptLine) (read : List Line) → body_of header end lines ≡ Ok read → Within lines
unfolding Front
none-past header end lines read e = (weaker (body_of header end lines) (Counted 0 lines) read (body_counted header end 0 lines tt) e).none_past

-- lines that are read, and those of the rest of the text
pub read-apart : (header : Header) (first : ℕ) (one two : List ℕ) (front : List Line) → is_whole one ≡ true → lines_read header first one ≡ Ok front
    → lines_read header first (one ++ two) ≡ with_front front (lines_read header (line_behind first one) two)
unfolding Front
read-apart header first one two front whole e =
    let lines = text_lines one in
    let rest = text_lines two in
    let apart : text_lines (one ++ two) ≡ lines ++ rest = lines-apart one two whole in
    let sums : first + length (lines ++ rest) ≡ first + length lines + length rest = omega (arith, length-append lines rest) in
    let end : line_behind first (one ++ two) ≡ line_behind (line_behind first one) two = ap (λ (ls : List (List ℕ)). first + length ls) apart ∙ sums in
    ap (λ (ls : List (List ℕ)). body_of header (line_behind first (one ++ two)) (kept_from first ls)) apart
    ∙ ap (body_of header (line_behind first (one ++ two))) (kept-apart first lines rest (none-past header (line_behind first one) (kept_from first lines) front e))
    ∙ body-more header (line_behind first one) (line_behind first (one ++ two)) 0 (kept_from first lines) (kept_from (line_behind first one) rest) front tt e
    ∙ ap (λ (n : ℕ). behind front (body_of header n (kept_from (line_behind first one) rest))) end
    ∙ behind-is front (lines_read header (line_behind first one) two)

-- ---- the header

setting-more : (key : List ℕ) (low high end other : ℕ) (lines more : List KeptLine) (setting : Setting) → setting_of key low high end lines ≡ Ok setting
    → setting_of key low high other (lines ++ more) ≡ Ok (record { line = setting.line; value = setting.value; rest = setting.rest ++ more })
unfolding setting_of
setting-more key low high end other [] more setting e = absurd (cc)
setting-more key low high end other (line ∷ lines) more setting e =
    let one = went (number_read line.number line.reading (within low high (keyed_number key line.words))) _ setting e in
    let same : record { line = line.number; value = one.0; rest = lines } ≡ setting = cc in
    ap (λ (r : Result ℕ ScriptError). r >>= (λ value. Ok (record { line = line.number; value = value; rest = lines ++ more }))) one.1
    ∙ ap (λ (s : Setting). Ok (record { line = s.line; value = s.value; rest = s.rest ++ more })) same

no-words : (b : Bool) (member : Option (List ℕ × ℕ)) → b ≡ false → (if b then member else None) ≡ None
no-words true member is = absurd (cc)
no-words false member is = refl

no-cluster : (words : List (List ℕ)) → is_cluster_line words ≡ false → cluster_words words ≡ None
no-cluster [] none = refl
no-cluster (word ∷ []) none = refl
no-cluster (word ∷ name ∷ []) none = refl
no-cluster (word ∷ name ∷ initial ∷ []) none = no-words (bytes_eq word (codes "cluster")) _ none
no-cluster (word ∷ name ∷ initial ∷ other ∷ words) none = refl

no-member : (reading : Reading) (words : List (List ℕ)) → is_cluster_line words ≡ false → member_read reading words ≡ None
no-member Readable words none = no-cluster words none
no-member Unreadable words none = refl
no-member PastLimit words none = refl

no-members : (lines : List KeptLine) → begins_cluster lines ≡ false → members_of lines ≡ []
no-members [] none = refl
no-members (line ∷ lines) none = ap (λ (m : Option (List ℕ × ℕ)). before_members m (members_of lines)) (no-member line.reading line.words none)

members-more : (lines more : List KeptLine) → begins_cluster more ≡ false → members_of (lines ++ more) ≡ members_of lines
members-more [] more none = no-members more none
members-more (line ∷ lines) more none = ap (before_members (member_of line)) (members-more lines more none)

rest-by : (line : KeptLine) (lines more body : List KeptLine) (b : Bool) → (if b then refused line.number BadHeader else Ok (line ∷ lines)) ≡ Ok body
    → (if b then refused line.number BadHeader else Ok (line ∷ lines ++ more)) ≡ Ok (body ++ more)
rest-by line lines more body true e = absurd (cc)
rest-by line lines more body false e = let same : line ∷ lines ≡ body = cc in ap (λ (ls : List KeptLine). Ok (ls ++ more)) same

first-more : (more : List KeptLine) → begins_cluster more ≡ false → body_lines more ≡ Ok more
first-more [] none = refl
first-more (line ∷ more) none = ap (λ (b : Bool). if b then refused line.number BadHeader else Ok (line ∷ more)) none

rest-more : (lines more body : List KeptLine) → begins_cluster more ≡ false → body_lines lines ≡ Ok body → body_lines (lines ++ more) ≡ Ok (body ++ more)
rest-more [] more body none e = let same : [] ≡ body = cc in first-more more none ∙ ap (λ (ls : List KeptLine). Ok (ls ++ more)) same
rest-more (line ∷ lines) more body none e = rest-by line lines more body (is_cluster_line line.words) e

placed-more : (end other line : ℕ) (lines more : List KeptLine) (r : Result ClusterList ClustersError) (clusters : ClusterList) → placed end line lines r ≡ Ok clusters → placed other line more r ≡ Ok clusters
placed-more end other line lines more (Ok one) clusters e = e
placed-more end other line lines more (Err error) clusters e = absurd (cc)

-- a header that is read, and more lines after it
AtFront : List KeptLine → HeaderRead → HeaderRead
AtFront more read = record { header = read.header; body = read.body ++ more }

clusters-more : (end other : ℕ) (increment : Setting) (rest : List KeptLine) (shards limit : ℕ) (lines more : List KeptLine) (read : HeaderRead) → begins_cluster more ≡ false → clusters_read end increment shards limit lines ≡ Ok read
    → clusters_read other (record { line = increment.line; value = increment.value; rest = rest }) shards limit (lines ++ more) ≡ Ok (AtFront more read)
unfolding clusters_read AtFront
clusters-more end other increment rest shards limit lines more read none e =
    let one = went (placed end increment.line lines (clusters_of increment.value (members_of lines))) _ read e in
    let two = went (body_lines (behind_members lines)) _ read one.2 in
    let whole : record { header = record { clusters = one.0; shards = shards; limit = limit }; body = two.0 } ≡ read = cc in
    let members : members_of (lines ++ more) ≡ members_of lines = members-more lines more none in
    let took = members_took lines in
    let left : behind_members (lines ++ more) ≡ behind_members lines ++ more =
    ap (λ (ms : List (List ℕ × ℕ)). drop (length ms) (lines ++ more)) members ∙ drop-append-le (length (members_of lines)) lines more (omega (arith, took.counts)) in
    ap (λ (ms : List (List ℕ × ℕ)). placed other increment.line (lines ++ more) (clusters_of increment.value ms) >>= (λ clusters. body_lines (behind_members (lines ++ more)) >>= (λ body. Ok (record { header = record { clusters = clusters; shards = shards; limit = limit }; body = body })))) members
    ∙ ap (λ (r : Result ClusterList ScriptError). r >>= (λ clusters. body_lines (behind_members (lines ++ more)) >>= (λ body. Ok (record { header = record { clusters = clusters; shards = shards; limit = limit }; body = body }))))
    (placed-more end other increment.line lines (lines ++ more) (clusters_of increment.value (members_of lines)) one.0 one.1)
    ∙ ap (λ (r : Result (List KeptLine) ScriptError). r >>= (λ body. Ok (record { header = record { clusters = one.0; shards = shards; limit = limit }; body = body })))
    (ap body_lines left ∙ rest-more (behind_members lines) more two.0 none two.1)
    ∙ ap (λ (h : HeaderRead). Ok (AtFront more h)) whole

header-more : (end other : ℕ) (lines more : List KeptLine) (read : HeaderRead) → begins_cluster more ≡ false → header_of end lines ≡ Ok read → header_of other (lines ++ more) ≡ Ok (AtFront more read)
unfolding header_of
header-more end other lines more read none e =
    let one = went (setting_of (codes "ndc") 1 1 end lines) _ read e in
    let two = went (setting_of (codes "increment") 0 (10 ^ 18) end one.0.rest) _ read one.2 in
    let three = went (increment_at two.0.line two.0.value) _ read two.2 in
    let four = went (setting_of (codes "shards") 1 64 end two.0.rest) _ read three.2 in
    let five = went (setting_of (codes "limit") 10 204800 end four.0.rest) _ read four.2 in
    rw (
      setting-more (codes "ndc") 1 1 end other lines more one.0 one.1,
      setting-more (codes "increment") 0 (10 ^ 18) end other one.0.rest more two.0 two.1,
      three.1,
      setting-more (codes "shards") 1 64 end other two.0.rest more four.0 four.1,
      setting-more (codes "limit") 10 204800 end other four.0.rest more five.0 five.1,
    )
    (clusters-more end other two.0 (two.0.rest ++ more) four.0.value five.0.value five.0.rest more read none five.2)

abbrev script_with : Header → Result (List Line) ScriptError → Result Script ScriptError
script_with header rest = do
  lines ← rest
  Ok (record { header = header; lines = lines })

script-more : (header : Header) (end other : ℕ) (body more : List KeptLine) (script : Script) (lines : List Line) → body_of header end body ≡ Ok lines → record { header = header; lines = lines } ≡ script
    → script_with header (body_of header other (body ++ more)) ≡ with_rest script (body_of script.header other more)
unfolding Front
script-more header end other body more script lines e whole =
    ap (script_with header) (body-more header end other 0 body more lines tt e ∙ behind-is lines (body_of header other more))
    ∙ joined (body_of header other more)
    ∙ ap (λ (s : Script). with_rest s (body_of s.header other more)) whole
  where
    joined : (r : Result (List Line) ScriptError) → script_with header (r >>= (λ rest. Ok (lines ++ rest))) ≡ with_rest (record { header = header; lines = lines }) r
    joined (Ok read) = refl
    joined (Err error) = refl

-- a prefix of a script that is read, and the lines of the rest
pub script-apart : (one two : List ℕ) (script : Script) → is_whole one ≡ true → begins_cluster (kept_from (line_after one) (text_lines two)) ≡ false → script_of one ≡ Ok script
    → script_of (one ++ two) ≡ with_rest script (lines_read script.header (line_after one) two)
unfolding script_of TookHeader AtFront
script-apart one two script whole none e =
    let first = went (header_of (line_after one) (kept_of one)) _ script e in
    let second = went (body_of first.0.header (line_after one) first.0.body) _ script first.2 in
    let last : record { header = first.0.header; lines = second.0 } ≡ script = cc in
    let past : Within (kept_of one) = (weaker (header_of (line_after one) (kept_of one)) (TookHeader (kept_of one) 4) first.0 (header_took (line_after one) (kept_of one)) first.1).none_past (none-past first.0.header (line_after one) first.0.body second.0 second.1) in
    let apart : text_lines (one ++ two) ≡ text_lines one ++ text_lines two = lines-apart one two whole in
    let number : 1 + length (text_lines one) ≡ length (text_lines one) + 1 = omega arith in
    let kept : kept_of (one ++ two) ≡ kept_of one ++ kept_from (line_after one) (text_lines two) =
    ap (kept_from 1) apart ∙ kept-apart 1 (text_lines one) (text_lines two) past ∙ ap (λ (n : ℕ). kept_of one ++ kept_from n (text_lines two)) number in
    let sums : length (text_lines one ++ text_lines two) + 1 ≡ length (text_lines one) + 1 + length (text_lines two) = omega (arith, length-append (text_lines one) (text_lines two)) in
    let end : line_after (one ++ two) ≡ line_behind (line_after one) two = ap (λ (ls : List (List ℕ)). length ls + 1) apart ∙ sums in
    ap (λ (ks : List KeptLine). header_of (line_after (one ++ two)) ks >>= script_in (line_after (one ++ two))) kept
    ∙ ap (λ (r : Result HeaderRead ScriptError). r >>= script_in (line_after (one ++ two))) (header-more (line_after one) (line_after (one ++ two)) (kept_of one) (kept_from (line_after one) (text_lines two)) first.0 none first.1)
    ∙ script-more first.0.header (line_after one) (line_after (one ++ two)) first.0.body (kept_from (line_after one) (text_lines two)) script second.0 second.1 last
    ∙ ap (λ (n : ℕ). with_rest script (body_of script.header n (kept_from (line_after one) (text_lines two)))) end
