-- The lines of a body that is read say the same as those that it is printed as.
use Rattle.std.proofs.Common.{◌≡◌, ℕ, zero, suc, ◌+◌, ◌≤◌, Bool, true, false, List, [], ◌∷◌, ◌++◌, length, map, drop, Option, Some, None, inl, inr, Ok, codes, refl, sym, ◌∙◌, ap, subst, arith, if◌then◌else◌}
use Rattle.std.specs.Str.{bytes_eq}
use Rattle.std.proofs.lemmas.Slice.Eq.{bytes_eq-Decides}
use Rattle.ndc_event.specs.Outcome.{◌>>=◌}
use Rattle.ndc_domain.specs.Clusters.{count_of}
use Rattle.ndc_script_types.specs.Print.{act_words, body_lines, command_words, job_words, lines_behind, lines_within}
use Rattle.ndc_script_types.specs.declared.script.Act.{Act}
use Rattle.ndc_script_types.specs.declared.script.BurstJob.{BurstJob}
use Rattle.ndc_script_types.specs.declared.script.Header.{Header}
use Rattle.ndc_script_types.specs.declared.script.Line.{Line}
use Rattle.ndc_script_types.specs.declared.script.ScriptCause.TheVariants.{BadLine}
use Rattle.ndc_script_words.specs.Header.{refused}
use Rattle.ndc_script_words.specs.Operands.{known, named}
use Rattle.ndc_script_words.specs.Text.{KeptLine}
use Rattle.ndc_script_words.specs.Verbs.{verb_of}
use Rattle.ndc_script_words.specs.declared.text.Reading.{Reading}
use Rattle.ndc_script_words.specs.declared.text.Reading.TheVariants.{PastLimit, Readable, Unreadable}
use Rattle.ndc_script_words.specs.declared.verb.CommandVerb.{CommandVerb}
use Rattle.ndc_script_words.specs.declared.verb.Verb.{Verb}
use Rattle.ndc_script_words.specs.declared.verb.Verb.TheVariants as verb
use Rattle.ndc_script_read.specs.Body.{act_by, act_read, body_behind, burst_line, is_end, job_at, job_by, job_line, job_read, jobs_of, verb_act, words_act, words_job}
use Rattle.ndc_script_read.specs.Commands.{command_of}
use Rattle.ndc_script.specs.Alike.{SayTheSame, SaysTheSame, cluster_names}
use Rattle.ndc_script.proofs.ReadCommands.{command-line}
use Rattle.ndc_script.proofs.ReadHeader.{AreReadable, words_in}
use Rattle.ndc_script.proofs.ReadLines.{IsPlain, beat-line, cluster-line, command-act, compare-line, domain-line, handover-line, levels-line, pair-line, place-line, places-line, progress-line, pull-line, reset-line, retain-line, settle-line, target-line, workflow-line}
use Rattle.ndc_script.proofs.ReadMembers.{register-is}
use Rattle.ndc_script.proofs.ReadOperands.{known-word, named-word, ok-same, steps}
use Rattle.ndc_script.proofs.ReadVerbs.{command_word, verb-is, verb_word}

-- lines say the same as themselves, and lists of them one after the other
pub say-itself : (all : List (List ℕ)) (lines : List (List (List ℕ))) → SayTheSame all lines lines
say-itself all [] = tt
say-itself all (line ∷ lines) = (inl refl, say-itself all lines)

pub say-both : (all : List (List ℕ)) (one two ones twos : List (List (List ℕ))) → SayTheSame all one two → SayTheSame all ones twos → SayTheSame all (one ++ ones) (two ++ twos)
say-both all [] [] ones twos first second = second
say-both all [] (line ∷ two) ones twos first second = absurd first
say-both all (line ∷ one) [] ones twos first second = absurd first
say-both all (line ∷ one) (other ∷ two) ones twos first second = (first.0, say-both all one two ones twos first.1 second)

pub readable-both : (one two : List KeptLine) → AreReadable one → AreReadable two → AreReadable (one ++ two)
readable-both [] two first second = second
readable-both (line ∷ one) two first second = (first.0, readable-both one two first.1 second)

pub words-both : (one two : List KeptLine) → words_in (one ++ two) ≡ words_in one ++ words_in two
words-both [] two = refl
words-both (line ∷ one) two = ap (λ (l : List (List (List ℕ))). line.words ∷ l) (words-both one two)

drop-front : (front rest : List KeptLine) → drop (length front) (front ++ rest) ≡ rest
drop-front [] rest = refl
drop-front (line ∷ front) rest = drop-front front rest

-- the lines after a line that belong to it
record AreWithin (lines : List KeptLine) (many : ℕ) (words : List (List (List ℕ))) : Type 0 where
  pub front : List KeptLine
  pub rest : List KeptLine
  pub parts : lines ≡ front ++ rest
  pub many_are : length front ≡ many
  pub readable : AreReadable front
  pub words_are : words_in front ≡ words

-- a job of a burst
job-at-is : (line : ℕ) (v : CommandVerb) (cluster domain workflow : List ℕ) (operands : List (List ℕ)) (job : BurstJob) → job_at line v domain workflow operands ≡ Ok job
    → (command_word v ∷ cluster ∷ domain ∷ workflow ∷ operands) ≡ job_words cluster job
unfolding job_at
job-at-is line v cluster domain workflow operands job e =
    let a = steps (command_of line v operands) _ job e in
    let b = steps (named line domain) _ job a.rest in
    let c = steps (named line workflow) _ job b.rest in
    sym (command-line line v cluster domain workflow operands a.value a.is)
    ∙ ap (λ (d : List ℕ). command_words cluster d workflow a.value) (sym (named-word line domain b.value b.is))
    ∙ ap (λ (w : List ℕ). command_words cluster b.value w a.value) (sym (named-word line workflow c.value c.is))
    ∙ ap (job_words cluster) (ok-same _ job c.rest)

job-line-is : (name : List ℕ) (line : ℕ) (v : CommandVerb) (words : List (List ℕ)) (job : BurstJob) → job_line name line v words ≡ Ok job → (command_word v ∷ words) ≡ job_words name job
unfolding job_line
job-line-is name line v [] job e = absurd (cc)
job-line-is name line v (a ∷ []) job e = absurd (cc)
job-line-is name line v (a ∷ b ∷ []) job e = absurd (cc)
job-line-is name line v (cluster ∷ domain ∷ workflow ∷ operands) job e = by (bytes_eq cluster name) refl e
  where
    by : (t : Bool) → bytes_eq cluster name ≡ t → (if t then job_at line v domain workflow operands else refused line BadLine) ≡ Ok job → (command_word v ∷ cluster ∷ domain ∷ workflow ∷ operands) ≡ job_words name job
    by true is h =
        ap (λ (n : List ℕ). command_word v ∷ n ∷ domain ∷ workflow ∷ operands) ((bytes_eq-Decides cluster name).0 is) ∙ job-at-is line v name domain workflow operands job h
    by false is h = absurd (cc)

job-is : (name : List ℕ) (line : ℕ) (reading : Reading) (words : List (List ℕ)) (job : BurstJob) → job_read name line reading words ≡ Ok job → (reading ≡ Readable) × (words ≡ job_words name job)
unfolding words_job
job-is name line PastLimit words job e = absurd (cc)
job-is name line Unreadable words job e = absurd (cc)
job-is name line Readable [] job e = absurd (cc)
job-is name line Readable (word ∷ words) job e = (refl, by (verb_of word) refl e)
  where
    by : (o : Option Verb) → verb_of word ≡ o → job_by name line o words ≡ Ok job → (word ∷ words) ≡ job_words name job
    by (Some (verb.Command v)) is h = ap (λ (w : List ℕ). w ∷ words) (verb-is word (verb.Command v) is) ∙ job-line-is name line v words job h
    by None is h = absurd (cc)
    by (Some other) is h = absurd (cc)

end-is : (reading : Reading) (words : List (List ℕ)) → is_end reading words ≡ true → (reading ≡ Readable) × (words ≡ codes "end" ∷ [])
end-is PastLimit words e = absurd (cc)
end-is Unreadable words e = absurd (cc)
end-is Readable [] e = absurd (cc)
end-is Readable (word ∷ other ∷ words) e = absurd (cc)
end-is Readable (word ∷ []) e = (refl, ap (λ (w : List ℕ). w ∷ []) ((bytes_eq-Decides word (codes "end")).0 e))

-- the lines of a burst
burst-within : (end : ℕ) (name : List ℕ) (lines : List KeptLine) (jobs : List BurstJob) → jobs_of end name lines ≡ Ok jobs → AreWithin lines (length jobs + 1) (map (job_words name) jobs ++ (codes "end" ∷ []) ∷ [])
unfolding jobs_of
burst-within end name [] jobs e = absurd (cc)
burst-within end name (line ∷ lines) jobs e = by (is_end line.reading line.words) refl e (burst-within end name lines)
  where
    by : (t : Bool) → is_end line.reading line.words ≡ t → (if t then Ok [] else (job_read name line.number line.reading line.words >>= (λ job. jobs_of end name lines >>= (λ more. Ok (job ∷ more))))) ≡ Ok jobs
        → ((more : List BurstJob) → jobs_of end name lines ≡ Ok more → AreWithin lines (length more + 1) (map (job_words name) more ++ (codes "end" ∷ []) ∷ []))
        → AreWithin (line ∷ lines) (length jobs + 1) (map (job_words name) jobs ++ (codes "end" ∷ []) ∷ [])
    by true is h rest =
        let ends = end-is line.reading line.words is in
        subst (λ (list : List BurstJob). AreWithin (line ∷ lines) (length list + 1) (map (job_words name) list ++ (codes "end" ∷ []) ∷ [])) (ok-same [] jobs h)
        (record { front = line ∷ []; rest = lines; parts = refl; many_are = omega arith; readable = (ends.0, tt); words_are = ap (λ (w : List (List ℕ)). w ∷ []) ends.1 })
    by false is h rest =
        let a = steps (job_read name line.number line.reading line.words) _ jobs h in
        let b = steps (jobs_of end name lines) _ jobs a.rest in
        let j = job-is name line.number line.reading line.words a.value a.is in
        let w = rest b.value b.is in
        let many = w.many_are in
        subst (λ (list : List BurstJob). AreWithin (line ∷ lines) (length list + 1) (map (job_words name) list ++ (codes "end" ∷ []) ∷ [])) (ok-same (a.value ∷ b.value) jobs b.rest)
        (record {
          front = line ∷ w.front;
          rest = w.rest;
          parts = ap (λ (l : List KeptLine). line ∷ l) w.parts;
          many_are = omega (arith, many);
          readable = (j.0, w.readable);
          words_are = ap (λ (words : List (List ℕ)). words ∷ words_in w.front) j.1 ∙ ap (λ (l : List (List (List ℕ))). job_words name a.value ∷ l) w.words_are;
        })

module _ (header : Header) (most : count_of header.clusters ≤ 8) (few : header.shards ≤ 64) where
  abbrev all : List (List ℕ)
  all = cluster_names header

  -- a line that is read, with the lines after it that belong to it
  record IsLine (reading : Reading) (words : List (List ℕ)) (lines : List KeptLine) (asked : Act) : Type 0 where
    pub readable : reading ≡ Readable
    pub says : SaysTheSame all words (act_words header asked)
    pub within : AreWithin lines (lines_within asked) (lines_behind header asked)

  none-within : (lines : List KeptLine) (asked : Act) → lines_behind header asked ≡ [] → lines_within asked ≡ 0 → AreWithin lines (lines_within asked) (lines_behind header asked)
  none-within lines asked alone none = record { front = []; rest = lines; parts = refl; many_are = sym none; readable = tt; words_are = sym alone }

  plain-line : (v : Verb) (words : List (List ℕ)) (lines : List KeptLine) (asked : Act) → IsPlain header (verb_word v ∷ words) asked → IsLine Readable (verb_word v ∷ words) lines asked
  plain-line v words lines asked plain = record { readable = refl; says = inl (sym plain.printed); within = none-within lines asked plain.alone plain.none_within }

  burst-is : (end line : ℕ) (words : List (List ℕ)) (lines : List KeptLine) (asked : Act) → burst_line header end line words lines ≡ Ok asked → IsLine Readable (codes "burst" ∷ words) lines asked
  unfolding burst_line
  burst-is end line [] lines asked e = absurd (cc)
  burst-is end line (a ∷ b ∷ words) lines asked e = absurd (cc)
  burst-is end line (name ∷ []) lines asked e =
      let a = steps (known header line name) _ asked e in
      let b = steps (jobs_of end name lines) _ asked a.rest in
      let named = (known-word header line name a.value a.is).1 in
      subst (IsLine Readable (codes "burst" ∷ name ∷ []) lines) (ok-same _ asked b.rest)
      (record {
        readable = refl;
        says = inl (ap (λ (n : List ℕ). codes "burst" ∷ n ∷ []) (sym named));
        within = subst (λ (n : List ℕ). AreWithin lines (length b.value + 1) (map (job_words n) b.value ++ (codes "end" ∷ []) ∷ [])) (sym named) (burst-within end name lines b.value b.is);
      })

  verb-line : (end line : ℕ) (v : Verb) (words : List (List ℕ)) (lines : List KeptLine) (asked : Act) → verb_act header end line v words lines ≡ Ok asked → IsLine Readable (verb_word v ∷ words) lines asked
  unfolding verb_act
  verb-line end line (verb.Command v) words lines asked e = plain-line (verb.Command v) words lines asked (command-act header line v words asked e)
  verb-line end line verb.Burst words lines asked e = burst-is end line words lines asked e
  verb-line end line verb.Register words lines asked e =
      let r = register-is header most line words asked e in
      record { readable = refl; says = inr r.registers; within = none-within lines asked r.alone r.none_within }
  verb-line end line verb.Retain words lines asked e = plain-line verb.Retain words lines asked (retain-line header line words asked e)
  verb-line end line (verb.Domain v) words lines asked e = plain-line (verb.Domain v) words lines asked (domain-line header line v words asked e)
  verb-line end line (verb.Target v) words lines asked e = plain-line (verb.Target v) words lines asked (target-line header line v words asked e)
  verb-line end line verb.Handover words lines asked e = plain-line verb.Handover words lines asked (handover-line header line words asked e)
  verb-line end line (verb.Pair v) words lines asked e = plain-line (verb.Pair v) words lines asked (pair-line header line v words asked e)
  verb-line end line verb.Pull words lines asked e = plain-line verb.Pull words lines asked (pull-line header line few words asked e)
  verb-line end line (verb.Place v) words lines asked e = plain-line (verb.Place v) words lines asked (place-line header line few v words asked e)
  verb-line end line (verb.Places v) words lines asked e = plain-line (verb.Places v) words lines asked (places-line header line few v words asked e)
  verb-line end line verb.Levels words lines asked e = plain-line verb.Levels words lines asked (levels-line header line few words asked e)
  verb-line end line (verb.Cluster v) words lines asked e = plain-line (verb.Cluster v) words lines asked (cluster-line header line v words asked e)
  verb-line end line verb.Settle words lines asked e = plain-line verb.Settle words lines asked (settle-line header line words asked e)
  verb-line end line (verb.Workflow v) words lines asked e = plain-line (verb.Workflow v) words lines asked (workflow-line header line v words asked e)
  verb-line end line verb.Compare words lines asked e = plain-line verb.Compare words lines asked (compare-line header line words asked e)
  verb-line end line verb.Reset words lines asked e = plain-line verb.Reset words lines asked (reset-line header line words asked e)
  verb-line end line verb.Beat words lines asked e = plain-line verb.Beat words lines asked (beat-line header line words asked e)
  verb-line end line verb.Progress words lines asked e = plain-line verb.Progress words lines asked (progress-line header line words asked e)

  line-is : (end line : ℕ) (reading : Reading) (words : List (List ℕ)) (lines : List KeptLine) (asked : Act) → act_read header end line reading words lines ≡ Ok asked → IsLine reading words lines asked
  unfolding words_act
  line-is end line PastLimit words lines asked e = absurd (cc)
  line-is end line Unreadable words lines asked e = absurd (cc)
  line-is end line Readable [] lines asked e = absurd (cc)
  line-is end line Readable (word ∷ words) lines asked e = by (verb_of word) refl e
    where
      by : (o : Option Verb) → verb_of word ≡ o → act_by header end line o words lines ≡ Ok asked → IsLine Readable (word ∷ words) lines asked
      by None is h = absurd (cc)
      by (Some v) is h = subst (λ (w : List ℕ). IsLine Readable (w ∷ words) lines asked) (sym (verb-is word v is)) (verb-line end line v words lines asked h)

  -- the lines of a body, after those that belong to the line before
  record IsBody (lines : List KeptLine) (read : List Line) : Type 0 where
    pub readable : AreReadable lines
    pub say : SayTheSame all (words_in lines) (body_lines header read)

  body-behind : (end within : ℕ) (lines : List KeptLine) (read : List Line) → body_behind header end within lines ≡ Ok read → IsBody (drop within lines) read
  unfolding body_behind
  body-behind end zero [] read e = subst (IsBody []) (ok-same [] read e) (record { readable = tt; say = tt })
  body-behind end (suc within) [] read e = subst (IsBody []) (ok-same [] read e) (record { readable = tt; say = tt })
  body-behind end (suc within) (line ∷ lines) read e = body-behind end within lines read e
  body-behind end zero (line ∷ lines) read e =
      let a = steps (act_read header end line.number line.reading line.words lines) _ read e in
      let b = steps (body_behind header end (lines_within a.value) lines) _ read a.rest in
      let l = line-is end line.number line.reading line.words lines a.value a.is in
      subst (IsBody (line ∷ lines)) (ok-same (record { number = line.number; act = a.value } ∷ b.value) read b.rest)
      (joined line lines a.value b.value line.number l (body-behind end (lines_within a.value) lines b.value b.is))
    where
      joined : (line : KeptLine) (lines : List KeptLine) (asked : Act) (more : List Line) (number : ℕ) → IsLine line.reading line.words lines asked → IsBody (drop (lines_within asked) lines) more
          → IsBody (line ∷ lines) (record { number = number; act = asked } ∷ more)
      joined line lines asked more number l rest = record {
        readable = (l.readable, subst AreReadable (sym w.parts) (readable-both w.front w.rest w.readable (subst AreReadable behind rest.readable)));
        say = (
          l.says,
          subst (λ (ones : List (List (List ℕ))). SayTheSame all ones (lines_behind header asked ++ body_lines header more)) (sym (ap words_in w.parts ∙ words-both w.front w.rest))
              (say-both all (words_in w.front) (lines_behind header asked) (words_in w.rest) (body_lines header more)
              (subst (λ (twos : List (List (List ℕ))). SayTheSame all (words_in w.front) twos) w.words_are (say-itself all (words_in w.front)))
              (subst (λ (list : List KeptLine). SayTheSame all (words_in list) (body_lines header more)) behind rest.say)),
        );
      }
        where
          w : AreWithin lines (lines_within asked) (lines_behind header asked)
          w = l.within

          behind : drop (lines_within asked) lines ≡ w.rest
          behind = ap (λ (n : ℕ). drop n lines) (sym w.many_are) ∙ ap (drop (length w.front)) w.parts ∙ drop-front w.front w.rest

  pub body-is : (end : ℕ) (lines : List KeptLine) (read : List Line) → body_behind header end 0 lines ≡ Ok read → AreReadable lines × SayTheSame all (words_in lines) (body_lines header read)
  body-is end lines read e = let b = body-behind end 0 lines read e in (b.readable, b.say)
