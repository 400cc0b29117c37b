-- Lines that are read have the words that they are printed as.
use Rattle.std.proofs.Common.{◌≡◌, ℕ, ◌-◌, ◌≤◌, Bool, true, false, ◌==◌, List, [], ◌∷◌, length, Ok, codes, decimal, refl, ◌∙◌, ap, subst, arith, if◌then◌else◌}
use Rattle.ndc_domain.specs.Clusters.{name_of}
use Rattle.ndc_domain.specs.declared.clusters.ClusterNo.{ClusterNo}
use Rattle.ndc_script_types.specs.Print.{act_words, lines_behind, lines_within}
use Rattle.ndc_script_types.specs.declared.script.Act.{Act}
use Rattle.ndc_script_types.specs.declared.script.Act.TheVariants as act
use Rattle.ndc_script_types.specs.declared.script.Header.{Header}
use Rattle.ndc_script_words.specs.declared.operand.TwoClusters.{TwoClusters}
use Rattle.ndc_script_words.specs.declared.operand.WorkflowAt.{WorkflowAt}
use Rattle.ndc_script_words.specs.declared.verb.ClusterVerb.{ClusterVerb}
use Rattle.ndc_script_words.specs.declared.verb.ClusterVerb.TheVariants as cluster_verb
use Rattle.ndc_script_words.specs.declared.verb.CommandVerb.{CommandVerb}
use Rattle.ndc_script_words.specs.declared.verb.DomainVerb.{DomainVerb}
use Rattle.ndc_script_words.specs.declared.verb.DomainVerb.TheVariants as domain_verb
use Rattle.ndc_script_words.specs.declared.verb.PairVerb.{PairVerb}
use Rattle.ndc_script_words.specs.declared.verb.PairVerb.TheVariants as pair_verb
use Rattle.ndc_script_words.specs.declared.verb.PlaceVerb.{PlaceVerb}
use Rattle.ndc_script_words.specs.declared.verb.PlaceVerb.TheVariants as place_verb
use Rattle.ndc_script_words.specs.declared.verb.PlacesVerb.{PlacesVerb}
use Rattle.ndc_script_words.specs.declared.verb.PlacesVerb.TheVariants as places_verb
use Rattle.ndc_script_words.specs.declared.verb.TargetVerb.{TargetVerb}
use Rattle.ndc_script_words.specs.declared.verb.TargetVerb.TheVariants as target_verb
use Rattle.ndc_script_words.specs.declared.verb.WorkflowVerb.{WorkflowVerb}
use Rattle.ndc_script_words.specs.declared.verb.WorkflowVerb.TheVariants as workflow_verb
use Rattle.ndc_script_words.specs.Operands.{both_known, known, named, numbered, place_of, shard_of, two_clusters, workflow_at}
use Rattle.ndc_script_read.specs.Commands.{command_line, command_of}
use Rattle.ndc_script_read.specs.Lines.{beat_line, beat_with, cluster_act, cluster_line, compare_line, domain_act, domain_line, handover_line, levels_line, pair_act, pair_line, place_act, place_line, places_act, places_line, places_with, progress_line, pull_line, reset_line, retain_line, settle_line, target_act, target_line, workflow_act, workflow_line}
use Rattle.ndc_script.proofs.ReadCommands.{command-line}
use Rattle.ndc_script.proofs.ReadOperands.{AreAt, AreNames, both-words, known-word, named-word, numbered-word, ok-same, steps, two-words, workflow-words}
use Rattle.ndc_script.proofs.ReadVerbs.{cluster_word, command_word, domain_word, pair_word, place_word, places_word, target_word, workflow_word}

-- the words of a line that is not a burst
pub record IsPlain (header : Header) (words : List (List ℕ)) (asked : Act) : Type 0 where
  pub printed : act_words header asked ≡ words
  pub alone : lines_behind header asked ≡ []
  pub none_within : lines_within asked ≡ 0

module _ (header : Header) (line : ℕ) where
  abbrev Plain : List (List ℕ) → Act → Type 0
  Plain words asked = IsPlain header words asked

  abbrev name : ClusterNo → List ℕ
  name cluster = name_of header.clusters cluster

  -- the words become those that were read
  change : (asked read : Act) (one two : List (List ℕ)) → asked ≡ read → one ≡ two → Plain one asked → Plain two read
  change asked read one two same words plain = subst (λ (a : Act). Plain two a) same (subst (λ (l : List (List ℕ)). Plain l asked) words plain)

  cluster-act : (v : ClusterVerb) (one : ClusterNo) → Plain (cluster_word v ∷ name one ∷ []) (cluster_act v one)
  cluster-act cluster_verb.Work one = record { printed = refl; alone = refl; none_within = refl }
  cluster-act cluster_verb.Trim one = record { printed = refl; alone = refl; none_within = refl }
  cluster-act cluster_verb.Gaps one = record { printed = refl; alone = refl; none_within = refl }
  cluster-act cluster_verb.Resend one = record { printed = refl; alone = refl; none_within = refl }
  cluster-act cluster_verb.Letters one = record { printed = refl; alone = refl; none_within = refl }
  cluster-act cluster_verb.Purge one = record { printed = refl; alone = refl; none_within = refl }
  cluster-act cluster_verb.MergeLetters one = record { printed = refl; alone = refl; none_within = refl }

  pair-act : (v : PairVerb) (one two : ClusterNo) → Plain (pair_word v ∷ name one ∷ name two ∷ []) (pair_act v one two)
  pair-act pair_verb.Pull one two = record { printed = refl; alone = refl; none_within = refl }
  pair-act pair_verb.Rewind one two = record { printed = refl; alone = refl; none_within = refl }
  pair-act pair_verb.Bootstrap one two = record { printed = refl; alone = refl; none_within = refl }
  pair-act pair_verb.Domains one two = record { printed = refl; alone = refl; none_within = refl }
  pair-act pair_verb.Sync one two = record { printed = refl; alone = refl; none_within = refl }

  domain-act : (v : DomainVerb) (at : ClusterNo) (domain : List ℕ) → Plain (domain_word v ∷ name at ∷ domain ∷ []) (domain_act v at domain)
  domain-act domain_verb.Domain at domain = record { printed = refl; alone = refl; none_within = refl }
  domain-act domain_verb.Members at domain = record { printed = refl; alone = refl; none_within = refl }
  domain-act domain_verb.Complete at domain = record { printed = refl; alone = refl; none_within = refl }

  target-act : (v : TargetVerb) (at : ClusterNo) (domain : List ℕ) (target : ClusterNo) → Plain (target_word v ∷ name at ∷ domain ∷ name target ∷ []) (target_act v at domain target)
  target-act target_verb.Join at domain target = record { printed = refl; alone = refl; none_within = refl }
  target-act target_verb.Failover at domain target = record { printed = refl; alone = refl; none_within = refl }

  place-act : (v : PlaceVerb) (reader source : ClusterNo) (shard number : ℕ) → Plain (place_word v ∷ name reader ∷ name source ∷ decimal shard ∷ decimal number ∷ []) (place_act v reader source shard number)
  place-act place_verb.Pull reader source shard number = record { printed = refl; alone = refl; none_within = refl }
  place-act place_verb.Lose reader source shard number = record { printed = refl; alone = refl; none_within = refl }
  place-act place_verb.Repeat reader source shard number = record { printed = refl; alone = refl; none_within = refl }

  places-act : (v : PlacesVerb) (reader source : ClusterNo) (shard place number : ℕ) → Plain (places_word v ∷ name reader ∷ name source ∷ decimal shard ∷ decimal place ∷ decimal number ∷ []) (places_act v reader source shard place number)
  places-act places_verb.Move reader source shard place number = record { printed = refl; alone = refl; none_within = refl }
  places-act places_verb.Damage reader source shard place number = record { printed = refl; alone = refl; none_within = refl }

  workflow-act : (v : WorkflowVerb) (at : WorkflowAt) → Plain (workflow_word v ∷ name at.cluster ∷ at.domain ∷ at.workflow ∷ []) (workflow_act v at)
  workflow-act workflow_verb.History at = record { printed = refl; alone = refl; none_within = refl }
  workflow-act workflow_verb.Branches at = record { printed = refl; alone = refl; none_within = refl }
  workflow-act workflow_verb.Current at = record { printed = refl; alone = refl; none_within = refl }
  workflow-act workflow_verb.State at = record { printed = refl; alone = refl; none_within = refl }
  workflow-act workflow_verb.Dump at = record { printed = refl; alone = refl; none_within = refl }

  pub cluster-line : (v : ClusterVerb) (words : List (List ℕ)) (asked : Act) → cluster_line header line v words ≡ Ok asked → Plain (cluster_word v ∷ words) asked
  unfolding cluster_line
  cluster-line v [] asked e = absurd (cc)
  cluster-line v (a ∷ more ∷ words) asked e = absurd (cc)
  cluster-line v (cluster ∷ []) asked e =
      let a = steps (known header line cluster) _ asked e in
      change (cluster_act v a.value) asked (cluster_word v ∷ name a.value ∷ []) (cluster_word v ∷ cluster ∷ []) (ok-same _ asked a.rest)
      (ap (λ (n : List ℕ). cluster_word v ∷ n ∷ []) (known-word header line cluster a.value a.is).1) (cluster-act v a.value)

  two-names : (first : List ℕ) (read : TwoClusters) (one two : List ℕ) (rest : List (List ℕ)) → AreNames header read one two → (first ∷ name read.one ∷ name read.two ∷ rest) ≡ (first ∷ one ∷ two ∷ rest)
  two-names first read one two rest are = ap (λ (n : List ℕ). first ∷ n ∷ name read.two ∷ rest) are.first ∙ ap (λ (n : List ℕ). first ∷ one ∷ n ∷ rest) are.second

  pub pair-line : (v : PairVerb) (words : List (List ℕ)) (asked : Act) → pair_line header line v words ≡ Ok asked → Plain (pair_word v ∷ words) asked
  unfolding pair_line
  pair-line v [] asked e = absurd (cc)
  pair-line v (a ∷ []) asked e = absurd (cc)
  pair-line v (a ∷ b ∷ more ∷ words) asked e = absurd (cc)
  pair-line v (one ∷ two ∷ []) asked e =
      let a = steps (two_clusters header line one two) _ asked e in
      change (pair_act v a.value.one a.value.two) asked (pair_word v ∷ name a.value.one ∷ name a.value.two ∷ []) (pair_word v ∷ one ∷ two ∷ []) (ok-same _ asked a.rest)
      (two-names (pair_word v) a.value one two [] (two-words header line one two a.value a.is)) (pair-act v a.value.one a.value.two)

  pub domain-line : (v : DomainVerb) (words : List (List ℕ)) (asked : Act) → domain_line header line v words ≡ Ok asked → Plain (domain_word v ∷ words) asked
  unfolding domain_line
  domain-line v [] asked e = absurd (cc)
  domain-line v (a ∷ []) asked e = absurd (cc)
  domain-line v (a ∷ b ∷ more ∷ words) asked e = absurd (cc)
  domain-line v (at ∷ domain ∷ []) asked e =
      let a = steps (named line domain) _ asked e in
      let b = steps (known header line at) _ asked a.rest in
      change (domain_act v b.value a.value) asked (domain_word v ∷ name b.value ∷ a.value ∷ []) (domain_word v ∷ at ∷ domain ∷ []) (ok-same _ asked b.rest)
      (ap (λ (n : List ℕ). domain_word v ∷ n ∷ a.value ∷ []) (known-word header line at b.value b.is).1 ∙ ap (λ (n : List ℕ). domain_word v ∷ at ∷ n ∷ []) (named-word line domain a.value a.is)) (domain-act v b.value a.value)

  pub retain-line : (words : List (List ℕ)) (asked : Act) → retain_line header line words ≡ Ok asked → Plain (codes "retain" ∷ words) asked
  unfolding retain_line
  retain-line [] asked e = absurd (cc)
  retain-line (a ∷ []) asked e = absurd (cc)
  retain-line (a ∷ b ∷ []) asked e = absurd (cc)
  retain-line (a ∷ b ∷ c ∷ more ∷ words) asked e = absurd (cc)
  retain-line (at ∷ domain ∷ days ∷ []) asked e =
      let a = steps (named line domain) _ asked e in
      let b = steps (numbered line 1 1000 days) _ asked a.rest in
      let c = steps (known header line at) _ asked b.rest in
      change (act.Retain c.value a.value b.value) asked (codes "retain" ∷ name c.value ∷ a.value ∷ decimal b.value ∷ []) (codes "retain" ∷ at ∷ domain ∷ days ∷ []) (ok-same _ asked c.rest)
      (ap (λ (n : List ℕ). codes "retain" ∷ n ∷ a.value ∷ decimal b.value ∷ []) (known-word header line at c.value c.is).1
      ∙ ap (λ (n : List ℕ). codes "retain" ∷ at ∷ n ∷ decimal b.value ∷ []) (named-word line domain a.value a.is)
      ∙ ap (λ (n : List ℕ). codes "retain" ∷ at ∷ domain ∷ n ∷ []) (numbered-word line 1 1000 b.value days b.is (omega arith))) (record { printed = refl; alone = refl; none_within = refl })

  pub target-line : (v : TargetVerb) (words : List (List ℕ)) (asked : Act) → target_line header line v words ≡ Ok asked → Plain (target_word v ∷ words) asked
  unfolding target_line
  target-line v [] asked e = absurd (cc)
  target-line v (a ∷ []) asked e = absurd (cc)
  target-line v (a ∷ b ∷ []) asked e = absurd (cc)
  target-line v (a ∷ b ∷ c ∷ more ∷ words) asked e = absurd (cc)
  target-line v (at ∷ domain ∷ target ∷ []) asked e =
      let a = steps (named line domain) _ asked e in
      let b = steps (both_known header line at target) _ asked a.rest in
      let n = both-words header line at target b.value b.is in
      change (target_act v b.value.one a.value b.value.two) asked (target_word v ∷ name b.value.one ∷ a.value ∷ name b.value.two ∷ []) (target_word v ∷ at ∷ domain ∷ target ∷ []) (ok-same _ asked b.rest)
      (ap (λ (w : List ℕ). target_word v ∷ w ∷ a.value ∷ name b.value.two ∷ []) n.first ∙ ap (λ (w : List ℕ). target_word v ∷ at ∷ w ∷ name b.value.two ∷ []) (named-word line domain a.value a.is)
      ∙ ap (λ (w : List ℕ). target_word v ∷ at ∷ domain ∷ w ∷ []) n.second) (target-act v b.value.one a.value b.value.two)

  pub handover-line : (words : List (List ℕ)) (asked : Act) → handover_line header line words ≡ Ok asked → Plain (codes "handover" ∷ words) asked
  unfolding handover_line
  handover-line [] asked e = absurd (cc)
  handover-line (a ∷ []) asked e = absurd (cc)
  handover-line (a ∷ b ∷ []) asked e = absurd (cc)
  handover-line (a ∷ b ∷ c ∷ more ∷ words) asked e = absurd (cc)
  handover-line (at ∷ domain ∷ target ∷ []) asked e =
      let a = steps (named line domain) _ asked e in
      let b = steps (two_clusters header line at target) _ asked a.rest in
      let n = two-words header line at target b.value b.is in
      change (act.Handover b.value.one a.value b.value.two) asked (codes "handover" ∷ name b.value.one ∷ a.value ∷ name b.value.two ∷ []) (codes "handover" ∷ at ∷ domain ∷ target ∷ []) (ok-same _ asked b.rest)
      (ap (λ (w : List ℕ). codes "handover" ∷ w ∷ a.value ∷ name b.value.two ∷ []) n.first ∙ ap (λ (w : List ℕ). codes "handover" ∷ at ∷ w ∷ name b.value.two ∷ []) (named-word line domain a.value a.is)
      ∙ ap (λ (w : List ℕ). codes "handover" ∷ at ∷ domain ∷ w ∷ []) n.second) (record { printed = refl; alone = refl; none_within = refl })

  -- a shard of the header is a small number
  module _ (few : header.shards ≤ 64) where
    shard-word : (word : List ℕ) (shard : ℕ) → shard_of header line word ≡ Ok shard → decimal shard ≡ word
    shard-word word shard e = numbered-word line 0 (header.shards - 1) shard word e (omega (arith, few))

    place-word : (word : List ℕ) (place : ℕ) → place_of line word ≡ Ok place → decimal place ≡ word
    place-word word place e = numbered-word line 0 1000000 place word e (omega arith)

    pub levels-line : (words : List (List ℕ)) (asked : Act) → levels_line header line words ≡ Ok asked → Plain (codes "levels" ∷ words) asked
    unfolding levels_line
    levels-line [] asked e = absurd (cc)
    levels-line (a ∷ []) asked e = absurd (cc)
    levels-line (a ∷ b ∷ []) asked e = absurd (cc)
    levels-line (a ∷ b ∷ c ∷ more ∷ words) asked e = absurd (cc)
    levels-line (reader ∷ source ∷ shard ∷ []) asked e =
        let a = steps (shard_of header line shard) _ asked e in
        let b = steps (two_clusters header line reader source) _ asked a.rest in
        change (act.LevelsOf b.value.one b.value.two a.value) asked (codes "levels" ∷ name b.value.one ∷ name b.value.two ∷ decimal a.value ∷ []) (codes "levels" ∷ reader ∷ source ∷ shard ∷ []) (ok-same _ asked b.rest)
        (two-names (codes "levels") b.value reader source (decimal a.value ∷ []) (two-words header line reader source b.value b.is)
        ∙ ap (λ (n : List ℕ). codes "levels" ∷ reader ∷ source ∷ n ∷ []) (shard-word shard a.value a.is)) (record { printed = refl; alone = refl; none_within = refl })

    pub place-line : (v : PlaceVerb) (words : List (List ℕ)) (asked : Act) → place_line header line v words ≡ Ok asked → Plain (place_word v ∷ words) asked
    unfolding place_line
    place-line v [] asked e = absurd (cc)
    place-line v (a ∷ []) asked e = absurd (cc)
    place-line v (a ∷ b ∷ []) asked e = absurd (cc)
    place-line v (a ∷ b ∷ c ∷ []) asked e = absurd (cc)
    place-line v (a ∷ b ∷ c ∷ d ∷ more ∷ words) asked e = absurd (cc)
    place-line v (reader ∷ source ∷ shard ∷ number ∷ []) asked e =
        let a = steps (shard_of header line shard) _ asked e in
        let b = steps (place_of line number) _ asked a.rest in
        let c = steps (two_clusters header line reader source) _ asked b.rest in
        change (place_act v c.value.one c.value.two a.value b.value) asked (place_word v ∷ name c.value.one ∷ name c.value.two ∷ decimal a.value ∷ decimal b.value ∷ []) (place_word v ∷ reader ∷ source ∷ shard ∷ number ∷ []) (ok-same _ asked c.rest)
        (two-names (place_word v) c.value reader source (decimal a.value ∷ decimal b.value ∷ []) (two-words header line reader source c.value c.is)
        ∙ ap (λ (n : List ℕ). place_word v ∷ reader ∷ source ∷ n ∷ decimal b.value ∷ []) (shard-word shard a.value a.is)
        ∙ ap (λ (n : List ℕ). place_word v ∷ reader ∷ source ∷ shard ∷ n ∷ []) (place-word number b.value b.is)) (place-act v c.value.one c.value.two a.value b.value)

    pub pull-line : (words : List (List ℕ)) (asked : Act) → pull_line header line words ≡ Ok asked → Plain (codes "pull" ∷ words) asked
    unfolding pull_line
    pull-line words asked e = by (length words == 2) e
      where
        by : (t : Bool) → (if t then pair_line header line pair_verb.Pull words else place_line header line place_verb.Pull words) ≡ Ok asked → Plain (codes "pull" ∷ words) asked
        by true h = pair-line pair_verb.Pull words asked h
        by false h = place-line place_verb.Pull words asked h

    places-with : (v : PlacesVerb) (reader source : List ℕ) (shard : ℕ) (place number : List ℕ) (asked : Act) → places_with header line v reader source shard place number ≡ Ok asked
        → Plain (places_word v ∷ reader ∷ source ∷ decimal shard ∷ place ∷ number ∷ []) asked
    unfolding places_with
    places-with v reader source shard place number asked e =
        let a = steps (place_of line place) _ asked e in
        let b = steps (place_of line number) _ asked a.rest in
        let c = steps (two_clusters header line reader source) _ asked b.rest in
        change (places_act v c.value.one c.value.two shard a.value b.value) asked (places_word v ∷ name c.value.one ∷ name c.value.two ∷ decimal shard ∷ decimal a.value ∷ decimal b.value ∷ []) (places_word v ∷ reader ∷ source ∷ decimal shard ∷ place ∷ number ∷ []) (ok-same _ asked c.rest)
        (two-names (places_word v) c.value reader source (decimal shard ∷ decimal a.value ∷ decimal b.value ∷ []) (two-words header line reader source c.value c.is)
        ∙ ap (λ (n : List ℕ). places_word v ∷ reader ∷ source ∷ decimal shard ∷ n ∷ decimal b.value ∷ []) (place-word place a.value a.is)
        ∙ ap (λ (n : List ℕ). places_word v ∷ reader ∷ source ∷ decimal shard ∷ place ∷ n ∷ []) (place-word number b.value b.is)) (places-act v c.value.one c.value.two shard a.value b.value)

    pub places-line : (v : PlacesVerb) (words : List (List ℕ)) (asked : Act) → places_line header line v words ≡ Ok asked → Plain (places_word v ∷ words) asked
    unfolding places_line
    places-line v [] asked e = absurd (cc)
    places-line v (a ∷ []) asked e = absurd (cc)
    places-line v (a ∷ b ∷ []) asked e = absurd (cc)
    places-line v (a ∷ b ∷ c ∷ []) asked e = absurd (cc)
    places-line v (a ∷ b ∷ c ∷ d ∷ []) asked e = absurd (cc)
    places-line v (a ∷ b ∷ c ∷ d ∷ f ∷ more ∷ words) asked e = absurd (cc)
    places-line v (reader ∷ source ∷ shard ∷ place ∷ number ∷ []) asked e =
        let a = steps (shard_of header line shard) _ asked e in
        subst (λ (n : List ℕ). Plain (places_word v ∷ reader ∷ source ∷ n ∷ place ∷ number ∷ []) asked) (shard-word shard a.value a.is) (places-with v reader source a.value place number asked a.rest)

  pub settle-line : (words : List (List ℕ)) (asked : Act) → settle_line line words ≡ Ok asked → Plain (codes "settle" ∷ words) asked
  unfolding settle_line
  settle-line (word ∷ words) asked e = absurd (cc)
  settle-line [] asked e = change act.Settle asked (codes "settle" ∷ []) (codes "settle" ∷ []) (ok-same _ asked e) refl (record { printed = refl; alone = refl; none_within = refl })

  at-names : (first : List ℕ) (read : WorkflowAt) (cluster domain workflow : List ℕ) (rest : List (List ℕ)) → AreAt header read cluster domain workflow
      → (first ∷ name read.cluster ∷ read.domain ∷ read.workflow ∷ rest) ≡ (first ∷ cluster ∷ domain ∷ workflow ∷ rest)
  at-names first read cluster domain workflow rest are =
      ap (λ (n : List ℕ). first ∷ n ∷ read.domain ∷ read.workflow ∷ rest) are.cluster_is ∙ ap (λ (n : List ℕ). first ∷ cluster ∷ n ∷ read.workflow ∷ rest) are.domain_is
      ∙ ap (λ (n : List ℕ). first ∷ cluster ∷ domain ∷ n ∷ rest) are.workflow_is

  pub workflow-line : (v : WorkflowVerb) (words : List (List ℕ)) (asked : Act) → workflow_line header line v words ≡ Ok asked → Plain (workflow_word v ∷ words) asked
  unfolding workflow_line
  workflow-line v [] asked e = absurd (cc)
  workflow-line v (a ∷ []) asked e = absurd (cc)
  workflow-line v (a ∷ b ∷ []) asked e = absurd (cc)
  workflow-line v (a ∷ b ∷ c ∷ more ∷ words) asked e = absurd (cc)
  workflow-line v (cluster ∷ domain ∷ workflow ∷ []) asked e =
      let a = steps (workflow_at header line cluster domain workflow) _ asked e in
      change (workflow_act v a.value) asked (workflow_word v ∷ name a.value.cluster ∷ a.value.domain ∷ a.value.workflow ∷ []) (workflow_word v ∷ cluster ∷ domain ∷ workflow ∷ []) (ok-same _ asked a.rest)
      (at-names (workflow_word v) a.value cluster domain workflow [] (workflow-words header line cluster domain workflow a.value a.is)) (workflow-act v a.value)

  pub compare-line : (words : List (List ℕ)) (asked : Act) → compare_line header line words ≡ Ok asked → Plain (codes "compare" ∷ words) asked
  unfolding compare_line
  compare-line [] asked e = absurd (cc)
  compare-line (a ∷ []) asked e = absurd (cc)
  compare-line (a ∷ b ∷ []) asked e = absurd (cc)
  compare-line (a ∷ b ∷ c ∷ []) asked e = absurd (cc)
  compare-line (a ∷ b ∷ c ∷ d ∷ more ∷ words) asked e = absurd (cc)
  compare-line (one ∷ two ∷ domain ∷ workflow ∷ []) asked e =
      let a = steps (workflow_at header line one domain workflow) _ asked e in
      let b = steps (known header line two) _ asked a.rest in
      let n = workflow-words header line one domain workflow a.value a.is in
      change (act.Compare a.value.cluster b.value a.value.domain a.value.workflow) asked (codes "compare" ∷ name a.value.cluster ∷ name b.value ∷ a.value.domain ∷ a.value.workflow ∷ []) (codes "compare" ∷ one ∷ two ∷ domain ∷ workflow ∷ [])
      (ok-same _ asked b.rest)
      (ap (λ (w : List ℕ). codes "compare" ∷ w ∷ name b.value ∷ a.value.domain ∷ a.value.workflow ∷ []) n.cluster_is
      ∙ ap (λ (w : List ℕ). codes "compare" ∷ one ∷ w ∷ a.value.domain ∷ a.value.workflow ∷ []) (known-word header line two b.value b.is).1
      ∙ ap (λ (w : List ℕ). codes "compare" ∷ one ∷ two ∷ w ∷ a.value.workflow ∷ []) n.domain_is
      ∙ ap (λ (w : List ℕ). codes "compare" ∷ one ∷ two ∷ domain ∷ w ∷ []) n.workflow_is) (record { printed = refl; alone = refl; none_within = refl })

  pub reset-line : (words : List (List ℕ)) (asked : Act) → reset_line header line words ≡ Ok asked → Plain (codes "reset" ∷ words) asked
  unfolding reset_line
  reset-line [] asked e = absurd (cc)
  reset-line (a ∷ []) asked e = absurd (cc)
  reset-line (a ∷ b ∷ []) asked e = absurd (cc)
  reset-line (a ∷ b ∷ c ∷ []) asked e = absurd (cc)
  reset-line (a ∷ b ∷ c ∷ d ∷ more ∷ words) asked e = absurd (cc)
  reset-line (cluster ∷ domain ∷ workflow ∷ event ∷ []) asked e =
      let a = steps (numbered line 1 1000000 event) _ asked e in
      let b = steps (workflow_at header line cluster domain workflow) _ asked a.rest in
      change (act.Reset b.value.cluster b.value.domain b.value.workflow a.value) asked (codes "reset" ∷ name b.value.cluster ∷ b.value.domain ∷ b.value.workflow ∷ decimal a.value ∷ []) (codes "reset" ∷ cluster ∷ domain ∷ workflow ∷ event ∷ []) (ok-same _ asked b.rest)
      (at-names (codes "reset") b.value cluster domain workflow (decimal a.value ∷ []) (workflow-words header line cluster domain workflow b.value b.is)
      ∙ ap (λ (n : List ℕ). codes "reset" ∷ cluster ∷ domain ∷ workflow ∷ n ∷ []) (numbered-word line 1 1000000 a.value event a.is (omega arith))) (record { printed = refl; alone = refl; none_within = refl })

  beat-with : (cluster domain workflow id details : List ℕ) (asked : Act) → beat_with header line cluster domain workflow id details ≡ Ok asked → Plain (codes "beat" ∷ cluster ∷ domain ∷ workflow ∷ id ∷ details ∷ []) asked
  unfolding beat_with
  beat-with cluster domain workflow id details asked e =
      let a = steps (named line id) _ asked e in
      let b = steps (named line details) _ asked a.rest in
      let c = steps (workflow_at header line cluster domain workflow) _ asked b.rest in
      change (act.Beat c.value.cluster c.value.domain c.value.workflow a.value b.value) asked (codes "beat" ∷ name c.value.cluster ∷ c.value.domain ∷ c.value.workflow ∷ a.value ∷ b.value ∷ []) (codes "beat" ∷ cluster ∷ domain ∷ workflow ∷ id ∷ details ∷ []) (ok-same _ asked c.rest)
      (at-names (codes "beat") c.value cluster domain workflow (a.value ∷ b.value ∷ []) (workflow-words header line cluster domain workflow c.value c.is)
      ∙ ap (λ (n : List ℕ). codes "beat" ∷ cluster ∷ domain ∷ workflow ∷ n ∷ b.value ∷ []) (named-word line id a.value a.is)
      ∙ ap (λ (n : List ℕ). codes "beat" ∷ cluster ∷ domain ∷ workflow ∷ id ∷ n ∷ []) (named-word line details b.value b.is)) (record { printed = refl; alone = refl; none_within = refl })

  pub beat-line : (words : List (List ℕ)) (asked : Act) → beat_line header line words ≡ Ok asked → Plain (codes "beat" ∷ words) asked
  unfolding beat_line
  beat-line [] asked e = absurd (cc)
  beat-line (a ∷ []) asked e = absurd (cc)
  beat-line (a ∷ b ∷ []) asked e = absurd (cc)
  beat-line (a ∷ b ∷ c ∷ []) asked e = absurd (cc)
  beat-line (a ∷ b ∷ c ∷ d ∷ []) asked e = absurd (cc)
  beat-line (a ∷ b ∷ c ∷ d ∷ f ∷ more ∷ words) asked e = absurd (cc)
  beat-line (cluster ∷ domain ∷ workflow ∷ id ∷ details ∷ []) asked e = beat-with cluster domain workflow id details asked e

  pub progress-line : (words : List (List ℕ)) (asked : Act) → progress_line header line words ≡ Ok asked → Plain (codes "progress" ∷ words) asked
  unfolding progress_line
  progress-line [] asked e = absurd (cc)
  progress-line (a ∷ []) asked e = absurd (cc)
  progress-line (a ∷ b ∷ []) asked e = absurd (cc)
  progress-line (a ∷ b ∷ c ∷ []) asked e = absurd (cc)
  progress-line (a ∷ b ∷ c ∷ d ∷ more ∷ words) asked e = absurd (cc)
  progress-line (cluster ∷ domain ∷ workflow ∷ id ∷ []) asked e =
      let a = steps (named line id) _ asked e in
      let b = steps (workflow_at header line cluster domain workflow) _ asked a.rest in
      change (act.ProgressOf b.value.cluster b.value.domain b.value.workflow a.value) asked (codes "progress" ∷ name b.value.cluster ∷ b.value.domain ∷ b.value.workflow ∷ a.value ∷ []) (codes "progress" ∷ cluster ∷ domain ∷ workflow ∷ id ∷ []) (ok-same _ asked b.rest)
      (at-names (codes "progress") b.value cluster domain workflow (a.value ∷ []) (workflow-words header line cluster domain workflow b.value b.is)
      ∙ ap (λ (n : List ℕ). codes "progress" ∷ cluster ∷ domain ∷ workflow ∷ n ∷ []) (named-word line id a.value a.is)) (record { printed = refl; alone = refl; none_within = refl })

  pub command-act : (v : CommandVerb) (words : List (List ℕ)) (asked : Act) → command_line header line v words ≡ Ok asked → Plain (command_word v ∷ words) asked
  unfolding command_line
  command-act v [] asked e = absurd (cc)
  command-act v (a ∷ []) asked e = absurd (cc)
  command-act v (a ∷ b ∷ []) asked e = absurd (cc)
  command-act v (cluster ∷ domain ∷ workflow ∷ operands) asked e =
      let a = steps (command_of line v operands) _ asked e in
      let b = steps (workflow_at header line cluster domain workflow) _ asked a.rest in
      change (act.Command b.value.cluster b.value.domain b.value.workflow a.value) asked (command_word v ∷ name b.value.cluster ∷ b.value.domain ∷ b.value.workflow ∷ operands) (command_word v ∷ cluster ∷ domain ∷ workflow ∷ operands) (ok-same _ asked b.rest)
      (at-names (command_word v) b.value cluster domain workflow operands (workflow-words header line cluster domain workflow b.value b.is))
      (record { printed = command-line line v (name b.value.cluster) b.value.domain b.value.workflow operands a.value a.is; alone = refl; none_within = refl })
