-- Words that are read as names, numbers and clusters are the words that these are printed as.
use Rattle.std.proofs.Common.{◌≡◌, ℕ, ◌^◌, ◌≤◌, ◌<◌, Bool, true, false, ◌&&◌, ◌==◌, not, nat_lt, nat_le, List, [], ◌∷◌, length, get_or, Option, Some, None, Result, Ok, Err, decimal, refl, sym, ◌∙◌, ap, subst, arith, true≢false, if◌then◌else◌}
use Rattle.std.specs.List.{list_all}
use Rattle.std.specs.Str.{bytes_eq}
use Rattle.std.proofs.lemmas.Bool.{and_parts, eq-eqb, leb-true, lt-ltb, ltb-true}
use Rattle.std.proofs.lemmas.Fmt.{decimal-digits_value}
use Rattle.ndc_event.specs.Outcome.{◌>>=◌}
use Rattle.ndc_event.specs.Name.{is_name_byte}
use Rattle.ndc_event.specs.Name as names
use Rattle.ndc_event.specs.declared.name.NameError.{NameError}
use Rattle.ndc_event.specs.declared.name.NameError.TheVariants.{BadByte, Empty, TooLong}
use Rattle.ndc_domain.specs.Clusters.{count_of, find_of, name_of}
use Rattle.ndc_domain.specs.declared.clusters.ClusterNo.{ClusterNo}
use Rattle.ndc_domain.proofs.Writers.{name_of_found}
use Rattle.ndc_script_types.specs.declared.script.Header.{Header}
use Rattle.ndc_script_types.specs.declared.script.ScriptError.{ScriptError}
use Rattle.ndc_script_words.specs.declared.operand.TwoClusters.{TwoClusters}
use Rattle.ndc_script_words.specs.declared.operand.WorkflowAt.{WorkflowAt}
use Rattle.ndc_script_words.specs.Header.{refused, within}
use Rattle.ndc_script_words.specs.Number.{has_leading_zero, is_digit, is_number, number_of, value_on}
use Rattle.ndc_script_words.specs.Operands.{both_known, cluster_or_unknown, known, name_or_bad, named, number_or_bad, numbered, two_clusters, workflow_at}
use Rattle.ndc_script_types.specs.declared.script.ScriptCause.TheVariants.{BadLine}
use Rattle.ndc_script.proofs.PrintedNumbers.{own}

-- what was read in two steps
pub record InSteps {A B : Type 0} (first : Result A ScriptError) (next : A → Result B ScriptError) (read : B) : Type 0 where
  pub value : A
  pub is : first ≡ Ok value
  pub rest : next value ≡ Ok read

pub steps : {A B : Type 0} (first : Result A ScriptError) (next : A → Result B ScriptError) (read : B) → (first >>= next) ≡ Ok read → InSteps first next read
steps (Ok value) next read e = record { value = value; is = refl; rest = e }
steps (Err error) next read e = absurd (cc)

abbrev pub read_as : {A : Type 0} → A → Result A ScriptError
read_as x = Ok x

pub ok-same : {A : Type 0} (one two : A) → read_as one ≡ read_as two → one ≡ two
ok-same one two e = let same : one ≡ two = cc in same

-- a word that is a number is that number in print
pub number-word : (word : List ℕ) (n : ℕ) → number_of word ≡ Some n → n < 2 ^ 64 → decimal n ≡ word
number-word word n e small = by (is_number word) refl e
  where
    single : (ds : List ℕ) → not (has_leading_zero ds) ≡ true → get_or ds 0 0 ≡ 48 → length ds ≡ 1
    single [] plain first = absurd (let zero_is : 0 ≡ 48 = first in omega (arith, zero_is))
    single (d ∷ []) plain first = refl
    single (d ∷ c ∷ ds) plain first =
        let leads : (d == 48) ≡ true = eq-eqb d 48 first in
        let more : nat_lt 0 (length (c ∷ ds)) ≡ true = lt-ltb 0 (length (c ∷ ds)) (omega arith) in
        absurd (true≢false (sym plain ∙ ap not (ap (λ (t : Bool). t && nat_lt 0 (length (c ∷ ds))) leads ∙ more)))

    by : (t : Bool) → is_number word ≡ t → (if t then Some (value_on 0 word) else None) ≡ Some n → decimal n ≡ word
    by false is h = absurd (cc)
    by true is h =
        let value : value_on 0 word ≡ n = cc in
        let p = and_parts (nat_lt 0 (length word) && nat_le (length word) 18 && list_all is_digit word) (not (has_leading_zero word)) is in
        let q = and_parts (nat_lt 0 (length word) && nat_le (length word) 18) (list_all is_digit word) p.0 in
        let r = and_parts (nat_lt 0 (length word)) (nat_le (length word) 18) q.0 in
        ap decimal (sym value)
        ∙ decimal-digits_value own word q.1 (ltb-true 0 (length word) r.0) (single word p.1) (subst (λ v. v < 2 ^ 64) (sym value) small)

within-is : (low high n : ℕ) (o : Option ℕ) → within low high o ≡ Some n → (o ≡ Some n) × (n ≤ high)
within-is low high n None e = absurd (cc)
within-is low high n (Some m) e = by (nat_le low m && nat_le m high) refl e
  where
    by : (t : Bool) → (nat_le low m && nat_le m high) ≡ t → (if t then Some m else None) ≡ Some n → (Some m ≡ Some n) × (n ≤ high)
    by false is h = absurd (cc)
    by true is h = let same : m ≡ n = cc in (ap Some same, subst (λ k. k ≤ high) same (leb-true m high (and_parts (nat_le low m) (nat_le m high) is).1))

-- so is one that is read within bounds
pub within-word : (low high n : ℕ) (word : List ℕ) → within low high (number_of word) ≡ Some n → high < 2 ^ 64 → decimal n ≡ word
within-word low high n word e small = let w = within-is low high n (number_of word) e in number-word word n w.0 (omega (arith, w.1, small))

pub numbered-word : (line low high n : ℕ) (word : List ℕ) → numbered line low high word ≡ Ok n → high < 2 ^ 64 → decimal n ≡ word
unfolding numbered
numbered-word line low high n word e small = by (within low high (number_of word)) refl e
  where
    by : (o : Option ℕ) → within low high (number_of word) ≡ o → number_or_bad line o ≡ Ok n → decimal n ≡ word
    by None is h = absurd (cc)
    by (Some m) is h = let same : m ≡ n = cc in within-word low high n word (is ∙ ap Some same) small

-- a word that is a name is that name
pub name-word : (word name : List ℕ) → names.name_of word ≡ Ok name → name ≡ word
name-word word name e = by (length word == 0) (not (nat_le (length word) 200)) (not (list_all is_name_byte word)) e
  where
    by : (a b c : Bool) → (if a then Err Empty else if b then Err TooLong else if c then Err BadByte else Ok word) ≡ Ok name → name ≡ word
    by true b c h = absurd (cc)
    by false true c h = absurd (cc)
    by false false true h = absurd (cc)
    by false false false h = let same : word ≡ name = cc in sym same

pub named-word : (line : ℕ) (word name : List ℕ) → named line word ≡ Ok name → name ≡ word
named-word line word name e = by (names.name_of word) refl e
  where
    by : (r : Result (List ℕ) NameError) → names.name_of word ≡ r → name_or_bad line r ≡ Ok name → name ≡ word
    by (Ok x) is h = let same : x ≡ name = cc in name-word word name (is ∙ ap Ok same)
    by (Err error) is h = absurd (cc)

-- a word that is a cluster is its name
pub known-word : (header : Header) (line : ℕ) (word : List ℕ) (cluster : ClusterNo) → known header line word ≡ Ok cluster → (cluster.number < count_of header.clusters) × (name_of header.clusters cluster ≡ word)
unfolding known
known-word header line word cluster e = by (find_of header.clusters word) refl e
  where
    by : (o : Option ClusterNo) → find_of header.clusters word ≡ o → cluster_or_unknown line o ≡ Ok cluster → (cluster.number < count_of header.clusters) × (name_of header.clusters cluster ≡ word)
    by None is h = absurd (cc)
    by (Some one) is h = let same : one ≡ cluster = cc in name_of_found header.clusters word cluster (is ∙ ap Some same)

-- two words that are clusters are their names
pub record AreNames (header : Header) (read : TwoClusters) (one two : List ℕ) : Type 0 where
  pub first : name_of header.clusters read.one ≡ one
  pub second : name_of header.clusters read.two ≡ two

pub both-words : (header : Header) (line : ℕ) (one two : List ℕ) (read : TwoClusters) → both_known header line one two ≡ Ok read → AreNames header read one two
unfolding both_known
both-words header line one two read e =
    let a = steps (known header line one) _ read e in
    let b = steps (known header line two) _ read a.rest in
    let same : record { one = a.value; two = b.value } ≡ read = ok-same _ read b.rest in
    subst (λ (r : TwoClusters). AreNames header r one two) same (record { first = (known-word header line one a.value a.is).1; second = (known-word header line two b.value b.is).1 })

pub two-words : (header : Header) (line : ℕ) (one two : List ℕ) (read : TwoClusters) → two_clusters header line one two ≡ Ok read → AreNames header read one two
unfolding two_clusters
two-words header line one two read e = by (bytes_eq one two) e
  where
    by : (t : Bool) → (if t then refused line BadLine else both_known header line one two) ≡ Ok read → AreNames header read one two
    by true h = absurd (cc)
    by false h = both-words header line one two read h

-- three words that are a workflow at a cluster
pub record AreAt (header : Header) (read : WorkflowAt) (cluster domain workflow : List ℕ) : Type 0 where
  pub cluster_is : name_of header.clusters read.cluster ≡ cluster
  pub domain_is : read.domain ≡ domain
  pub workflow_is : read.workflow ≡ workflow

pub workflow-words : (header : Header) (line : ℕ) (cluster domain workflow : List ℕ) (read : WorkflowAt) → workflow_at header line cluster domain workflow ≡ Ok read → AreAt header read cluster domain workflow
unfolding workflow_at
workflow-words header line cluster domain workflow read e =
    let a = steps (named line domain) _ read e in
    let b = steps (named line workflow) _ read a.rest in
    let c = steps (known header line cluster) _ read b.rest in
    let same : record { cluster = c.value; domain = a.value; workflow = b.value } ≡ read = ok-same _ read c.rest in
    subst (λ (r : WorkflowAt). AreAt header r cluster domain workflow) same
    (record { cluster_is = (known-word header line cluster c.value c.is).1; domain_is = named-word line domain a.value a.is; workflow_is = named-word line workflow b.value b.is })
