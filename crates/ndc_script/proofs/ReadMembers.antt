-- A line `register` that is read is printed with clusters of the same names.
use Rattle.std.proofs.Common.{◌≡◌, ℕ, zero, suc, ◌+◌, ◌<◌, ◌≤◌, Bool, true, false, ◌&&◌, ◌||◌, ◌==◌, cond, List, [], ◌∷◌, ◌++◌, map, filter, take, slice_index_or, Ok, codes, decimal, refl, sym, ◌∙◌, ap, subst, arith, true≢false, if◌then◌else◌}
use Rattle.std.specs.List.{AllByRecursion, list_any}
use Rattle.std.specs.Str.{bytes_eq}
use Rattle.std.proofs.lemmas.List.{map-append, take_all, take_more}
use Rattle.std.proofs.lemmas.List.Folds.{list_any-append}
use Rattle.std.proofs.lemmas.Slice.Eq.{bytes_eq-Decides}
use Rattle.ndc_domain.specs.Clusters.{cluster_no, count_of, name_of}
use Rattle.ndc_domain.specs.Members.{members_of, numbers, numbers_where}
use Rattle.ndc_domain.specs.declared.clusters.ClusterNo.{ClusterNo}
use Rattle.ndc_script_types.specs.Below.{clusters_below}
use Rattle.ndc_script_types.specs.Print.{act_words, lines_behind, lines_within, member_name, member_words}
use Rattle.ndc_script_types.specs.declared.script.Act.{Act}
use Rattle.ndc_script_types.specs.declared.script.Act.TheVariants as act
use Rattle.ndc_script_types.specs.declared.script.Header.{Header}
use Rattle.ndc_script_types.specs.declared.script.ScriptCause.TheVariants.{BadLine}
use Rattle.ndc_script_words.specs.Header.{refused}
use Rattle.ndc_script_words.specs.Operands.{known, named, numbered}
use Rattle.ndc_script_read.specs.Register.{all_differ, clusters_for, clusters_named, differing, members_named, register_line, register_with}
use Rattle.ndc_script.specs.Alike.{HaveTheSameWords, RegistersTheSame, cluster_names, or_all}
use Rattle.ndc_script.proofs.ReadOperands.{known-word, named-word, numbered-word, ok-same, steps}

-- whether one of these words is this one
abbrev has_word : List (List ℕ) → List ℕ → Bool
has_word words word = list_any (λ other. bytes_eq other word) words

or-false : (b : Bool) → (b || false) ≡ b
or-false true = refl
or-false false = refl

or-shuffle : (a b c d : Bool) → ((a || b) || (c || d)) ≡ ((a || c) || (b || d))
or-shuffle true b c d = refl
or-shuffle false true true d = refl
or-shuffle false true false d = refl
or-shuffle false false true d = refl
or-shuffle false false false d = refl

and-or : (a b c : Bool) → ((a || b) && c) ≡ ((a && c) || (b && c))
and-or true true true = refl
and-or true true false = refl
and-or true false true = refl
and-or true false false = refl
and-or false b c = refl

-- a number of those that are kept passes where one does that is kept
any-kept : (q p : ℕ → Bool) (ns : List ℕ) → list_any q (filter p ns) ≡ list_any (λ n. p n && q n) ns
any-kept q p [] = refl
any-kept q p (n ∷ ns) = by (p n) ∙ ap (λ (b : Bool). (p n && q n) || b) (any-kept q p ns)
  where
    by : (t : Bool) → list_any q (cond t (n ∷ filter p ns) (filter p ns)) ≡ ((t && q n) || list_any q (filter p ns))
    by true = refl
    by false = refl

any-either : (a b : ℕ → Bool) (ns : List ℕ) → list_any (λ n. a n || b n) ns ≡ (list_any a ns || list_any b ns)
any-either a b [] = refl
any-either a b (n ∷ ns) = ap (λ (t : Bool). (a n || b n) || t) (any-either a b ns) ∙ or-shuffle (a n) (b n) (list_any a ns) (list_any b ns)

any-same : (a b : ℕ → Bool) (ns : List ℕ) → ((n : ℕ) → a n ≡ b n) → list_any a ns ≡ list_any b ns
any-same a b [] same = refl
any-same a b (n ∷ ns) same = ap (λ (t : Bool). t || list_any a ns) (same n) ∙ ap (λ (t : Bool). b n || t) (any-same a b ns same)

none-any : (q : ℕ → Bool) (ns : List ℕ) → list_any (λ n. false && q n) ns ≡ false
none-any q [] = refl
none-any q (n ∷ ns) = none-any q ns

-- of the numbers below eight
one-number : (q : ℕ → Bool) (k : ℕ) → k < 8 → list_any (λ n. (k == n) && q n) numbers ≡ q k
unfolding numbers
one-number q zero below = or-false (q 0)
one-number q (suc zero) below = or-false (q 1)
one-number q (suc (suc zero)) below = or-false (q 2)
one-number q (suc (suc (suc zero))) below = or-false (q 3)
one-number q (suc (suc (suc (suc zero)))) below = or-false (q 4)
one-number q (suc (suc (suc (suc (suc zero))))) below = or-false (q 5)
one-number q (suc (suc (suc (suc (suc (suc zero)))))) below = or-false (q 6)
one-number q (suc (suc (suc (suc (suc (suc (suc zero))))))) below = or-false (q 7)
one-number q (suc (suc (suc (suc (suc (suc (suc (suc k)))))))) below = absurd (omega (arith, below))

abbrev AreBelowEight : List ClusterNo → Type 0
AreBelowEight clusters = AllByRecursion (λ cluster. cluster.number < 8) clusters

numbers-any : (q : ℕ → Bool) (clusters : List ClusterNo) → AreBelowEight clusters → list_any (λ n. list_any (λ (cluster : ClusterNo). cluster.number == n) clusters && q n) numbers ≡ list_any (λ (cluster : ClusterNo). q cluster.number) clusters
numbers-any q [] below = none-any q numbers
numbers-any q (cluster ∷ clusters) below =
    any-same (λ n. ((cluster.number == n) || list_any (λ (other : ClusterNo). other.number == n) clusters) && q n) (λ n. ((cluster.number == n) && q n) || (list_any (λ (other : ClusterNo). other.number == n) clusters && q n)) numbers
    (λ n. and-or (cluster.number == n) (list_any (λ (other : ClusterNo). other.number == n) clusters) (q n))
    ∙ any-either (λ n. (cluster.number == n) && q n) (λ n. list_any (λ (other : ClusterNo). other.number == n) clusters && q n) numbers
    ∙ ap (λ (b : Bool). b || list_any (λ n. list_any (λ (other : ClusterNo). other.number == n) clusters && q n) numbers) (one-number q cluster.number below.0)
    ∙ ap (λ (b : Bool). q cluster.number || b) (numbers-any q clusters below.1)

-- so a test passes one of the members where it passes one of the clusters
members-any : (q : ℕ → Bool) (clusters : List ClusterNo) → AreBelowEight clusters → list_any q (members_of clusters) ≡ list_any (λ (cluster : ClusterNo). q cluster.number) clusters
unfolding numbers_where
members-any q clusters below = any-kept q (λ number. list_any (λ (cluster : ClusterNo). cluster.number == number) clusters) numbers ∙ numbers-any q clusters below

any-mapped : {X Y : Type 0} (p : Y → Bool) (f : X → Y) (xs : List X) → list_any p (map f xs) ≡ list_any (λ x. p (f x)) xs
any-mapped p f [] = refl
any-mapped p f (x ∷ xs) = ap (λ (b : Bool). p (f x) || b) (any-mapped p f xs)

module _ (header : Header) (most : count_of header.clusters ≤ 8) where
  abbrev name : ClusterNo → List ℕ
  name cluster = name_of header.clusters cluster

  -- the names of members are those of the clusters
  members-names : (clusters : List ClusterNo) (word : List ℕ) → AreBelowEight clusters → has_word (map (member_name header) (members_of clusters)) word ≡ list_any (λ cluster. bytes_eq (name cluster) word) clusters
  members-names clusters word below =
      any-mapped (λ other. bytes_eq other word) (member_name header) (members_of clusters) ∙ members-any (λ number. bytes_eq (member_name header number) word) clusters below

  -- the clusters of names
  abbrev AreNamed : List (List ℕ) → List ClusterNo → Type 0
  AreNamed [] [] = Unit {0}
  AreNamed (word ∷ words) (cluster ∷ clusters) = (name cluster ≡ word) × AreNamed words clusters
  AreNamed [] (cluster ∷ clusters) = ⊥
  AreNamed (word ∷ words) [] = ⊥

  named-clusters : (line : ℕ) (words : List (List ℕ)) (clusters : List ClusterNo) → clusters_named header line words ≡ Ok clusters → AreNamed words clusters × AreBelowEight clusters
  unfolding clusters_named
  named-clusters line [] clusters e = by clusters (ok-same [] clusters e)
    where
      by : (list : List ClusterNo) → [] ≡ list → AreNamed [] list × AreBelowEight list
      by [] same = (tt, tt)
      by (cluster ∷ list) same = absurd (cc)
  named-clusters line (word ∷ words) clusters e =
      let a = steps (known header line word) _ clusters e in
      let b = steps (clusters_named header line words) _ clusters a.rest in
      let k = known-word header line word a.value a.is in
      let rest = named-clusters line words b.value b.is in
      subst (λ (list : List ClusterNo). AreNamed (word ∷ words) list × AreBelowEight list) (ok-same (a.value ∷ b.value) clusters b.rest) ((k.1, rest.0), (omega (arith, k.0, most), rest.1))

  names-any : (words : List (List ℕ)) (clusters : List ClusterNo) (word : List ℕ) → AreNamed words clusters → has_word words word ≡ list_any (λ cluster. bytes_eq (name cluster) word) clusters
  names-any [] [] word are = refl
  names-any [] (cluster ∷ clusters) word are = absurd are
  names-any (first ∷ words) [] word are = absurd are
  names-any (first ∷ words) (cluster ∷ clusters) word are =
      ap (λ (n : List ℕ). bytes_eq n word || has_word words word) (sym are.0) ∙ ap (λ (b : Bool). bytes_eq (name cluster) word || b) (names-any words clusters word are.1)

  -- all clusters
  below-any : (word : List ℕ) (n : ℕ) → n ≤ count_of header.clusters → list_any (λ cluster. bytes_eq (name cluster) word) (clusters_below n) ≡ has_word (map (λ member. member.0) (take n header.clusters.members)) word
  below-any word zero within = refl
  below-any word (suc n) within =
      list_any-append (λ cluster. bytes_eq (name cluster) word) (clusters_below n) (cluster_no n ∷ [])
      ∙ ap (λ (b : Bool). b || (bytes_eq (name (cluster_no n)) word || false)) (below-any word n (omega (arith, within)))
      ∙ sym (list_any-append (λ other. bytes_eq other word) (map (λ member. member.0) (take n header.clusters.members)) (name (cluster_no n) ∷ []))
      ∙ ap (λ (words : List (List ℕ)). has_word words word) (sym (map-append (λ member. member.0) (take n header.clusters.members) (slice_index_or header.clusters.members n ([], 0) ∷ [])))
      ∙ ap (λ (members : List (List ℕ × ℕ)). has_word (map (λ member. member.0) members) word) (sym (take_more header.clusters.members n ([], 0) (omega (arith, within))))
      ∙ ap (λ (k : ℕ). has_word (map (λ member. member.0) (take k header.clusters.members)) word) (let next : n + 1 ≡ suc n = omega arith in next)

  all-any : (word : List ℕ) → list_any (λ cluster. bytes_eq (name cluster) word) (clusters_below (count_of header.clusters)) ≡ has_word (cluster_names header) word
  all-any word =
      below-any word (count_of header.clusters) (omega arith)
      ∙ ap (λ (members : List (List ℕ × ℕ)). has_word (map (λ member. member.0) members) word) (take_all (count_of header.clusters) header.clusters.members (omega arith))

  few-below : (n : ℕ) → n ≤ 8 → AreBelowEight (clusters_below n)
  few-below zero few = tt
  few-below (suc n) few = both (clusters_below n) (few-below n (omega (arith, few)))
    where
      both : (clusters : List ClusterNo) → AreBelowEight clusters → AreBelowEight (clusters ++ cluster_no n ∷ [])
      both [] below = (omega (arith, few), tt)
      both (cluster ∷ clusters) below = (below.0, both clusters below.1)

  abbrev every : List ℕ
  every = members_of (clusters_below (count_of header.clusters))

  every-names : (word : List ℕ) → has_word (map (member_name header) every) word ≡ has_word (cluster_names header) word
  every-names word = members-names (clusters_below (count_of header.clusters)) word (few-below (count_of header.clusters) most) ∙ all-any word

  abbrev Same : List (List ℕ) → List (List ℕ) → Type 0
  Same names others = HaveTheSameWords (or_all (cluster_names header) names) (or_all (cluster_names header) others)

  -- the words CLUSTER of a line, and those that its members are printed as
  same-names : (line : ℕ) (names : List (List ℕ)) (members : List ℕ) → members_named header line names ≡ Ok members → Same names (member_words header members)
  unfolding members_named clusters_for
  same-names line [] members e =
      let same : every ≡ members = ok-same every members e in
      let is : bytes_eq members every ≡ true = (bytes_eq-Decides members every).1 (sym same) in
      λ word. ap (λ (t : Bool). has_word (or_all (cluster_names header) (if t then [] else map (member_name header) members)) word) (sym is)
  same-names line (first ∷ names) members e =
      let a = steps (clusters_named header line (first ∷ names)) _ members e in
      let are = named-clusters line (first ∷ names) a.value a.is in
      let printed : (word : List ℕ) → has_word (first ∷ names) word ≡ has_word (map (member_name header) members) word =
      λ word. names-any (first ∷ names) a.value word are.0 ∙ sym (members-names a.value word are.1) ∙ ap (λ (list : List ℕ). has_word (map (member_name header) list) word) (ok-same (members_of a.value) members a.rest) in
      by (bytes_eq members every) refl printed
    where
      by : (t : Bool) → bytes_eq members every ≡ t → ((word : List ℕ) → has_word (first ∷ names) word ≡ has_word (map (member_name header) members) word)
          → Same (first ∷ names) (if t then [] else map (member_name header) members)
      by true is printed =
          let same : members ≡ every = (bytes_eq-Decides members every).0 is in
          λ word. printed word ∙ ap (λ (list : List ℕ). has_word (map (member_name header) list) word) same ∙ every-names word
      by false is printed = some (map (member_name header) members) refl
        where
          some : (words : List (List ℕ)) → map (member_name header) members ≡ words → Same (first ∷ names) (map (member_name header) members)
          some [] none = absurd (true≢false (sym (ap (λ (b : Bool). b || has_word names first) ((bytes_eq-Decides first first).1 refl)) ∙ printed first ∙ ap (λ (words : List (List ℕ)). has_word words first) none))
          some (word ∷ words) are = λ other. printed other ∙ ap (λ (list : List (List ℕ)). has_word list other) are ∙ ap (λ (list : List (List ℕ)). has_word (or_all (cluster_names header) list) other) (sym are)

  -- a line `register` that is read, which has no lines after it
  pub record IsRegister (words : List (List ℕ)) (asked : Act) : Type 0 where
    pub registers : RegistersTheSame (cluster_names header) (codes "register" ∷ words) (act_words header asked)
    pub alone : lines_behind header asked ≡ []
    pub none_within : lines_within asked ≡ 0

  pub register-is : (line : ℕ) (words : List (List ℕ)) (asked : Act) → register_line header line words ≡ Ok asked → IsRegister words asked
  unfolding register_line register_with
  register-is line [] asked e = absurd (cc)
  register-is line (a ∷ []) asked e = absurd (cc)
  register-is line (a ∷ b ∷ []) asked e = absurd (cc)
  register-is line (a ∷ b ∷ c ∷ []) asked e = absurd (cc)
  register-is line (at ∷ domain ∷ target ∷ days ∷ names) asked e =
      let a = steps (named line domain) _ asked e in
      let b = steps (numbered line 1 1000 days) _ asked a.rest in
      let c = steps (differing line names) _ asked b.rest in
      let d = steps (known header line at) _ asked c.rest in
      let f = steps (known header line target) _ asked d.rest in
      let g = steps (members_named header line c.value) _ asked f.rest in
      let kept : c.value ≡ names = differed (all_differ names) c.value c.is in
      let same : act.Register d.value a.value f.value b.value g.value ≡ asked = ok-same _ asked g.rest in
      subst (IsRegister (at ∷ domain ∷ target ∷ days ∷ names)) same
      (record {
        registers = record {
          at = at;
          domain = domain;
          target = target;
          days = days;
          names = names;
          others = member_words header g.value;
          one_is = refl;
          two_is = ap (λ (n : List ℕ). codes "register" ∷ n ∷ a.value ∷ name f.value ∷ decimal b.value ∷ member_words header g.value) (known-word header line at d.value d.is).1
              ∙ ap (λ (n : List ℕ). codes "register" ∷ at ∷ n ∷ name f.value ∷ decimal b.value ∷ member_words header g.value) (named-word line domain a.value a.is)
              ∙ ap (λ (n : List ℕ). codes "register" ∷ at ∷ domain ∷ n ∷ decimal b.value ∷ member_words header g.value) (known-word header line target f.value f.is).1
              ∙ ap (λ (n : List ℕ). codes "register" ∷ at ∷ domain ∷ target ∷ n ∷ member_words header g.value) (numbered-word line 1 1000 b.value days b.is (omega arith));
          same = same-names line names g.value (ap (members_named header line) (sym kept) ∙ g.is);
        };
        alone = refl;
        none_within = refl;
      })
    where
      differed : (t : Bool) (kept : List (List ℕ)) → (if t then Ok names else refused line BadLine) ≡ Ok kept → kept ≡ names
      differed true kept e = sym (ok-same names kept e)
      differed false kept e = absurd (cc)
