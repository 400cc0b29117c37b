-- The lines of a header that is read are those that it is printed as.
use Rattle.std.proofs.Common.{◌≡◌, ℕ, suc, ◌^◌, ◌<◌, ◌≤◌, Bool, true, false, ◌==◌, ◌&&◌, ◌||◌, nat_le, nat_lt, List, [], ◌∷◌, ◌++◌, length, map, take, get_or, Option, Some, None, Result, Ok, Err, codes, decimal, refl, sym, ◌∙◌, ap, subst, arith, if◌then◌else◌}
use Rattle.std.specs.List.{AllByRecursion}
use Rattle.std.specs.Str.{bytes_eq}
use Rattle.std.proofs.lemmas.Bool.{and_parts, leb-true}
use Rattle.std.proofs.lemmas.List.{take-append-drop}
use Rattle.std.proofs.lemmas.Slice.Eq.{bytes_eq-Decides}
use Rattle.ndc_event.specs.Name.{name_of}
use Rattle.ndc_event.specs.declared.name.NameError.{NameError}
use Rattle.ndc_domain.specs.Clusters.{AreClusters, ClusterList, clusters_of, clusters_without, fault_from}
use Rattle.ndc_domain.specs.declared.clusters.ClustersError.{ClustersError}
use Rattle.ndc_domain.specs.declared.clusters.ClustersError.TheVariants as fault
use Rattle.ndc_domain.proofs.Faults.{built_is_sound}
use Rattle.ndc_script_types.specs.Print.{cluster_line_of, header_lines}
use Rattle.ndc_script_types.specs.declared.script.Header.{Header}
use Rattle.ndc_script_words.specs.declared.text.Reading.{Reading}
use Rattle.ndc_script_words.specs.declared.text.Reading.TheVariants.{PastLimit, Readable, Unreadable}
use Rattle.ndc_script_words.specs.Header.{HeaderRead, Setting, before_members, behind_members, body_lines, cluster_words, clusters_read, header_of, increment_at, is_cluster_line, keyed_number, member_of, member_read, members_of, named_initial, number_read, placed, refused, setting_of, within}
use Rattle.ndc_script_words.specs.Number.{number_of}
use Rattle.ndc_script_words.specs.Text.{KeptLine}
use Rattle.ndc_script_types.specs.declared.script.ScriptCause.TheVariants.{BadHeader}
use Rattle.ndc_script.proofs.ReadOperands.{name-word, number-word, ok-same, steps, within-word}

-- lines that can be read
abbrev pub AreReadable : List KeptLine → Type 0
AreReadable lines = AllByRecursion (λ line. line.reading ≡ Readable) lines

-- the words of lines
abbrev pub words_in : List KeptLine → List (List (List ℕ))
words_in lines = map (λ line. line.words) lines

-- the number that a header line gives is that of its words, within the bounds
record IsSetting (key : List ℕ) (low high : ℕ) (lines : List KeptLine) (setting : Setting) : Type 0 where
  pub first : KeptLine
  pub parts : lines ≡ first ∷ setting.rest
  pub readable : first.reading ≡ Readable
  pub words : first.words ≡ key ∷ decimal setting.value ∷ []
  pub least : low ≤ setting.value
  pub most : setting.value ≤ high

number-is : (line : ℕ) (reading : Reading) (o : Option ℕ) (value : ℕ) → number_read line reading o ≡ Ok value → (reading ≡ Readable) × (o ≡ Some value)
number-is line PastLimit o value e = absurd (cc)
number-is line Unreadable o value e = absurd (cc)
number-is line Readable None value e = absurd (cc)
number-is line Readable (Some number) value e = (refl, ap Some (ok-same number value e))

keyed-is : (key : List ℕ) (low high n : ℕ) (words : List (List ℕ)) → within low high (keyed_number key words) ≡ Some n → high < 2 ^ 64 → words ≡ key ∷ decimal n ∷ []
keyed-is key low high n [] e small = absurd (cc)
keyed-is key low high n (a ∷ []) e small = absurd (cc)
keyed-is key low high n (a ∷ b ∷ c ∷ words) e small = absurd (cc)
keyed-is key low high n (word ∷ number ∷ []) e small = by (bytes_eq word key) refl e
  where
    by : (t : Bool) → bytes_eq word key ≡ t → within low high (if t then number_of number else None) ≡ Some n → (word ∷ number ∷ []) ≡ key ∷ decimal n ∷ []
    by true is h =
        ap (λ (w : List ℕ). w ∷ number ∷ []) ((bytes_eq-Decides word key).0 is) ∙ ap (λ (w : List ℕ). key ∷ w ∷ []) (sym (within-word low high n number h small))
    by false is h = absurd (cc)

within-between : (low high n : ℕ) (o : Option ℕ) → within low high o ≡ Some n → (low ≤ n) × (n ≤ high)
within-between low high n None e = absurd (cc)
within-between low high n (Some m) e = by (nat_le low m && nat_le m high) refl e
  where
    by : (t : Bool) → (nat_le low m && nat_le m high) ≡ t → (if t then Some m else None) ≡ Some n → (low ≤ n) × (n ≤ high)
    by false is h = absurd (cc)
    by true is h =
        let same : m ≡ n = cc in
        let p = and_parts (nat_le low m) (nat_le m high) is in
        subst (λ k. (low ≤ k) × (k ≤ high)) same (leb-true low m p.0, leb-true m high p.1)

setting-is : (key : List ℕ) (low high end : ℕ) (lines : List KeptLine) (setting : Setting) → setting_of key low high end lines ≡ Ok setting → high < 2 ^ 64 → IsSetting key low high lines setting
unfolding setting_of
setting-is key low high end [] setting e small = absurd (cc)
setting-is key low high end (line ∷ rest) setting e small =
    let a = steps (number_read line.number line.reading (within low high (keyed_number key line.words))) _ setting e in
    let n = number-is line.number line.reading (within low high (keyed_number key line.words)) a.value a.is in
    let within_bounds = within-between low high a.value (keyed_number key line.words) n.1 in
    subst (IsSetting key low high (line ∷ rest)) (ok-same _ setting a.rest)
    (record { first = line; parts = refl; readable = n.0; words = keyed-is key low high a.value line.words n.1 small; least = within_bounds.0; most = within_bounds.1 })

-- clusters that are made have the members that were given
clusters-are : (n : ℕ) (ms : List (List ℕ × ℕ)) (clusters : ClusterList) → clusters_of n ms ≡ Ok clusters → clusters ≡ record { increment = n; members = ms }
clusters-are n ms clusters e = by ((n == 0) || nat_lt (10 ^ 12) n) (length ms == 0) (fault_from n [] ms) e
  where
    by : (s t : Bool) (o : Option ClustersError) → (if s then Err fault.IncrementLimit else if t then Err fault.NoClusters else clusters_without o (record { increment = n; members = ms })) ≡ Ok clusters → clusters ≡ record { increment = n; members = ms }
    by true t o h = absurd (cc)
    by false true o h = absurd (cc)
    by false false (Some found) h = absurd (cc)
    by false false None h = let same : record { increment = n; members = ms } ≡ clusters = cc in sym same

-- a member that is read is that of its line
member-is : (line : KeptLine) (member : List ℕ × ℕ) → member_of line ≡ Some member → member.1 < 2 ^ 64 → (line.reading ≡ Readable) × (line.words ≡ cluster_line_of member)
member-is line member e small = by line.reading refl e
  where
    named : (word name initial : List ℕ) (r : Result (List ℕ) NameError) → name_of name ≡ r → (o : Option ℕ) → number_of initial ≡ o → word ≡ codes "cluster" → named_initial r o ≡ Some member → (word ∷ name ∷ initial ∷ []) ≡ cluster_line_of member
    named word name initial (Err error) is o at first h = absurd (cc)
    named word name initial (Ok x) is None at first h = absurd (cc)
    named word name initial (Ok x) is (Some n) at first h =
        let same : (x, n) ≡ member = cc in
        let less : n < 2 ^ 64 = subst (λ (m : List ℕ × ℕ). m.1 < 2 ^ 64) (sym same) small in
        ap (λ (w : List ℕ). w ∷ name ∷ initial ∷ []) first ∙ ap (λ (w : List ℕ). codes "cluster" ∷ w ∷ initial ∷ []) (sym (name-word name x is))
        ∙ ap (λ (w : List ℕ). codes "cluster" ∷ x ∷ w ∷ []) (sym (number-word initial n at less)) ∙ ap cluster_line_of same

    words_are : (words : List (List ℕ)) → cluster_words words ≡ Some member → words ≡ cluster_line_of member
    words_are [] h = absurd (cc)
    words_are (a ∷ []) h = absurd (cc)
    words_are (a ∷ b ∷ []) h = absurd (cc)
    words_are (a ∷ b ∷ c ∷ d ∷ words) h = absurd (cc)
    words_are (word ∷ name ∷ initial ∷ []) h = test (bytes_eq word (codes "cluster")) refl h
      where
        test : (t : Bool) → bytes_eq word (codes "cluster") ≡ t → (if t then named_initial (name_of name) (number_of initial) else None) ≡ Some member → (word ∷ name ∷ initial ∷ []) ≡ cluster_line_of member
        test true is h = named word name initial (name_of name) refl (number_of initial) refl ((bytes_eq-Decides word (codes "cluster")).0 is) h
        test false is h = absurd (cc)

    by : (reading : Reading) → line.reading ≡ reading → member_read reading line.words ≡ Some member → (line.reading ≡ Readable) × (line.words ≡ cluster_line_of member)
    by Readable is h = (is, words_are line.words h)
    by Unreadable is h = absurd (cc)
    by PastLimit is h = absurd (cc)

abbrev AreSmall : List (List ℕ × ℕ) → Type 0
AreSmall members = AllByRecursion (λ member. member.1 < 2 ^ 64) members

-- the cluster lines at the beginning
members-lines : (lines : List KeptLine) → AreSmall (members_of lines)
    → AreReadable (take (length (members_of lines)) lines) × (words_in (take (length (members_of lines)) lines) ≡ map cluster_line_of (members_of lines))
members-lines [] small = (tt, refl)
members-lines (line ∷ lines) small = by (member_of line) refl small (members-lines lines)
  where
    by : (o : Option (List ℕ × ℕ)) → member_of line ≡ o → AreSmall (before_members o (members_of lines))
        → (AreSmall (members_of lines) → AreReadable (take (length (members_of lines)) lines) × (words_in (take (length (members_of lines)) lines) ≡ map cluster_line_of (members_of lines)))
        → AreReadable (take (length (before_members o (members_of lines))) (line ∷ lines)) × (words_in (take (length (before_members o (members_of lines))) (line ∷ lines)) ≡ map cluster_line_of (before_members o (members_of lines)))
    by None is few rest = (tt, refl)
    by (Some member) is few rest =
        let m = member-is line member is few.0 in
        let r = rest few.1 in
        ((m.0, r.0), ap (λ (w : List (List ℕ)). w ∷ words_in (take (length (members_of lines)) lines)) m.1 ∙ ap (λ (l : List (List (List ℕ))). cluster_line_of member ∷ l) r.1)

small-members : (members : List (List ℕ × ℕ)) (high : ℕ) → high ≤ 10 ^ 12 → ((i : ℕ) → i < length members → (get_or members i ([], 0)).1 < high) → AreSmall members
small-members [] high most each = tt
small-members (member ∷ members) high most each =
    let first : member.1 < high = each 0 (omega arith) in
    (omega (arith, first, most), small-members members high most (λ i below. each (suc i) (omega (arith, below))))

placed-is : (end increment : ℕ) (lines : List KeptLine) (r : Result ClusterList ClustersError) (clusters : ClusterList) → placed end increment lines r ≡ Ok clusters → r ≡ Ok clusters
placed-is end increment lines (Ok one) clusters e = ap Ok (ok-same one clusters e)
placed-is end increment lines (Err error) clusters e = absurd (cc)

body-is : (lines body : List KeptLine) → body_lines lines ≡ Ok body → lines ≡ body
body-is [] body e = ok-same [] body e
body-is (line ∷ lines) body e = by (is_cluster_line line.words) e
  where
    by : (t : Bool) → (if t then refused line.number BadHeader else Ok (line ∷ lines)) ≡ Ok body → (line ∷ lines) ≡ body
    by true h = absurd (cc)
    by false h = ok-same (line ∷ lines) body h

-- what is read of the cluster lines and after them
record AreClustersRead (increment shards limit : ℕ) (lines : List KeptLine) (read : HeaderRead) : Type 0 where
  pub front : List KeptLine
  pub parts : lines ≡ front ++ read.body
  pub readable : AreReadable front
  pub words : words_in front ≡ map cluster_line_of read.header.clusters.members
  pub sound : AreClusters read.header.clusters
  pub increment_is : read.header.clusters.increment ≡ increment
  pub shards_are : read.header.shards ≡ shards
  pub limit_is : read.header.limit ≡ limit

clusters-lines : (end : ℕ) (increment : Setting) (shards limit : ℕ) (lines : List KeptLine) (read : HeaderRead) → clusters_read end increment shards limit lines ≡ Ok read → AreClustersRead increment.value shards limit lines read
unfolding clusters_read
clusters-lines end increment shards limit lines read e =
    let a = steps (placed end increment.line lines (clusters_of increment.value (members_of lines))) _ read e in
    let b = steps (body_lines (behind_members lines)) _ read a.rest in
    let made : clusters_of increment.value (members_of lines) ≡ Ok a.value = placed-is end increment.line lines (clusters_of increment.value (members_of lines)) a.value a.is in
    let sound : AreClusters a.value = built_is_sound increment.value (members_of lines) a.value made in
    let are : a.value ≡ record { increment = increment.value; members = members_of lines } = clusters-are increment.value (members_of lines) a.value made in
    let small : AreSmall (members_of lines) = subst (λ (c : ClusterList). AreSmall c.members) are (small-members a.value.members a.value.increment sound.increment_most sound.initials_below) in
    let m = members-lines lines small in
    subst (AreClustersRead increment.value shards limit lines) (ok-same _ read b.rest)
    (record {
      front = take (length (members_of lines)) lines;
      parts = sym (take-append-drop (length (members_of lines)) lines) ∙ ap (λ (l : List KeptLine). take (length (members_of lines)) lines ++ l) (body-is (behind_members lines) b.value b.is);
      readable = m.0;
      words = m.1 ∙ ap (λ (c : ClusterList). map cluster_line_of c.members) (sym are);
      sound = sound;
      increment_is = ap (λ (c : ClusterList). c.increment) are;
      shards_are = refl;
      limit_is = refl;
    })

-- a header that is read
pub record IsHeaderRead (lines : List KeptLine) (read : HeaderRead) : Type 0 where
  pub front : List KeptLine
  pub parts : lines ≡ front ++ read.body
  pub readable : AreReadable front
  pub words : words_in front ≡ header_lines read.header
  pub sound : AreClusters read.header.clusters
  pub few : read.header.shards ≤ 64

-- the lines of a header, one by one
header-words : (header : Header) (edition increment shards limit : List (List ℕ)) (clusters : List (List (List ℕ))) → edition ≡ codes "ndc" ∷ decimal 1 ∷ [] → increment ≡ codes "increment" ∷ decimal header.clusters.increment ∷ []
    → shards ≡ codes "shards" ∷ decimal header.shards ∷ [] → limit ≡ codes "limit" ∷ decimal header.limit ∷ [] → clusters ≡ map cluster_line_of header.clusters.members → (edition ∷ increment ∷ shards ∷ limit ∷ clusters) ≡ header_lines header
header-words header edition increment shards limit clusters a b c d e = rw (a, b, c, d, e) refl

pub header-is : (end : ℕ) (lines : List KeptLine) (read : HeaderRead) → header_of end lines ≡ Ok read → IsHeaderRead lines read
unfolding header_of
header-is end lines read e =
    let a = steps (setting_of (codes "ndc") 1 1 end lines) _ read e in
    let b = steps (setting_of (codes "increment") 0 (10 ^ 18) end a.value.rest) _ read a.rest in
    let c = steps (increment_at b.value.line b.value.value) _ read b.rest in
    let d = steps (setting_of (codes "shards") 1 64 end b.value.rest) _ read c.rest in
    let f = steps (setting_of (codes "limit") 10 204800 end d.value.rest) _ read d.rest in
    let edition = setting-is (codes "ndc") 1 1 end lines a.value a.is (omega arith) in
    let increment = setting-is (codes "increment") 0 (10 ^ 18) end a.value.rest b.value b.is (omega arith) in
    let shards = setting-is (codes "shards") 1 64 end b.value.rest d.value d.is (omega arith) in
    let limit = setting-is (codes "limit") 10 204800 end d.value.rest f.value f.is (omega arith) in
    let one : a.value.value ≡ 1 = (let least = edition.least in let most = edition.most in omega (arith, least, most)) in
    let rest = clusters-lines end b.value d.value.value f.value.value f.value.rest read f.rest in
    record {
      front = edition.first ∷ increment.first ∷ shards.first ∷ limit.first ∷ rest.front;
      parts = edition.parts ∙ ap (λ (l : List KeptLine). edition.first ∷ l) (increment.parts ∙ ap (λ (l : List KeptLine). increment.first ∷ l) (shards.parts ∙ ap (λ (l : List KeptLine). shards.first ∷ l)
          (limit.parts ∙ ap (λ (l : List KeptLine). limit.first ∷ l) rest.parts)));
      readable = (edition.readable, (increment.readable, (shards.readable, (limit.readable, rest.readable))));
      words = header-words read.header edition.first.words increment.first.words shards.first.words limit.first.words (words_in rest.front) (edition.words ∙ ap (λ (n : ℕ). codes "ndc" ∷ decimal n ∷ []) one)
          (increment.words ∙ ap (λ (n : ℕ). codes "increment" ∷ decimal n ∷ []) (sym rest.increment_is)) (shards.words ∙ ap (λ (n : ℕ). codes "shards" ∷ decimal n ∷ []) (sym rest.shards_are))
          (limit.words ∙ ap (λ (n : ℕ). codes "limit" ∷ decimal n ∷ []) (sym rest.limit_is)) rest.words;
      sound = rest.sound;
      few = (let s = shards.most in omega (arith, s, rest.shards_are));
    }
