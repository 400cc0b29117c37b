-- A printed header is read again.
use Rattle.std.proofs.Common.{◌≡◌, ℕ, suc, ◌+◌, ◌<◌, ◌≤◌, ◌^◌, Bool, true, false, List, [], ◌∷◌, ◌++◌, length, map, drop, get_or, nat_lt, Option, Some, None, Result, Ok, codes, decimal, if◌then◌else◌, refl, ap, ◌∙◌, arith, lit<}
use Rattle.std.specs.List.{list_all, AllByRecursion as ByRecursion}
use Rattle.std.specs.Str.{bytes_eq}
use Rattle.std.proofs.lemmas.Bool.{le-leb, ltb-true, and_parts}
use Rattle.ndc_event.specs.Outcome.{◌>>=◌}
use Rattle.ndc_event.specs.Name.{is_name, name_of, is_name_byte}
use Rattle.ndc_domain.specs.Clusters.{clusters_of}
use Rattle.ndc_domain.proofs.Faults.{sound_is_built}
use Rattle.ndc_domain.proofs.Writers.{not_true}
use Rattle.ndc_script_types.specs.declared.script.Header.{Header}
use Rattle.ndc_script_words.specs.declared.text.Reading.TheVariants.{Readable}
use Rattle.ndc_script_words.specs.Text.{KeptLine}
use Rattle.ndc_script_words.specs.Number.{number_of}
use Rattle.ndc_script_words.specs.Header.{Setting, within, number_read, setting_of, increment_at, cluster_words, member_of, members_of, before_members, behind_members, is_cluster_line, body_lines, clusters_read, header_of, named_initial}
use Rattle.ndc_script_types.specs.WellFormed.{IsWellFormedHeader}
use Rattle.ndc_script_types.specs.Print.{cluster_line_of, header_lines}
use Rattle.ndc_script.proofs.PrintedNumbers.{number_of-decimal}
use Rattle.ndc_script.proofs.PrintedLines.{kept_numbered}
use Rattle.ndc_script.proofs.PrintedWords.{differs, name_parts}

-- what is not above a number
not_below : (a b : ℕ) → b ≤ a → nat_lt a b ≡ false
not_below a b h = not_true (nat_lt a b) (λ e. omega (arith, h, ltb-true a b e))

within-bounds : (low high n : ℕ) → low ≤ n → n ≤ high → within low high (Some n) ≡ Some n
within-bounds low high n l h = rw (le-leb low n l, le-leb n high h) refl

-- a number within bounds that is printed is read again
pub within-decimal : (low high n : ℕ) → n < 10 ^ 18 → low ≤ n → n ≤ high → within low high (number_of (decimal n)) ≡ Some n
within-decimal low high n small l h = ap (within low high) (number_of-decimal n small) ∙ within-bounds low high n l h

-- a header line is read again
setting-line : (key : List ℕ) (low high end number n : ℕ) (rest : List KeptLine) → bytes_eq key key ≡ true → n < 10 ^ 18 → low ≤ n → n ≤ high → setting_of key low high end (record { number = number; reading = Readable; words = key ∷ decimal n ∷ [] } ∷ rest) ≡ Ok (record { line = number; value = n; rest = rest })
unfolding setting_of
setting-line key low high end number n rest same small l h =
    ap (λ (t : Bool). number_read number Readable (within low high (if t then number_of (decimal n) else None)) >>= (λ value. Ok (record { line = number; value = value; rest = rest }))) same
    ∙ ap (λ (o : Option ℕ). number_read number Readable o >>= (λ value. Ok (record { line = number; value = value; rest = rest }))) (within-decimal low high n small l h)

-- a name is read again
pub name_of-name : (word : List ℕ) → is_name word ≡ true → name_of word ≡ Ok word
name_of-name word h =
    let p : (1 ≤ length word) × (length word ≤ 200) × (list_all is_name_byte word ≡ true) = name_parts word h in
    rw (differs (length word) 0 (λ e. omega (arith, e, p.0)), le-leb (length word) 200 p.1, p.2) refl

-- members whose lines can be read again
abbrev pub IsMember : List ℕ × ℕ → Type 0
IsMember member = (is_name member.0 ≡ true) × (member.1 < 10 ^ 18)

member-line : (number : ℕ) (member : List ℕ × ℕ) → IsMember member → member_of (record { number = number; reading = Readable; words = cluster_line_of member }) ≡ Some member
member-line number member h =
    ap (λ (r : Result (List ℕ) _). named_initial r (number_of (decimal member.1))) (name_of-name member.0 h.0)
    ∙ ap (named_initial (Ok member.0)) (number_of-decimal member.1 h.1)

no_member-line : (words : List (List ℕ)) → is_cluster_line words ≡ false → cluster_words words ≡ None
no_member-line [] h = refl
no_member-line (w ∷ []) h = refl
no_member-line (w ∷ n ∷ []) h = refl
no_member-line (w ∷ n ∷ i ∷ []) h = rw h refl
no_member-line (w ∷ n ∷ i ∷ x ∷ xs) h = refl

-- lines of which none is a cluster line
abbrev pub NoClusterLines : List (List (List ℕ)) → Type 0
NoClusterLines lines = ByRecursion (λ words. is_cluster_line words ≡ false) lines

no_members : (number : ℕ) (lines : List (List (List ℕ))) → NoClusterLines lines → members_of (kept_numbered number lines) ≡ []
no_members number [] h = refl
no_members number (words ∷ lines) h =
    ap (λ (m : Option (List ℕ × ℕ)). before_members m (members_of (kept_numbered (number + 1) lines))) (no_member-line words h.0)

members-lines : (number : ℕ) (members : List (List ℕ × ℕ)) (lines : List (List (List ℕ))) → ByRecursion IsMember members → NoClusterLines lines → members_of (kept_numbered number (map cluster_line_of members ++ lines)) ≡ members
members-lines number [] lines h none = no_members number lines none
members-lines number (member ∷ members) lines h none =
    ap (λ (m : Option (List ℕ × ℕ)). before_members m (members_of (kept_numbered (number + 1) (map cluster_line_of members ++ lines)))) (member-line number member h.0)
    ∙ ap (λ (ms : List (List ℕ × ℕ)). member ∷ ms) (members-lines (number + 1) members lines h.1 none)

behind-lines : (number : ℕ) (members : List (List ℕ × ℕ)) (lines : List (List (List ℕ))) → drop (length members) (kept_numbered number (map cluster_line_of members ++ lines)) ≡ kept_numbered (number + length members) lines
behind-lines number [] lines = let same : number ≡ number + 0 = omega arith in ap (λ (k : ℕ). kept_numbered k lines) same
behind-lines number (member ∷ members) lines =
    let same : number + 1 + length members ≡ number + suc (length members) = omega arith in
    behind-lines (number + 1) members lines ∙ ap (λ (k : ℕ). kept_numbered k lines) same

body-lines : (number : ℕ) (lines : List (List (List ℕ))) → NoClusterLines lines → body_lines (kept_numbered number lines) ≡ Ok (kept_numbered number lines)
body-lines number [] h = refl
body-lines number (words ∷ lines) h = rw (h.0) refl

-- members of lawful clusters whose names are names
members-fit : (n : ℕ) (members : List (List ℕ × ℕ)) → n ≤ 10 ^ 12 → list_all (λ member. is_name member.0) members ≡ true → ((i : ℕ) → i < length members → (get_or members i ([], 0)).1 < n) → ByRecursion IsMember members
members-fit n [] most names below = tt
members-fit n (member ∷ members) most names below =
    let p : (is_name member.0 ≡ true) × (list_all (λ m. is_name m.0) members ≡ true) = and_parts (is_name member.0) (list_all (λ m. is_name m.0) members) names in
    let first : member.1 < n = below 0 (omega arith) in
    ((p.0, omega (arith, first, most)), members-fit n members most p.1 (λ i l. below (suc i) (omega (arith, l))))

-- the clusters and the body are read again
clusters-lines : (end : ℕ) (increment : Setting) (header : Header) (number : ℕ) (lines : List (List (List ℕ))) → increment.value ≡ header.clusters.increment → IsWellFormedHeader header → list_all (λ member. is_name member.0) header.clusters.members ≡ true → NoClusterLines lines → clusters_read end increment header.shards header.limit (kept_numbered number (map cluster_line_of header.clusters.members ++ lines)) ≡ Ok (record { header = header; body = kept_numbered (number + length header.clusters.members) lines })
unfolding clusters_read
clusters-lines end increment header number lines value sound names none =
    let all = kept_numbered number (map cluster_line_of header.clusters.members ++ lines) in
    let fit : ByRecursion IsMember header.clusters.members =
    members-fit header.clusters.increment header.clusters.members sound.clusters.increment_most names sound.clusters.initials_below in
    let members : members_of all ≡ header.clusters.members = members-lines number header.clusters.members lines fit none in
    let built : clusters_of increment.value (members_of all) ≡ Ok header.clusters =
    ap (λ (ms : List (List ℕ × ℕ)). clusters_of increment.value ms) members ∙ ap (λ (n : ℕ). clusters_of n header.clusters.members) value
    ∙ sound_is_built header.clusters sound.clusters in
    let behind : behind_members all ≡ kept_numbered (number + length header.clusters.members) lines =
    ap (λ (ms : List (List ℕ × ℕ)). drop (length ms) all) members ∙ behind-lines number header.clusters.members lines in
    rw (built, behind, body-lines (number + length header.clusters.members) lines none) refl

-- a lawful increment is one
increment-line : (line n : ℕ) → 0 < n → n ≤ 10 ^ 12 → increment_at line n ≡ Ok n
increment-line line n least most = rw (differs n 0 (λ e. omega (arith, e, least)), not_below (10 ^ 12) n most) refl

-- a printed header is read again, and the lines after it are the body
pub header_of-lines : (end : ℕ) (header : Header) (lines : List (List (List ℕ))) → IsWellFormedHeader header → list_all (λ member. is_name member.0) header.clusters.members ≡ true → NoClusterLines lines → header_of end (kept_numbered 1 (header_lines header ++ lines)) ≡ Ok (record { header = header; body = kept_numbered (5 + length header.clusters.members) lines })
unfolding header_of
header_of-lines end header lines sound names none =
    let clusters = kept_numbered 5 (map cluster_line_of header.clusters.members ++ lines) in
    let limit = record { number = 4; reading = Readable; words = codes "limit" ∷ decimal header.limit ∷ [] } ∷ clusters in
    let shards = record { number = 3; reading = Readable; words = codes "shards" ∷ decimal header.shards ∷ [] } ∷ limit in
    let increment = record { number = 2; reading = Readable; words = codes "increment" ∷ decimal header.clusters.increment ∷ [] } ∷ shards in
    rw (
      setting-line (codes "ndc") 1 1 end 1 1 increment refl (lit< tt) (omega arith) (omega arith),
      setting-line (codes "increment") 0 (10 ^ 18) end 2 header.clusters.increment shards refl (omega (arith, sound.clusters.increment_most)) (omega arith) (omega (arith, sound.clusters.increment_most)),
      increment-line 2 header.clusters.increment sound.clusters.increment_least sound.clusters.increment_most,
      setting-line (codes "shards") 1 64 end 3 header.shards limit refl (omega (arith, sound.shards_most)) sound.shards_least sound.shards_most,
      setting-line (codes "limit") 10 204800 end 4 header.limit clusters refl (omega (arith, sound.limit_most)) sound.limit_least sound.limit_most,
    )
    (clusters-lines end (record { line = 2; value = header.clusters.increment; rest = shards }) header 5 lines refl sound names none)
