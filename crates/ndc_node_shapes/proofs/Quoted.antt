-- Quoted texts are read exactly where they are printed.
use Rattle.std.proofs.Common.{◌≡◌, ℕ, zero, suc, ◌+◌, ◌-◌, ◌<◌, ◌≤◌, ◌%◌, Bool, true, false, ◌&&◌, ◌||◌, ◌==◌, List, [], ◌∷◌, ◌++◌, Ok, Err, refl, sym, ap, ◌∙◌, arith, subst, append_assoc, inl, le-leb, leb-true, eqb-true, length, Option, Some, None, ◌/◌, ◌^◌, All}
use Rattle.std.specs.Str.{bytes_eq}
use Rattle.std.specs.Int.{w128, to_be_bytes, from_be_bytes, byte_at, bytes_high_first}
use Rattle.std.proofs.lemmas.Slice.Eq.{bytes_eq-Decides}
use Rattle.std.proofs.lemmas.List.Elements.{All-nil, All-cons}
use Rattle.uuid.specs.Text.{by_index, hex_digit, hyphen, lower, nibble, digit_place, is_hyphen_place, parsed}
use Rattle.uuid.proofs.RoundTrips.{parses_hyphenated}
use Rattle.uuid.proofs.OrderLemmas.{from_be_bytes-to_be_bytes_16}
use Rattle.ndc_event.specs.Key.{run_text}
use Rattle.ndc_event.specs.Name.{is_name, is_name_byte}
use Rattle.ndc_event.specs.declared.key.RunId.{RunId}
use Rattle.ndc_node_shapes.specs.Ranges.{is_id, is_version, is_run}
use Rattle.std.specs.Prelude.{slice_index, IsTrue, nat_le, nat_lt, if◌then◌else◌}
use Rattle.std.specs.List.{list_all}
use Rattle.std.proofs.lemmas.Bool.{and_parts, ltb-true, ltb-false}
use Rattle.ndc_node_shapes.specs.Bytes.{Taken, is_plain, is_marked, escaped, quoted, unquoted, with_byte, text_at, name_at, word_at, run_at, run_from, run_of_value, in_range, wanted, fault_at, expect}
use Rattle.ndc_node_shapes.specs.declared.fault.Cause.TheVariants.{Byte, Range}
use Rattle.ndc_node_shapes.proofs.Steps.{bound, parts, wanted_some}
use Rattle.ndc_node_shapes.proofs.Pieces.{was_expected}

-- ---- what is printed is read

pub neither : (one two : Bool) → (one || two) ≡ false → (one ≡ false) × (two ≡ false)
neither true two h = absurd (cc)
neither false two h = (refl, h)

again_by : (b : ℕ) (bytes rest : List ℕ) (test : Bool) → is_marked b ≡ test → is_plain b ≡ true → unquoted false (escaped bytes ++ 34 ∷ rest) ≡ Ok (bytes, rest)
    → unquoted false ((if test then 92 ∷ b ∷ escaped bytes else b ∷ escaped bytes) ++ 34 ∷ rest) ≡ Ok (b ∷ bytes, rest)
again_by b bytes rest true m p h = rw (m, h) refl
again_by b bytes rest false m p h = let n = neither (b == 34) (b == 92) m in rw (n.0, n.1, p, h) refl

unquoted_again : (bytes rest : List ℕ) → list_all is_plain bytes ≡ true → unquoted false (escaped bytes ++ 34 ∷ rest) ≡ Ok (bytes, rest)
unquoted_again [] rest h = refl
unquoted_again (b ∷ bytes) rest h =
    let p = and_parts (is_plain b) (list_all is_plain bytes) h in
    again_by b bytes rest (is_marked b) refl p.0 (unquoted_again bytes rest p.1)

pub text_again : (bytes rest : List ℕ) → list_all is_plain bytes ≡ true → text_at (quoted bytes ++ rest) ≡ Ok (bytes, rest)
text_again bytes rest h = ap (unquoted false) (append_assoc (escaped bytes) (34 ∷ []) rest) ∙ unquoted_again bytes rest h

-- ---- what is read was printed

-- the bytes that are left, with the backslash that was read
abbrev before : Bool → List ℕ → List ℕ
before true left = 92 ∷ left
before false left = left

abbrev IsText : Bool → List ℕ → List ℕ → List ℕ → Type 0
IsText marked left bytes rest = (before marked left ≡ escaped bytes ++ 34 ∷ rest) × (list_all is_plain bytes ≡ true)

marked_is_plain : (b : ℕ) (one two : Bool) → (b == 34) ≡ one → (b == 92) ≡ two → (one || two) ≡ true → is_plain b ≡ true
marked_is_plain b true two e f h = rw (eqb-true b 34 e) refl
marked_is_plain b false true e f h = rw (eqb-true b 92 f) refl
marked_is_plain b false false e f h = absurd (cc)

-- what was read begins with the byte
byte_first : (b : ℕ) (r : Taken (List ℕ)) (bytes rest : List ℕ) → with_byte b r ≡ Ok (bytes, rest) → (bs : List ℕ) × ((bytes ≡ b ∷ bs) × (r ≡ Ok (bs, rest)))
byte_first b (Ok r) bytes rest h = let p = parts (b ∷ r.0) bytes r.1 rest h in (r.0, (sym p.0, ap (λ (x : List ℕ). Ok (r.0, x)) p.1))
byte_first b (Err e) bytes rest h = absurd (cc)

plain_more : (b : ℕ) (bs : List ℕ) → is_plain b ≡ true → list_all is_plain bs ≡ true → list_all is_plain (b ∷ bs) ≡ true
plain_more b bs p h = rw (p, h) refl

-- a byte after a backslash
after_mark : (b : ℕ) (left bytes rest : List ℕ) (test : Bool) → is_marked b ≡ test
    → ((bs : List ℕ) → unquoted false left ≡ Ok (bs, rest) → IsText false left bs rest)
    → (if test then with_byte b (unquoted false left) else fault_at {A = List ℕ × List ℕ} Byte (b ∷ left)) ≡ Ok (bytes, rest) → IsText true (b ∷ left) bytes rest
after_mark b left bytes rest true m k h =
    let f = byte_first b (unquoted false left) bytes rest h in
    let it = k f.0 f.1.1 in
    let one : 92 ∷ b ∷ left ≡ escaped (b ∷ f.0) ++ 34 ∷ rest = rw m (ap (λ (x : List ℕ). 92 ∷ b ∷ x) it.0) in
    subst (λ bs. IsText true (b ∷ left) bs rest) (sym f.1.0) (one, plain_more b f.0 (marked_is_plain b (b == 34) (b == 92) refl refl m) it.1)
after_mark b left bytes rest false m k h = absurd (cc)

-- a plain byte
plain_byte : (b : ℕ) (left bytes rest : List ℕ) (test : Bool) → is_marked b ≡ false → is_plain b ≡ test
    → ((bs : List ℕ) → unquoted false left ≡ Ok (bs, rest) → IsText false left bs rest)
    → (if test then with_byte b (unquoted false left) else fault_at {A = List ℕ × List ℕ} Byte (b ∷ left)) ≡ Ok (bytes, rest) → IsText false (b ∷ left) bytes rest
plain_byte b left bytes rest true m p k h =
    let f = byte_first b (unquoted false left) bytes rest h in
    let it = k f.0 f.1.1 in
    let one : b ∷ left ≡ escaped (b ∷ f.0) ++ 34 ∷ rest = rw m (ap (λ (x : List ℕ). b ∷ x) it.0) in
    subst (λ bs. IsText false (b ∷ left) bs rest) (sym f.1.0) (one, plain_more b f.0 p it.1)
plain_byte b left bytes rest false m p k h = absurd (cc)

-- any byte
any_byte : (b : ℕ) (left bytes rest : List ℕ) (quote mark : Bool) → (b == 34) ≡ quote → (b == 92) ≡ mark
    → ((bs : List ℕ) → unquoted true left ≡ Ok (bs, rest) → IsText true left bs rest)
    → ((bs : List ℕ) → unquoted false left ≡ Ok (bs, rest) → IsText false left bs rest)
    → (if quote then Ok ([], left) else if mark then unquoted true left else if is_plain b then with_byte b (unquoted false left) else fault_at {A = List ℕ × List ℕ} Byte (b ∷ left)) ≡ Ok (bytes, rest)
    → IsText false (b ∷ left) bytes rest
any_byte b left bytes rest true mark q m j k h =
    let p = parts [] bytes left rest h in
    let one : b ∷ left ≡ 34 ∷ rest = rw (eqb-true b 34 q, p.1) refl in
    subst (λ bs. IsText false (b ∷ left) bs rest) p.0 (one, refl)
any_byte b left bytes rest false true q m j k h =
    let same : b ≡ 92 = eqb-true b 92 m in
    let it = j bytes h in
    (subst (λ x. x ∷ left ≡ escaped bytes ++ 34 ∷ rest) (sym same) it.0, it.1)
any_byte b left bytes rest false false q m j k h =
    let none : is_marked b ≡ false = rw (q, m) refl in
    plain_byte b left bytes rest (is_plain b) none refl k h

unquoted_only : (marked : Bool) (left bytes rest : List ℕ) → unquoted marked left ≡ Ok (bytes, rest) → IsText marked left bytes rest
unquoted_only true [] bytes rest h = absurd (cc)
unquoted_only false [] bytes rest h = absurd (cc)
unquoted_only true (b ∷ left) bytes rest h = after_mark b left bytes rest (is_marked b) refl (λ bs. unquoted_only false left bs rest) h
unquoted_only false (b ∷ left) bytes rest h =
    any_byte b left bytes rest (b == 34) (b == 92) refl refl (λ bs. unquoted_only true left bs rest) (λ bs. unquoted_only false left bs rest) h

pub text_only : (left bytes rest : List ℕ) → text_at left ≡ Ok (bytes, rest) → (left ≡ quoted bytes ++ rest) × IsTrue (list_all is_plain bytes)
text_only left bytes rest h =
    let p = bound (unquoted false) (expect (34 ∷ []) left) (bytes, rest) h in
    let it = unquoted_only false p.0 bytes rest p.1.1 in
    (was_expected (34 ∷ []) left p.0 p.1.0 ∙ ap (λ (x : List ℕ). 34 ∷ x) (it.0 ∙ sym (append_assoc (escaped bytes) (34 ∷ []) rest)), it.1)

-- ---- names

plain_by : (b : ℕ) → is_name_byte b ≡ true → is_plain b ≡ true
plain_by b h =
    let p = and_parts (nat_le 33 b) (nat_le b 126) h in
    let low : 33 ≤ b = leb-true 33 b p.0 in
    rw (le-leb 32 b (omega arith), p.1) refl

pub names_plain : (bytes : List ℕ) → list_all is_name_byte bytes ≡ true → list_all is_plain bytes ≡ true
names_plain [] h = refl
names_plain (b ∷ bytes) h = let p = and_parts (is_name_byte b) (list_all is_name_byte bytes) h in plain_more b bytes (plain_by b p.0) (names_plain bytes p.1)

pub name_again : (bytes rest : List ℕ) → IsTrue (is_name bytes) → name_at (quoted bytes ++ rest) ≡ Ok (bytes, rest)
name_again bytes rest h =
    let all = (and_parts (nat_le 1 (length bytes) && nat_le (length bytes) 200) (list_all is_name_byte bytes) h).1 in
    rw (text_again bytes rest (names_plain bytes all), h) refl

-- what is in its range
pub in_its_range : {A : Type 0} (test : Bool) (x y : A) (left : List ℕ) → in_range test x left ≡ Ok y → (x ≡ y) × (test ≡ true)
in_its_range true x y left h = (cc, refl)
in_its_range false x y left h = absurd (cc)

pub name_only : (left bytes rest : List ℕ) → name_at left ≡ Ok (bytes, rest) → IsTrue (is_name bytes) × (left ≡ quoted bytes ++ rest)
name_only left bytes rest h =
    let p = bound (λ (r : List ℕ × List ℕ). in_range (is_name r.0) r left) (text_at left) (bytes, rest) h in
    let r = in_its_range (is_name p.0.0) p.0 (bytes, rest) left p.1.1 in
    (subst (λ (q : List ℕ × List ℕ). IsTrue (is_name q.0)) r.0 r.1, (text_only left bytes rest (p.1.0 ∙ ap (λ (q : List ℕ × List ℕ). Ok q) r.0)).0)

pub word_again : (test : List ℕ → Bool) (bytes rest : List ℕ) → IsTrue (is_name bytes) → IsTrue (test bytes) → word_at test (quoted bytes ++ rest) ≡ Ok (bytes, rest)
word_again test bytes rest h t = rw (name_again bytes rest h, t) refl

pub word_only : (test : List ℕ → Bool) (left bytes rest : List ℕ) → word_at test left ≡ Ok (bytes, rest) → (IsTrue (is_name bytes) × IsTrue (test bytes)) × (left ≡ quoted bytes ++ rest)
word_only test left bytes rest h =
    let p = bound (λ (r : List ℕ × List ℕ). in_range (test r.0) r left) (name_at left) (bytes, rest) h in
    let r = in_its_range (test p.0.0) p.0 (bytes, rest) left p.1.1 in
    let it = name_only left bytes rest (p.1.0 ∙ ap (λ (q : List ℕ × List ℕ). Ok q) r.0) in
    ((it.0, subst (λ (q : List ℕ × List ℕ). IsTrue (test q.0)) r.0 r.1), it.1)

-- ---- ids of runs

last_plain : (bytes : List ℕ) (b : ℕ) → list_all is_plain bytes ≡ true → is_plain b ≡ true → list_all is_plain (bytes ++ b ∷ []) ≡ true
last_plain [] b h p = rw p refl
last_plain (x ∷ bytes) b h p = let q = and_parts (is_plain x) (list_all is_plain bytes) h in plain_more x (bytes ++ b ∷ []) q.0 (last_plain bytes b q.1 p)

listed_plain : (n : ℕ) (f : ℕ → ℕ) → ((k : ℕ) → is_plain (f k) ≡ true) → list_all is_plain (by_index n f) ≡ true
unfolding by_index
listed_plain zero f h = refl
listed_plain (suc n) f h = last_plain (by_index n f) (f n) (listed_plain n f h) (h n)

in_bounds : (b : ℕ) → 32 ≤ b → b ≤ 126 → is_plain b ≡ true
in_bounds b low high = rw (le-leb 32 b low, le-leb b 126 high) refl

digit_plain : (d : ℕ) (test : Bool) → nat_lt d 10 ≡ test → d < 16 → is_plain (if test then 48 + d else 97 + d - 10) ≡ true
digit_plain d true e h = let few : d < 10 = ltb-true d 10 e in in_bounds (48 + d) (omega arith) (omega arith)
digit_plain d false e h = in_bounds (97 + d - 10) (omega (arith, ltb-false d 10 e)) (omega arith)

rest_small : (m : ℕ) → m % 16 < 16
rest_small m = omega arith

half_small : (xs : List ℕ) (k : ℕ) (test : Bool) → (if test then slice_index xs (k / 2) / 16 % 16 else slice_index xs (k / 2) % 16) < 16
half_small xs k true = rest_small (slice_index xs (k / 2) / 16)
half_small xs k false = rest_small (slice_index xs (k / 2))

place_plain : (xs : List ℕ) (k : ℕ) (test : Bool) → is_plain (if test then hyphen else hex_digit lower (nibble xs (digit_place k))) ≡ true
place_plain xs k true = refl
place_plain xs k false = digit_plain (nibble xs (digit_place k)) (nat_lt (nibble xs (digit_place k)) 10) refl (half_small xs (digit_place k) (digit_place k % 2 == 0))

pub run_plain : (run : RunId) → list_all is_plain (run_text run) ≡ true
run_plain run = listed_plain 36 _ (λ k. place_plain (to_be_bytes w128 run.value) k (is_hyphen_place k))

byte_small : (i n : ℕ) → byte_at i n < 256
byte_small zero n = omega arith
byte_small (suc i) n = omega arith

high_small : (k n : ℕ) → All (λ b. b < 256) (bytes_high_first k n)
high_small zero n = All-nil (λ b. b < 256)
high_small (suc k) n = All-cons (λ b. b < 256) (byte_at k n) (bytes_high_first k n) (byte_small k n) (high_small k n)

run_small : (n : ℕ) → IsTrue (is_run n) → n < 2 ^ 128
run_small n h = let high : n / 2 ^ 64 ≤ 10 ^ 13 = leb-true (n / 2 ^ 64) (10 ^ 13) (and_parts (is_version (n / 2 ^ 64)) (is_id (n % 2 ^ 64)) h).0 in omega arith

parsed_again : (run : RunId) → IsTrue (is_run run.value) → run_from (run_text run) (parsed (run_text run)) ≡ Some run
unfolding run_of_value
parsed_again run h =
    let bytes = to_be_bytes w128 run.value in
    ap (run_from (run_text run)) (sym (parses_hyphenated lower bytes (inl refl) refl (high_small 16 run.value)))
    ∙ rw (from_be_bytes-to_be_bytes_16 run.value (run_small run.value h), h, (bytes_eq-Decides (run_text run) (run_text run)).1 refl) refl

pub run_again : (run : RunId) (rest : List ℕ) → IsTrue (is_run run.value) → run_at (quoted (run_text run) ++ rest) ≡ Ok (run, rest)
run_again run rest h = rw (text_again (run_text run) rest (run_plain run), parsed_again run h) refl

run_by : (text : List ℕ) (n : ℕ) (run : RunId) (fits same : Bool) → is_run n ≡ fits → bytes_eq text (run_text (record { value = n })) ≡ same
    → (if fits && same then Some (record { value = n }) else None) ≡ Some run → IsTrue (is_run run.value) × (text ≡ run_text run)
run_by text n run true true f e h =
    let is : ◌≡◌ {A = RunId} (record { value = n }) run = cc in
    (subst (λ (r : RunId). IsTrue (is_run r.value)) is f, (bytes_eq-Decides text (run_text (record { value = n }))).0 e ∙ ap run_text is)
run_by text n run true false f e h = absurd (cc)
run_by text n run false same f e h = absurd (cc)

run_was : (text : List ℕ) (o : Option (List ℕ)) (run : RunId) → run_from text o ≡ Some run → IsTrue (is_run run.value) × (text ≡ run_text run)
unfolding run_of_value
run_was text None run h = absurd (cc)
run_was text (Some bytes) run h = run_by text (from_be_bytes w128 bytes) run (is_run (from_be_bytes w128 bytes)) (bytes_eq text (run_text (record { value = from_be_bytes w128 bytes }))) refl refl h

pub run_only : (run : RunId) (left rest : List ℕ) → run_at left ≡ Ok (run, rest) → IsTrue (is_run run.value) × (left ≡ quoted (run_text run) ++ rest)
run_only run left rest h =
    let p = bound _ (text_at left) (run, rest) h in
    let text = p.0.0 in
    let q = bound (λ (run : RunId). Ok (run, p.0.1)) (wanted Range left (run_from text (parsed text))) (run, rest) p.1.1 in
    let r = parts q.0 run p.0.1 rest q.1.1 in
    let was = run_was text (parsed text) q.0 (wanted_some Range left (run_from text (parsed text)) q.0 q.1.0) in
    let one = text_only left text p.0.1 p.1.0 in (
      subst (λ (r : RunId). IsTrue (is_run r.value)) r.0 was.0,
      one.0 ∙ ap (λ (bs : List ℕ). quoted bs ++ p.0.1) (was.1 ∙ ap run_text r.0) ∙ ap (λ (x : List ℕ). quoted (run_text run) ++ x) r.1,
    )
