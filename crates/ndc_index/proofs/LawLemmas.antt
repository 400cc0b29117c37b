-- The lines of seats, and which indexers are chosen.
use Rattle.std.proofs.Common.{◌≡◌, ◌≢◌, ℕ, suc, ◌+◌, ◌<◌, Bool, true, false, ◌&&◌, nat_lt, nat_eq, List, [], ◌∷◌, ◌++◌, map, length, codes, decimal, get_or, Option, Some, None, if◌then◌else◌, arith, refl, sym, ap, subst, ◌∙◌}
use Rattle.std.specs.Prelude.{AllPairs, is_some}
use Rattle.std.specs.List.{AllByRecursion, list_any}
use Rattle.std.specs.Str.{bytes_eq}
use Rattle.std.proofs.lemmas.Bool.{ltb-true, ltb-false, lt-ltb, le-ltb}
use Rattle.std.proofs.lemmas.List.{append_assoc, append-nil, length-append}
use Rattle.std.proofs.lemmas.Slice.Eq.{bytes_eq-Decides}
use Rattle.ndc_event.specs.declared.name.Name.{Name}
use Rattle.ndc_index.specs.Lines.{Asked, calls_well, index_line, index_text}
use Rattle.ndc_index.specs.Seats.{IndexerValue, Seated, Taken, after_all, after_told, all_known, chosen, indexer_of, left_there, new_seat, seat_before, seat_in, seat_line, seat_of, seated, seated_of, seats_known, shown, taken_of, taken_out, then_late, with_late, with_taken}
use Rattle.ndc_index.specs.Texts.{events_told}
use Rattle.ndc_index.specs.declared.seen.Seen.{Seen}

-- a seat whose indexer has failed stays as it is
dropped-stays : (name : Name) (calls : ℕ) (seen : List Seen) → after_all seen (seat_of name calls None) ≡ seat_of name calls None
unfolding after_told
dropped-stays name calls [] = refl
dropped-stays name calls (told ∷ seen) = dropped-stays name calls seen

-- what a seat shows: after how many calls its indexer failed, or what it shows of all that it was told
abbrev told-text : Asked → Bool → ℕ → List Seen → List ℕ
told-text asked failed calls list = if failed then codes "failed after " ++ decimal calls else index_text asked (events_told list)

-- a text after a name
abbrev name-line : Name → List ℕ → List ℕ
name-line name text = codes "index " ++ name ++ codes " " ++ text ++ codes "\n"

-- a call that goes well, and then the rest
less-more : (c l : ℕ) → nat_lt (1 + c) (suc l) ≡ nat_lt c l
less-more c l = by (nat_lt c l) refl
  where
    by : (b : Bool) → nat_lt c l ≡ b → nat_lt (1 + c) (suc l) ≡ b
    by true e = lt-ltb (1 + c) (suc l) (let below = ltb-true c l e in omega (arith, below))
    by false e = le-ltb (1 + c) (suc l) (let from = ltb-false c l e in omega (arith, from))

-- the line of a seat that was told so much, and is told more
told-line : (name : Name) (failing own : List ℕ) (n : ℕ) (list seen : List Seen) → n ≡ length list
    → seat_line (after_all seen (seat_of name n (Some (shown name failing list)))) own
    ≡ name-line name (told-text (record { name = name; failing = failing; own = own }) (nat_lt (calls_well failing (n + 1) seen) (length seen)) (n + calls_well failing (n + 1) seen) (list ++ seen))
unfolding seat_line after_told
told-line name failing own n list [] long = rw (append-nil list) refl
told-line name failing own n list (told ∷ seen) long = first (list_any (nat_eq (n + 1)) failing) refl (told-line name failing own (n + 1) (list ++ told ∷ []) seen longer)
  where
    longer : n + 1 ≡ length (list ++ told ∷ [])
    longer = let e = length-append list (told ∷ []) in omega (arith, e, long)

    first : (b : Bool) → list_any (nat_eq (n + 1)) failing ≡ b
        → seat_line (after_all seen (seat_of name (n + 1) (Some (shown name failing (list ++ told ∷ []))))) own
        ≡ name-line name (told-text (record { name = name; failing = failing; own = own }) (nat_lt (calls_well failing (n + 1 + 1) seen) (length seen)) ((n + 1) + calls_well failing (n + 1 + 1) seen) ((list ++ told ∷ []) ++ seen))
        → seat_line (after_all (told ∷ seen) (seat_of name n (Some (shown name failing list)))) own
        ≡ name-line name (told-text (record { name = name; failing = failing; own = own }) (nat_lt (calls_well failing (n + 1) (told ∷ seen)) (length (told ∷ seen))) (n + calls_well failing (n + 1) (told ∷ seen)) (list ++ told ∷ seen))
    first true fails rest =
        let here : list_any (nat_eq (length list + 1)) failing ≡ true = ap (λ m. list_any (nat_eq (m + 1)) failing) (sym long) ∙ fails in
        let step : after_told told (seat_of name n (Some (shown name failing list))) ≡ seat_of name n None = rw here refl in
        let asked : Asked = record { name = name; failing = failing; own = own } in
        let calls : calls_well failing (n + 1) (told ∷ seen) ≡ 0 = rw fails refl in
        let none : n + 0 ≡ n = omega arith in
        let some : nat_lt 0 (length (told ∷ seen)) ≡ true = lt-ltb 0 (length (told ∷ seen)) (omega arith) in
        ap (λ s. seat_line (after_all seen s) own) step ∙ ap (λ s. seat_line s own) (dropped-stays name n seen)
        ∙ sym (ap (λ c. name-line name (told-text asked (nat_lt c (length (told ∷ seen))) (n + c) (list ++ told ∷ seen))) calls
        ∙ ap (λ b. name-line name (told-text asked b (n + 0) (list ++ told ∷ seen))) some
        ∙ ap (λ c. name-line name (codes "failed after " ++ decimal c)) none)
    first false well rest =
        let here : list_any (nat_eq (length list + 1)) failing ≡ false = ap (λ m. list_any (nat_eq (m + 1)) failing) (sym long) ∙ well in
        let step : after_told told (seat_of name n (Some (shown name failing list))) ≡ seat_of name (n + 1) (Some (shown name failing (list ++ told ∷ []))) = rw here refl in
        let asked : Asked = record { name = name; failing = failing; own = own } in
        let calls : calls_well failing (n + 1) (told ∷ seen) ≡ 1 + calls_well failing (n + 1 + 1) seen = rw well refl in
        let count : n + (1 + calls_well failing (n + 1 + 1) seen) ≡ (n + 1) + calls_well failing (n + 1 + 1) seen = omega arith in
        ap (λ s. seat_line (after_all seen s) own) step ∙ rest
        ∙ sym (ap (λ c. name-line name (told-text asked (nat_lt c (length (told ∷ seen))) (n + c) (list ++ told ∷ seen))) calls
        ∙ ap (λ b. name-line name (told-text asked b (n + (1 + calls_well failing (n + 1 + 1) seen)) (list ++ told ∷ seen))) (less-more (calls_well failing (n + 1 + 1) seen) (length seen))
        ∙ ap (λ c. name-line name (told-text asked (nat_lt (calls_well failing (n + 1 + 1) seen) (length seen)) c (list ++ told ∷ seen))) count
        ∙ ap (λ l. name-line name (told-text asked (nat_lt (calls_well failing (n + 1 + 1) seen) (length seen)) ((n + 1) + calls_well failing (n + 1 + 1) seen) l)) (sym (append_assoc list (told ∷ []) seen)))

-- the line of a seat that is told all
pub lines_are_index_lines : (name : Name) (failing own : List ℕ) (seen : List Seen)
    → seat_line (after_all seen (new_seat name (record { title = name; failing = failing; list = [] }))) own ≡ index_line seen (record { name = name; failing = failing; own = own })
lines_are_index_lines name failing own seen =
    let none : 0 + calls_well failing 1 seen ≡ calls_well failing 1 seen = omega arith in
    told-line name failing own 0 [] seen refl ∙ ap (λ n. name-line name (told-text (record { name = name; failing = failing; own = own }) (nat_lt (calls_well failing 1 seen) (length seen)) n seen)) none

-- names that differ from each other
abbrev AreApart : List Name → Type 0
AreApart [] = Unit {0}
AreApart (name ∷ names) = AllByRecursion (λ other. bytes_eq name other ≡ false) names × AreApart names

-- names that differ pass no test of equality
differ-test : (one two : Name) → one ≢ two → bytes_eq one two ≡ false
differ-test one two differ = by (bytes_eq one two) refl
  where
    by : (b : Bool) → bytes_eq one two ≡ b → bytes_eq one two ≡ false
    by true e = absurd (differ ((bytes_eq-Decides one two).0 e))
    by false e = e

-- each of the later ones
all-later : (name : Name) (names : List Name) → ((j : ℕ) (d : Name) → j < length names → name ≢ get_or names j d) → AllByRecursion (λ other. bytes_eq name other ≡ false) names
all-later name [] differ = tt
all-later name (other ∷ names) differ =
    (differ-test name other (differ 0 other (omega arith)), all-later name names (λ j d lt. differ (suc j) d (omega (arith, lt))))

apart-of : (names : List Name) → AllPairs (λ one two. one ≢ two) names → AreApart names
apart-of [] pairs = tt
apart-of (name ∷ names) pairs =
    (all-later name names (λ j d lt. pairs 0 (suc j) d (omega arith) (omega (arith, lt))), apart-of names (λ i j d before lt. pairs (suc i) (suc j) d (omega (arith, before)) (omega (arith, lt))))

-- what holds of what is taken out: nothing, where none has the name; else the first of the name, and others are found as before
abbrev TakenCases : Name → List IndexerValue → Option Taken → Type 1
TakenCases name all taken = (P : Option Taken → Type 0) → (indexer_of name all ≡ None → P None)
    → ((t : Taken) → indexer_of name all ≡ Some t.one → ((other : Name) → bytes_eq name other ≡ false → indexer_of other t.rest ≡ indexer_of other all) → P (Some t)) → P taken

taken-next : (name : Name) (one : IndexerValue) (all : List IndexerValue) (b : Bool) → bytes_eq one.title name ≡ b → TakenCases name all (taken_out name all) → TakenCases name (one ∷ all) (taken_out name (one ∷ all))
taken-next name one all true is cases P none some =
    let titled : one.title ≡ name = (bytes_eq-Decides one.title name).0 is in
    subst P (sym (first-taken is)) (some (taken_of one all) (rw is refl) (λ other differ. let strange : bytes_eq one.title other ≡ false = ap (λ n. bytes_eq n other) titled ∙ differ in rw strange refl))
  where
    first-taken : bytes_eq one.title name ≡ true → taken_out name (one ∷ all) ≡ Some (taken_of one all)
    first-taken e = rw e refl
taken-next name one all false is cases P none some =
    subst P (sym (left-taken is)) (cases (λ o. P (left_there one o)) (λ absent. none (rw is absent))
    (λ t found others. some (taken_of t.one (one ∷ t.rest)) (rw is found) (λ other differ. ap (λ f. if bytes_eq one.title other then Some one else f) (others other differ))))
  where
    left-taken : bytes_eq one.title name ≡ false → taken_out name (one ∷ all) ≡ left_there one (taken_out name all)
    left-taken e = rw e refl

taken-cases : (name : Name) (all : List IndexerValue) → TakenCases name all (taken_out name all)
taken-cases name [] P none some = none refl
taken-cases name (one ∷ all) P none some = taken-next name one all (bytes_eq one.title name) refl (taken-cases name all) P none some

-- what is left of some indexers finds these names as all of them do
abbrev FindsAlike : List IndexerValue → List IndexerValue → List Name → Type 0
FindsAlike rest all names = AllByRecursion (λ name. indexer_of name rest ≡ indexer_of name all) names

-- what is left still finds names that differ from the one that was taken
still-alike : (name : Name) (rest after all : List IndexerValue) (names : List Name) → ((other : Name) → bytes_eq name other ≡ false → indexer_of other after ≡ indexer_of other rest)
    → AllByRecursion (λ other. bytes_eq name other ≡ false) names → FindsAlike rest all names → FindsAlike after all names
still-alike name rest after all [] others differ alike = tt
still-alike name rest after all (other ∷ names) others differ alike = (others other differ.0 ∙ alike.0, still-alike name rest after all names others differ.1 alike.1)

-- what is seated: nothing, where a name has no indexer; else each has the first of its name, and further names are found as before
abbrev SeatedCases : List IndexerValue → List Name → List Name → Option Seated → Type 1
SeatedCases all names more found = (P : Option Seated → Type 0) → (all_known all names ≡ false → P None)
    → ((left : List IndexerValue) → all_known all names ≡ true → FindsAlike left all more → P (Some (seated_of (map (seat_in all) names) left))) → P found

-- a name more
seated-next : (all rest : List IndexerValue) (name : Name) (names more : List Name) → FindsAlike rest all (name ∷ (names ++ more)) → AreApart (name ∷ (names ++ more))
    → ((after : List IndexerValue) → FindsAlike after all (names ++ more) → SeatedCases all names more (seated names after)) → SeatedCases all (name ∷ names) more (seated (name ∷ names) rest)
seated-next all rest name names more alike apart cases P none some =
    taken-cases name rest (λ o. P (with_taken o (λ taken. seat_before (new_seat name taken.one) (seated names taken.rest))))
    (λ absent. none (let e : indexer_of name all ≡ None = sym alike.0 ∙ absent in rw e refl))
    (λ t found others.
    let here : indexer_of name all ≡ Some t.one = sym alike.0 ∙ found in
    let seat : seat_in all name ≡ new_seat name t.one = ap (λ o. seat_of name 0 o) here in
    cases t.rest (still-alike name rest t.rest all (names ++ more) others apart.0 alike.1) (λ o. P (seat_before (new_seat name t.one) o))
    (λ unknown. none (rw (here, unknown) refl))
    (λ left known still. subst (λ s. P (Some (seated_of (s ∷ map (seat_in all) names) left))) seat (some left (rw (here, known) refl) still)))

seated-cases : (all rest : List IndexerValue) (names more : List Name) → FindsAlike rest all (names ++ more) → AreApart (names ++ more) → SeatedCases all names more (seated names rest)
seated-cases all rest [] more alike apart P none some = some rest refl alike
seated-cases all rest (name ∷ names) more alike apart P none some =
    seated-next all rest name names more alike apart (λ after still. seated-cases all after names more still apart.1) P none some

-- all names are found alike in the same indexers
alike-self : (all : List IndexerValue) (names : List Name) → FindsAlike all all names
alike-self all [] = tt
alike-self all (name ∷ names) = (refl, alike-self all names)

-- names are known where both parts are
known-parts : (all : List IndexerValue) (names more : List Name) → all_known all (names ++ more) ≡ (all_known all names && all_known all more)
known-parts all [] more = refl
known-parts all (name ∷ names) more = by (is_some (indexer_of name all)) refl (known-parts all names more)
  where
    by : (b : Bool) → is_some (indexer_of name all) ≡ b → all_known all (names ++ more) ≡ (all_known all names && all_known all more) → all_known all ((name ∷ names) ++ more) ≡ (all_known all (name ∷ names) && all_known all more)
    by true e rest = rw e rest
    by false e rest = rw e refl

-- the later names of names that are apart
apart-behind : (names more : List Name) → AreApart (names ++ more) → AreApart more
apart-behind [] more apart = apart
apart-behind (name ∷ names) more apart = apart-behind names more apart.1

-- each of different names has the first indexer of its name
pub first_chosen : (names late : List Name) (all : List IndexerValue) → AllPairs (λ one two. one ≢ two) (names ++ late) → chosen names late all ≡ seats_known all names late
unfolding chosen
first_chosen names late all pairs =
    let apart = apart-of (names ++ late) pairs in
    seated-cases all all names late (alike-self all (names ++ late)) apart (λ o. then_late late o ≡ seats_known all names late)
    (λ unknown. let e : all_known all (names ++ late) ≡ false = known-parts all names late ∙ ap (λ b. b && all_known all late) unknown in rw e refl)
    (λ left known still. second left known still)
  where
    second : (left : List IndexerValue) → all_known all names ≡ true → FindsAlike left all late → with_late (map (seat_in all) names) (seated late left) ≡ seats_known all names late
    second left known still =
        let parts : all_known all (names ++ late) ≡ all_known all late = known-parts all names late ∙ ap (λ b. b && all_known all late) known in
        seated-cases all left late [] (subst (FindsAlike left all) (sym (append-nil late)) still) (subst AreApart (sym (append-nil late)) (apart-behind names late (apart-of (names ++ late) pairs)))
        (λ o. with_late (map (seat_in all) names) o ≡ seats_known all names late)
        (λ unknown. let e : all_known all (names ++ late) ≡ false = parts ∙ unknown in rw e refl)
        (λ rest known_late rest_alike. let e : all_known all (names ++ late) ≡ true = parts ∙ known_late in rw e refl)
