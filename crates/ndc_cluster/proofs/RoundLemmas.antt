-- Loops of a round: jobs that are dealt one by one, and replies that are taken one by one.
use Rattle.std.proofs.Common.{◌≡◌, ℕ, suc, ◌+◌, ◌<◌, List, [], ◌∷◌, ◌++◌, ◌-◌, ◌/◌, map, take, drop, length, get_or, set, slice_get, Option, Some, None, arith, refl, sym, ap, subst, ◌∙◌}
use Rattle.std.proofs.Math.Seq.{drop-cons}
use Rattle.std.specs.List.{AllByRecursion}
use Rattle.std.specs.Option.{option_map}
use Rattle.std.proofs.lemmas.List.{append_assoc, append-nil, get_or-map, map-append, map-set, take-append-drop}
use Rattle.std.proofs.lemmas.Option.{get_or_from_slice_get}
use Rattle.ndc_model_cells.specs.declared.job.JobReply.{JobReply}
use Rattle.ndc_model_cells.specs.declared.job.ShardJob.{ShardJob}
use Rattle.ndc_model_cells.specs.declared.message.Message.{Message}
use Rattle.ndc_model_cells.specs.Cells.{empty_cell}
use Rattle.ndc_cluster.proofs.EachLemmas.{all_there}
use Rattle.ndc_cluster.specs.Rounds.{SlotValue, dealt, fresh_slot, joined, taken, with_first, with_job}

-- what is left of a list begins with the next item
pub drop-next : {X : Type 0} (xs : List X) (i : ℕ) (x : X) → i < length xs → x ≡ get_or xs i x → drop i xs ≡ x ∷ drop (i + 1) xs
drop-next xs i x below is =
    let next : i + 1 ≡ suc i = omega arith in
    drop-cons xs i x below ∙ ap (λ z. z ∷ drop (suc i) xs) (sym is) ∙ ap (λ n. x ∷ drop n xs) (sym next)

-- one message more is taken from a place on
pub sent_more : (whole list more : List Message) (n : ℕ) (sent : Message) (wanted : List Message) → n < length whole → slice_get whole n ≡ Some sent → more ≡ list ++ sent ∷ []
    → list ++ drop n whole ≡ wanted → more ++ drop (n + 1) whole ≡ wanted
sent_more whole list more n sent wanted below got longer done =
    let next : drop n whole ≡ sent ∷ drop (n + 1) whole = drop-next whole n sent below (sym (get_or_from_slice_get whole n sent sent got)) in
    ap (λ xs. xs ++ drop (n + 1) whole) longer ∙ append_assoc list (sent ∷ []) (drop (n + 1) whole) ∙ ap (λ xs. list ++ xs) (sym next) ∙ done

-- one job more is dealt
pub deal_more : {X : Type 0} (view : X → SlotValue) (jobs : List ShardJob) (i : ℕ) (asked : ShardJob) (now : List X) (one new : X) (slots : List SlotValue) → i < length jobs → asked ≡ get_or jobs i asked → asked.shard < length now
    → one ≡ get_or now asked.shard one → view new ≡ with_job asked.job (view one) → dealt (drop i jobs) (map view now) ≡ slots → dealt (drop (i + 1) jobs) (map view (set now asked.shard new)) ≡ slots
deal_more view jobs i asked now one new slots below at inside is more done =
    let slot : get_or (map view now) asked.shard (fresh_slot empty_cell) ≡ view one = get_or-map view now asked.shard one (fresh_slot empty_cell) inside ∙ ap view (sym is) in
    ap (dealt (drop (i + 1) jobs)) (map-set view now asked.shard new ∙ ap (λ s. set (map view now) asked.shard s) (more ∙ ap (with_job asked.job) (sym slot)))
    ∙ sym (ap (λ js. dealt js (map view now)) (drop-next jobs i asked below at)) ∙ done

-- the shard of the next job is one of the slots', as many as there were
pub shard_there : (jobs : List ShardJob) (i : ℕ) (asked : ShardJob) (before now : ℕ) → i < length jobs → asked ≡ get_or jobs i asked → now ≡ before → AllByRecursion (λ one. one.shard < before) jobs → asked.shard < now
shard_there jobs i asked before now below at many all =
    let there : (get_or jobs i asked).shard < before = all_there (λ (one : ShardJob). one.shard < before) jobs i asked below all in
    subst (λ n. asked.shard < n) (sym many) (subst (λ (one : ShardJob). one.shard < before) (sym at) there)

-- pieces that a further one follows
joined-more : {X : Type 0} (pieces : List (List X)) (new : List X) → joined (pieces ++ new ∷ []) ≡ new ++ joined pieces
joined-more [] new = sym (append-nil new)
joined-more (piece ∷ pieces) new = ap (λ xs. xs ++ piece) (joined-more pieces new) ∙ append_assoc new (joined pieces) piece

-- one piece more is cut off
pub cut_more : {X Y P : Type 0} (view : X → Y) (held : P → List Y) (left after tail : List X) (pieces now : List P) (new : P) (n : ℕ) (whole : List Y) → map view left ++ joined (map held pieces) ≡ whole
    → after ≡ take n left → tail ≡ drop n left → held new ≡ map view tail → now ≡ pieces ++ new ∷ [] → map view after ++ joined (map held now) ≡ whole
cut_more view held left after tail pieces now new n whole done front rest holds more =
    ap (λ ps. map view after ++ joined (map held ps)) more
    ∙ ap (λ zss. map view after ++ joined zss) (map-append held pieces (new ∷ []))
    ∙ ap (λ zs. map view after ++ zs) (joined-more (map held pieces) (held new) ∙ ap (λ zs. zs ++ joined (map held pieces)) (holds ∙ ap (map view) rest))
    ∙ sym (append_assoc (map view after) (map view (drop n left)) (joined (map held pieces)))
    ∙ ap (λ zs. zs ++ joined (map held pieces)) (ap (λ xs. map view xs ++ map view (drop n left)) front ∙ sym (map-append view (take n left) (drop n left)) ∙ ap (map view) (take-append-drop n left))
    ∙ done

-- what holds of all items, and of one more
pub all_more : {X : Type 0} (P : X → Type 0) (xs now : List X) (x : X) → now ≡ xs ++ x ∷ [] → AllByRecursion P xs → P x → AllByRecursion P now
all_more P xs now x more all is = subst (AllByRecursion P) (sym more) (behind xs all)
  where
    behind : (ys : List _) → AllByRecursion P ys → AllByRecursion P (ys ++ x ∷ [])
    behind [] none = (is, tt)
    behind (y ∷ ys) some = (some.0, behind ys some.1)

-- the last piece has all that is left
pub last_cut : {X : Type 0} (left after : List X) (long many number count done : ℕ) → after ≡ take (long - many / (number + 1)) left → long ≡ many → number ≡ count - 1 - done → done + 1 ≡ count → after ≡ []
last_cut left after long many number count done front same is last =
    let one : number + 1 ≡ 1 = omega (arith, is, last) in
    let whole : many / 1 ≡ many = omega arith in
    let all : many / (number + 1) ≡ many = ap (λ k. many / k) one ∙ whole in
    let zero : long - many / (number + 1) ≡ 0 = omega (arith, same, all) in
    front ∙ ap (λ k. take k left) zero

-- one more reply at the beginning
reply-before : (out more : List JobReply) (reply : JobReply) (found : Option (List JobReply)) → more ≡ out ++ reply ∷ [] → option_map (λ rest. more ++ rest) found ≡ option_map (λ rest. out ++ rest) (option_map (λ rest. reply ∷ rest) found)
reply-before out more reply None is = refl
reply-before out more reply (Some rest) is = ap (λ front. Some (front ++ rest)) is ∙ ap (λ all. Some all) (append_assoc out (reply ∷ []) rest)

-- one reply more is taken
pub taken_more : {X : Type 0} (view : X → List JobReply) (jobs : List ShardJob) (i : ℕ) (asked : ShardJob) (now : List X) (one new : X) (out more : List JobReply) (reply : JobReply) (all : Option (List JobReply)) → i < length jobs
    → asked ≡ get_or jobs i asked → asked.shard < length now → one ≡ get_or now asked.shard one → view one ≡ reply ∷ view new → more ≡ out ++ reply ∷ []
    → option_map (λ rest. out ++ rest) (taken (drop i jobs) (map view now)) ≡ all → option_map (λ rest. more ++ rest) (taken (drop (i + 1) jobs) (map view (set now asked.shard new))) ≡ all
taken_more view jobs i asked now one new out more reply all below at inside is first longer done =
    let there : get_or (map view now) asked.shard [] ≡ reply ∷ view new = get_or-map view now asked.shard one [] inside ∙ ap view (sym is) ∙ first in
    let next : taken (drop i jobs) (map view now) ≡ option_map (λ rest. reply ∷ rest) (taken (drop (i + 1) jobs) (set (map view now) asked.shard (view new))) =
    ap (λ js. taken js (map view now)) (drop-next jobs i asked below at)
    ∙ ap (λ replies. with_first replies (λ r rest. option_map (λ others. r ∷ others) (taken (drop (i + 1) jobs) (set (map view now) asked.shard rest)))) there in
    reply-before out more reply _ longer
    ∙ ap (λ found. option_map (λ rest. out ++ rest) (option_map (λ rest. reply ∷ rest) (taken (drop (i + 1) jobs) found))) (map-set view now asked.shard new)
    ∙ ap (option_map (λ rest. out ++ rest)) (sym next) ∙ done

-- the last of some pieces is taken, and its slots go after those of the pieces before it
pub join_more : {X Y P : Type 0} (view : X → Y) (held : P → List Y) (slots after more : List X) (pieces now : List P) (piece : P) (whole : List Y) → map view slots ++ joined (map held pieces) ≡ whole
    → pieces ≡ now ++ piece ∷ [] → held piece ≡ map view more → after ≡ slots ++ more → map view after ++ joined (map held now) ≡ whole
join_more view held slots after more pieces now piece whole done last holds longer =
    ap (λ xs. map view xs ++ joined (map held now)) longer ∙ ap (λ ys. ys ++ joined (map held now)) (map-append view slots more ∙ ap (λ ys. map view slots ++ ys) (sym holds))
    ∙ append_assoc (map view slots) (held piece) (joined (map held now)) ∙ ap (λ ys. map view slots ++ ys) (sym (ap (λ ps. joined (map held ps)) last ∙ ap joined (map-append held now (piece ∷ [])) ∙ joined-more (map held now) (held piece)))
    ∙ done
