-- Letters of a cluster that become others, and messages that come damaged.
use Rattle.std.proofs.Common.{◌≡◌, ◌<◌, ◌≤◌, ℕ, zero, suc, Bool, true, false, List, [], ◌∷◌, ◌++◌, codes, get_or, length, remove, slice_get, slice_index_or, slice_set, Option, Some, None, refl, sym, ◌∙◌, ap, if◌then◌else◌, arith}
use Rattle.std.specs.Prelude.{option_map}
use Rattle.ndc_model_cells.specs.declared.message.Message.{Message}
use Rattle.ndc_domain.specs.declared.clusters.ClusterNo.{ClusterNo}
use Rattle.ndc_letters.specs.declared.letter.Letter.{Letter}
use Rattle.ndc_letters.specs.declared.letters.Taken.{Taken}
use Rattle.ndc_letters.specs.Letters.{is_whole, letter_of, taken_of, was_whole, with_letter}
use Rattle.ndc_model.specs.Letters.{damage_at, damaged, with_letters}
use Rattle.ndc_model.specs.Steps.{Stepped, answered}
use Rattle.ndc_model.specs.Texts.{ok}
use Rattle.ndc_model.specs.World.{Cluster, World, cluster_at, flight_at, new_cluster, with_flight}
use Rattle.ndc_queue.specs.Lists.{after_loss}

put-twice : (clusters : List Cluster) (i : ℕ) (one two : List Letter)
    → slice_set (slice_set clusters i (record (slice_index_or clusters i (new_cluster 0)) { letters = one })) i
    (record (slice_index_or (slice_set clusters i (record (slice_index_or clusters i (new_cluster 0)) { letters = one })) i (new_cluster 0)) { letters = two })
    ≡ slice_set clusters i (record (slice_index_or clusters i (new_cluster 0)) { letters = two })
put-twice [] i one two = refl
put-twice (c ∷ clusters) zero one two = refl
put-twice (c ∷ clusters) (suc i) one two = ap (λ l. c ∷ l) (put-twice clusters i one two)

put-own : (clusters : List Cluster) (i : ℕ) → slice_set clusters i (slice_index_or clusters i (new_cluster 0)) ≡ clusters
put-own [] i = refl
put-own (c ∷ clusters) zero = refl
put-own (c ∷ clusters) (suc i) = ap (λ l. c ∷ l) (put-own clusters i)

-- letters that are put for others
pub letters_again : (reader : ClusterNo) (one two : List Letter) (w : World) → with_letters reader two (with_letters reader one w) ≡ with_letters reader two w
letters_again reader one two w = ap (λ (l : List Cluster). record w { clusters = l }) (put-twice w.clusters reader.number one two)

-- the letters that stand there
own_letters : (reader : ClusterNo) (w : World) → with_letters reader (cluster_at reader w).letters w ≡ w
own_letters reader w = ap (λ (l : List Cluster). record w { clusters = l }) (put-own w.clusters reader.number)

-- a letter that was taken
pub whole_is : (letter : Letter) (taken : Taken) → taken ≡ taken_of letter → was_whole taken ≡ is_whole letter
whole_is letter taken e = ap was_whole e

-- a letter that is whole changes nothing
pub stays_whole : (reader source : ClusterNo) (shard place : ℕ) (w v : World) (letter : Letter) → is_whole letter ≡ true → v ≡ with_letters reader (with_letter letter (cluster_at reader w).letters) w
    → answered v (ok (codes "whole" ∷ [])) ≡ damaged reader source shard place w letter
stays_whole reader source shard place w v letter whole e =
    ap (λ (u : World). answered u (ok (codes "whole" ∷ [])))
    (e ∙ ap (λ (t : Bool). with_letters reader (if t then (cluster_at reader w).letters else (cluster_at reader w).letters ++ letter ∷ []) w) whole ∙ own_letters reader w)
    ∙ sym (ap (λ (t : Bool). if t then answered w (ok (codes "whole" ∷ [])) else aside) whole)
  where
    aside : Stepped
    aside = answered
        (with_letters reader ((cluster_at reader w).letters ++ letter ∷ []) (with_flight reader source shard (remove (flight_at reader source shard w) place) w)) (ok (codes "aside" ∷ []))

-- there is a message at each place
loses : {X Y : Type 0} (y : Y) (flight : List X) (place : ℕ) → place < length flight → option_map (λ _. y) (slice_get flight place) ≡ Some y
loses y [] place below = absurd (omega (arith, below))
loses y (x ∷ flight) zero below = refl
loses y (x ∷ flight) (suc place) below = loses y flight place (omega (arith, below))

-- any other goes last, and its message is lost
pub goes_aside : (reader source : ClusterNo) (shard place : ℕ) (w v u : World) (letter : Letter) → is_whole letter ≡ false → v ≡ with_letters reader (with_letter letter (cluster_at reader w).letters) w
    → place < length (flight_at reader source shard w) → option_map (λ flight. with_flight reader source shard flight v) (after_loss place (flight_at reader source shard v)) ≡ Some u
    → answered u (ok (codes "aside" ∷ [])) ≡ damaged reader source shard place w letter
goes_aside reader source shard place w v u letter whole e below lost =
    ap (λ (x : World). answered x (ok (codes "aside" ∷ []))) (sym same)
    ∙ sym (ap (λ (t : Bool). if t then answered w (ok (codes "whole" ∷ [])) else answered aside (ok (codes "aside" ∷ []))) whole)
  where
    aside : World
    aside = with_letters reader ((cluster_at reader w).letters ++ letter ∷ []) (with_flight reader source shard (remove (flight_at reader source shard w) place) w)

    put : v ≡ with_letters reader ((cluster_at reader w).letters ++ letter ∷ []) w
    put = e ∙ ap (λ (t : Bool). with_letters reader (if t then (cluster_at reader w).letters else (cluster_at reader w).letters ++ letter ∷ []) w) whole

    lost_there : after_loss place (flight_at reader source shard w) ≡ Some (remove (flight_at reader source shard w) place)
    lost_there = loses (remove (flight_at reader source shard w) place) (flight_at reader source shard w) place below

    both : Some aside ≡ Some u
    both =
        ap (λ (o : Option (List Message)). option_map (λ flight. with_flight reader source shard flight (with_letters reader ((cluster_at reader w).letters ++ letter ∷ []) w)) o) (sym lost_there)
        ∙ ap (λ (x : World). option_map (λ flight. with_flight reader source shard flight x) (after_loss place (flight_at reader source shard x))) (sym put)
        ∙ lost

    same : aside ≡ u
    same = let e = both in cc

-- the message at a place that is there
pub damage_there : (reader source : ClusterNo) (shard place cut : ℕ) (w : World) (o : Option Message) (letter : Letter) → Some letter ≡ option_map (λ (sent : Message). letter_of source cut sent.batch) o
    → damaged reader source shard place w letter ≡ damage_at reader source shard place cut w o
damage_there reader source shard place cut w None letter e = absurd (cc)
damage_there reader source shard place cut w (Some sent) letter e = let same : letter ≡ letter_of source cut sent.batch = cc in ap (damaged reader source shard place w) same

-- a place that is there has a message, and another has none
pub message_there : (source : ClusterNo) (cut place : ℕ) (flight : List Message) (sent : Message) (letter : Letter) → place < length flight → sent ≡ get_or flight place sent → letter ≡ letter_of source cut sent.batch
    → Some letter ≡ option_map (λ (m : Message). letter_of source cut m.batch) (slice_get flight place)
message_there source cut place flight sent letter below is made =
    ap Some (made ∙ ap (λ (m : Message). letter_of source cut m.batch) is) ∙ ap (option_map (λ (m : Message). letter_of source cut m.batch)) (sym (gets flight place sent below))
  where
    gets : (xs : List Message) (i : ℕ) (d : Message) → i < length xs → slice_get xs i ≡ Some (get_or xs i d)
    gets [] i d less = absurd (omega (arith, less))
    gets (x ∷ xs) zero d less = refl
    gets (x ∷ xs) (suc i) d less = gets xs i d (omega (arith, less))

pub none_there : {X Y : Type 0} (f : X → Y) (flight : List X) (place : ℕ) → length flight ≤ place → None ≡ option_map f (slice_get flight place)
none_there f [] place past = refl
none_there f (x ∷ flight) zero past = absurd (omega (arith, past))
none_there f (x ∷ flight) (suc place) past = none_there f flight place (omega (arith, past))

-- where a letter is found, there is its place
pub place_there : {X Y : Type 0} (f : X → Y) (flight : List X) (place : ℕ) (y : Y) → Some y ≡ option_map f (slice_get flight place) → place < length flight
place_there f [] place y e = absurd (cc)
place_there f (x ∷ flight) zero y e = omega arith
place_there f (x ∷ flight) (suc place) y e = let below : place < length flight = place_there f flight place y e in omega (arith, below)
