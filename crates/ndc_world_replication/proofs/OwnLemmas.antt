-- Where the links of a reader stand in a world of a header's shape.
use Rattle.std.proofs.Common.{◌≡◌, ◌≤◌, ◌+◌, ◌-◌, ◌++◌, ℕ, zero, suc, true≢false, List, [], ◌∷◌, map, take, drop, length, refl, ap, sym, subst, ◌∙◌, arith}
use Rattle.std.proofs.Math.ListN.{take-append-drop}
use Rattle.std.proofs.lemmas.List.{drop-drop, drop-map, length-map, map-append}
use Rattle.std.specs.List.{slice_range}
use Rattle.ndc_domain.specs.Clusters.{count_of}
use Rattle.ndc_domain.specs.declared.clusters.ClusterNo.{ClusterNo}
use Rattle.ndc_graceful.specs.declared.handover.Handover.{Handover}
use Rattle.ndc_model.specs.Fair.{IsShaped, ends_of}
use Rattle.ndc_model.specs.Moves.{by_link, due, renewed, renewed_link}
use Rattle.ndc_model.specs.World.{Link, World, new_link, opening_world}
use Rattle.ndc_model_cells.specs.Writing.{same_cluster}
use Rattle.ndc_model_cells.specs.declared.message.Message.{Message}
use Rattle.ndc_script_types.specs.WellFormed.{IsCluster}
use Rattle.ndc_script_types.specs.declared.script.Header.{Header}
use Rattle.ndc_world_replication.proofs.BlockLemmas.{own_back, own_front, own_within}
use Rattle.ndc_world_replication.proofs.DueLemmas.{none_other}
use Rattle.ndc_world_replication.proofs.LinkLemmas.{other_link}
use Rattle.ndc_world_replication.specs.OnTime.{IsOnTime}
use Rattle.ndc_world_replication.specs.Own.{AreOthers, blocks}
use Rattle.ndc_world_replication.specs.Publishers.{PublisherValue}
use Rattle.ndc_world_replication.specs.Replications.{world_of}

-- the reader of the first of pairs of ends
first-reader : List (ClusterNo × ClusterNo) → ClusterNo → ClusterNo
first-reader [] other = other
first-reader (ends ∷ more) other = ends.0

rest-of : List (ClusterNo × ClusterNo) → List (ClusterNo × ClusterNo)
rest-of [] = []
rest-of (ends ∷ more) = more

-- links with the same ends are a reader's where those are
others-by : (reader : ClusterNo) (links old : List Link) → map ends_of links ≡ map ends_of old → AreOthers reader old → AreOthers reader links
unfolding first-reader rest-of
others-by reader [] old same others = tt
others-by reader (link ∷ links) [] same others = absurd (let none = ap length same in omega (arith, none))
others-by reader (link ∷ links) (one ∷ old) same others =
    (ap (λ (ends : List (ClusterNo × ClusterNo)). same_cluster (first-reader ends reader) reader) same ∙ others.0, others-by reader links old (ap rest-of same) others.1)

take-ends : (n : ℕ) (links : List Link) → map ends_of (take n links) ≡ take n (map ends_of links)
take-ends zero links = refl
take-ends (suc n) [] = refl
take-ends (suc n) (link ∷ links) = ap (λ (ends : List (ClusterNo × ClusterNo)). ends_of link ∷ ends) (take-ends n links)

module _ (header : Header) (w : World) (shaped : IsShaped header w) (reader : ClusterNo) (known : IsCluster header reader) (others : ℕ) (one : others + 1 ≡ count_of header.clusters) where
  -- before them there is none of the reader's
  pub front_others : (place : ℕ) → place ≡ blocks reader.number others → AreOthers reader (take place w.links)
  front_others place is =
      others-by reader (take place w.links) (take place (opening_world header).links)
      (take-ends place w.links ∙ ap (take place) shaped.links ∙ sym (take-ends place (opening_world header).links))
      (subst (λ (n : ℕ). AreOthers reader (take n (opening_world header).links)) (sym is)
      (own_front (λ (link : Link). link.reader) (new_link header) (λ a b. refl) (count_of header.clusters) reader known others one))

  -- nor after them
  pub back_others : (place : ℕ) → place ≡ blocks reader.number others + others → AreOthers reader (drop place w.links)
  back_others place is =
      others-by reader (drop place w.links) (drop place (opening_world header).links)
      (sym (drop-map ends_of place w.links) ∙ ap (drop place) shaped.links ∙ drop-map ends_of place (opening_world header).links)
      (subst (λ (n : ℕ). AreOthers reader (drop n (opening_world header).links)) (sym is)
      (own_back (λ (link : Link). link.reader) (new_link header) (λ a b. refl) (count_of header.clusters) reader known others one))

  pub own_inside : blocks reader.number others + others ≤ length w.links
  own_inside =
      omega (
        arith,
        own_within (λ (link : Link). link.reader) (new_link header) (λ a b. refl) (count_of header.clusters) reader known others one,
        ap length shaped.links,
        length-map w.links ends_of,
        length-map (opening_world header).links ends_of,
      )

-- the links of others are not renewed
pub others_stay : (w : World) (reader : ClusterNo) (links : List Link) → AreOthers reader links → map (renewed_link w reader) links ≡ links
others_stay w reader [] others = refl
others_stay w reader (link ∷ links) others =
    ap (λ (one : Link). one ∷ map (renewed_link w reader) links) (other_link w reader link others.0) ∙ ap (λ (rest : List Link). link ∷ rest) (others_stay w reader links others.1)

-- before the first of a reader's links none is renewed
pub front_stays : (w : World) (reader : ClusterNo) (place : ℕ) (links : List Link) → AreOthers reader (take place links) → links ≡ map (renewed_link w reader) (take place links) ++ drop place links
front_stays w reader place links others =
    sym (ap (λ (front : List Link). front ++ drop place links) (others_stay w reader (take place links) others) ∙ take-append-drop place links)

-- after the last of them all levels of the reader are renewed
pub own_renewed : (reader : ClusterNo) (w : World) (publishers : List PublisherValue) (links : List Link) (handovers : List Handover) (place : ℕ) → world_of publishers w.links handovers ≡ w
    → links ≡ map (renewed_link w reader) (take place w.links) ++ drop place w.links → AreOthers reader (drop place w.links) → world_of publishers links handovers ≡ renewed w reader
unfolding renewed
own_renewed reader w publishers links handovers place same kept others =
    ap (λ (ls : List Link). world_of publishers ls handovers)
    (kept ∙ ap (λ (back : List Link). map (renewed_link w reader) (take place w.links) ++ back) (sym (others_stay w reader (drop place w.links) others))
    ∙ sym (map-append (renewed_link w reader) (take place w.links) (drop place w.links)) ∙ ap (map (renewed_link w reader)) (take-append-drop place w.links))
    ∙ ap (λ (v : World). record v { links = map (renewed_link w reader) w.links }) same

-- over the links of others nothing is due to a reader
pub others_due : (w : World) (reader : ClusterNo) (shard : ℕ) (links : List Link) → AreOthers reader links → by_link reader (due w) links shard ≡ []
others_due w reader shard [] others = refl
others_due w reader shard (link ∷ links) others =
    ap (λ (ms : List Message). ms ++ by_link reader (due w) links shard) (none_other w reader link shard others.0) ∙ others_due w reader shard links others.1

-- so what is due is due over those from the first of its own on
pub front_due : (w : World) (reader : ClusterNo) (shard place : ℕ) (links : List Link) → AreOthers reader (take place links) → by_link reader (due w) (drop place links) shard ≡ by_link reader (due w) links shard
front_due w reader shard zero links others = refl
front_due w reader shard (suc place) [] others = refl
front_due w reader shard (suc place) (link ∷ links) others =
    front_due w reader shard place links others.1
    ∙ sym (ap (λ (ms : List Message). ms ++ by_link reader (due w) links shard) (none_other w reader link shard others.0))

-- a reader is late of no domain over the links of others
others-late : (reader : ClusterNo) (links : List Link) → AreOthers reader links → IsOnTime reader links
others-late reader [] others = tt
others-late reader (link ∷ links) others = ((λ own. absurd (true≢false (sym own ∙ others.0))), others-late reader links others.1)

late-both : (reader : ClusterNo) (one two : List Link) → IsOnTime reader one → IsOnTime reader two → IsOnTime reader (one ++ two)
late-both reader [] two a b = b
late-both reader (link ∷ one) two a b = (a.0, late-both reader one two a.1 b)

-- where it is late of none over its own, it is late of none over all
pub own_on_time : (reader : ClusterNo) (from to : ℕ) (links : List Link) → from ≤ to → AreOthers reader (take from links) → AreOthers reader (drop to links) → IsOnTime reader (slice_range links from to) → IsOnTime reader links
own_on_time reader from to links rising front back own =
    subst (λ (ls : List Link). IsOnTime reader ls)
    (ap (λ (rest : List Link). take from links ++ (slice_range links from to ++ rest)) (tail links)
    ∙ ap (λ (rest : List Link). take from links ++ rest) (take-append-drop (to - from) (drop from links)) ∙ take-append-drop from links)
    (late-both reader (take from links) (slice_range links from to ++ drop to links) (others-late reader (take from links) front) (late-both reader (slice_range links from to) (drop to links) own (others-late reader (drop to links) back)))
  where
    tail : (ls : List Link) → drop to ls ≡ drop (to - from) (drop from ls)
    tail ls = let sum : from + (to - from) ≡ to = omega (arith, rising) in ap (λ (n : ℕ). drop n ls) (sym sum) ∙ sym (drop-drop (to - from) from ls)
