-- Clusters in the beginning, with what each has of each other, are the opening world.
use Rattle.std.proofs.Common.{◌≡◌, List, [], ◌∷◌, map, refl, ap}
use Rattle.std.specs.List.{flat_map}
use Rattle.ndc_script_types.specs.declared.script.Header.{Header}
use Rattle.ndc_graceful.specs.declared.handover.Handover.{Handover}
use Rattle.ndc_model.specs.World.{Link, all_clusters, opening_world}
use Rattle.ndc_world_replication.specs.Replications.{links_of, opening_publisher, world_of}
use Rattle.ndc_world_replication.specs.Publishers.{PublisherValue}

-- a map over equal publishers
map-same : {X Y Z : Type 0} (f : Y → Z) (y : Y) (xs : List X) → map f (map (λ _. y) xs) ≡ map (λ _. f y) xs
map-same f y [] = refl
map-same f y (x ∷ xs) = ap (λ zs. f y ∷ zs) (map-same f y xs)

pub opening : (header : Header) (publishers : List PublisherValue) (links : List Link) (handovers : List Handover)
    → publishers ≡ map (λ _. opening_publisher header.shards) (all_clusters header) → links ≡ flat_map (links_of header (all_clusters header)) (all_clusters header)
    → handovers ≡ [] → world_of publishers links handovers ≡ opening_world header
opening header publishers links handovers publishers-are links-are none =
    rw (
      publishers-are,
      links-are,
      none,
      map-same (λ (publisher : PublisherValue). publisher.cluster) (opening_publisher header.shards) (all_clusters header),
      map-same (λ (publisher : PublisherValue). publisher.trimmed) (opening_publisher header.shards) (all_clusters header),
    ) refl
