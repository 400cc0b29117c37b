-- Links at places.
use Rattle.std.specs.Prelude.{ℕ, List, slice_get}
use Rattle.std.specs.List.{filter_map}
use Rattle.ndc_model.specs.World.{Link}

-- the links at these places
abbrev pub links_at : List ℕ → List Link → List Link
links_at places links = filter_map (slice_get links) places
