-- The fields of a link.
use Rattle.std.specs.Prelude.{◌≡◌, ◌≤◌, IsTrue, [], length}
use Rattle.std.specs.List.{AllByRecursion}
use Rattle.ndc_cluster_links.specs.declared.link.Link.TheInside.{Inside}
use Rattle.ndc_cluster_links.specs.Links.{done_of, flights_of}

-- there are at most 64 lanes, the count of what is done is that of all lanes, and where it is known to be quiet nothing is in flight
pub record IsLinkInside (link : Inside) : Type 0 where
  pub few : length link.lanes.items ≤ 64
  pub done : link.done ≡ done_of link.lanes.items
  pub quiet : IsTrue link.quiet → AllByRecursion (λ flight. flight ≡ []) (flights_of link.lanes.items)
