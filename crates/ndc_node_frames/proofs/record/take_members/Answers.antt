use Rattle.std.proofs.Common.{◌≡◌, Ok, true, map, rules}
use Rattle.ndc_node_frames.specs.Parts.{member_shape, member_value, cluster_of, are_members}
use Rattle.ndc_node_shapes.specs.Read.{read_of}
use Rattle.ndc_node_shapes.specs.Shapes.{list}
use Rattle.ndc_node_frames.proofs.MemberLists.{clusters_below, given, same}
use Rattle.ndc_node_frames.proofs.record.take_members.Goals as goal

pub are_members-requires-clause-below : goal.are_members-requires-clause-below
are_members-requires-clause-below c =
    let items = c.in_ok-list.list.items in
    let is : c.as_slice-2.result.now ≡ map cluster_of items = search rules in
    let one : read_of (list member_shape) c.args.left.now ≡ Ok (map member_value items, c.in_ok-list.rest.now) = search rules in
    clusters_below c.args.left.now c.in_ok-list.rest.now items c.as_slice-2.result.now is one

pub returns-then-branch-clause-gives : goal.returns-then-branch-clause-gives
returns-then-branch-clause-gives c =
    let items = c.in_ok-list.list.items in
    let is : c.in_ok-clusters.clusters.items ≡ map cluster_of items = search rules in
    let one : read_of (list member_shape) c.args.left.now ≡ Ok (map member_value items, c.in_ok-list.rest.now) = search rules in
    let are : are_members (map member_value items) ≡ true = search rules in
    given c.args.left.now c.in_ok-list.rest.now items c.in_ok-clusters.clusters.items is one are

pub returns-then-branch-clause-below : goal.returns-then-branch-clause-below
returns-then-branch-clause-below c =
    let items = c.in_ok-list.list.items in
    let is : c.in_ok-clusters.clusters.items ≡ map cluster_of items = search rules in
    let one : read_of (list member_shape) c.args.left.now ≡ Ok (map member_value items, c.in_ok-list.rest.now) = search rules in
    clusters_below c.args.left.now c.in_ok-list.rest.now items c.in_ok-clusters.clusters.items is one

pub returns-then-branch-clause-same : goal.returns-then-branch-clause-same
returns-then-branch-clause-same c =
    let items = c.in_ok-list.list.items in
    let is : c.in_ok-clusters.clusters.items ≡ map cluster_of items = search rules in
    let are : are_members (map member_value items) ≡ true = search rules in
    same c.args.left.now c.in_ok-list.rest.now items c.in_ok-clusters.clusters.items is are
