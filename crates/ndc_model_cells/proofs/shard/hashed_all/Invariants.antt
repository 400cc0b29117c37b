use Rattle.std.proofs.Common.{◌≡◌, drop}
use Rattle.std.specs.List.{fold}
use Rattle.ndc_model_cells.specs.Shards.{hashed}
use Rattle.ndc_model_cells.proofs.shard.hashed_all.Given as goal

-- the hash so far, with the bytes that are left, is that of all
abbrev pub invariant-loop-byte : goal.invariant-loop-byte
invariant-loop-byte l = fold hashed l.hash (drop l.byte-index l.bytes) ≡ fold hashed l.fn.hash l.bytes
