-- The shard in which a workflow lives.
use Rattle.std.specs.Prelude.{ℕ, ◌*◌, ◌%◌, ◌^◌, ◌∷◌, ◌++◌}
use Rattle.std.specs.List.{fold}
use Rattle.std.specs.Int.Bits.{bit_xor}
use Rattle.ndc_event.specs.declared.name.Name.{Name}

-- one more byte in a hash
abbrev pub hashed : ℕ → ℕ → ℕ
hashed hash byte = bit_xor hash byte * 16777619 % 2 ^ 32

-- the hash of a workflow: over the domain's bytes, a zero byte and the workflow's bytes
abbrev pub hash_of : Name → Name → ℕ
hash_of domain workflow = fold hashed 2166136261 (domain ++ 0 ∷ workflow)

-- the shard in which a workflow lives
unfoldable pub shard_of : Name → Name → ℕ → ℕ
shard_of domain workflow shards = hash_of domain workflow % shards
