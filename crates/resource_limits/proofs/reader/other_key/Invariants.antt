use Rattle.std.proofs.Common.{◌≡◌}
use Rattle.toml.specs.View.{members_view}
use Rattle.resource_limits.specs.Limits.{has_other_key}
use Rattle.resource_limits.proofs.reader.other_key.Given as goal

-- the keys that were seen are among the four
abbrev pub invariant-loop-name : goal.invariant-loop-name
invariant-loop-name l = has_other_key (members_view l.table.entries) ≡ has_other_key (members_view l.name-iterator)
