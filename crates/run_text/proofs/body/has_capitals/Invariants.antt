use Rattle.std.proofs.Common.{◌≡◌, ◌||◌, drop}
use Rattle.std.specs.List.{list_any}
use Rattle.run_text.specs.Body.{is_by_capitals}
use Rattle.run_text.proofs.body.has_capitals.Given as goal

-- there is such a byte among those so far, or among those ahead, where there is one at all
abbrev pub invariant-loop-byte : goal.invariant-loop-byte
invariant-loop-byte l = (l.any || list_any is_by_capitals (drop l.byte-index l.text)) ≡ list_any is_by_capitals l.text
