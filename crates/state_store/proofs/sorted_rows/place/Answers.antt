use Rattle.std.proofs.Common.{rules}
use Rattle.std.proofs.lemmas.Fn.{always_returns_same}
use Rattle.state_store.specs.Store.{key_cmp}
use Rattle.state_store.proofs.Halves.{searched}
use Rattle.state_store.proofs.sorted_rows.place.Goals as goal

-- the closure compares a row's key with the key
pub returns : goal.returns
returns c =
    let facts = c.binary_search_by.ensures in
    let by_key = facts.position (λ entry. key_cmp entry.0 c.args.key.now) (always_returns_same _ _ _ (λ a r g called. search rules)) in
    searched c.args.rows.now c.args.key.now _ c.requires facts.bound by_key
