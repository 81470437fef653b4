use Rattle.std.proofs.Common.{◌≡◌, ◌≤◌, ◌∷◌, suc, length, drop}
use Rattle.flatten.specs.Flatten as pure
use Rattle.flatten.specs.Tracked.{started}
use Rattle.flatten.proofs.statement.bind_results.Given as goal

abbrev pub invariant-loop-x : goal.invariant-loop-x
invariant-loop-x l = record {
  told : pure.bound_to l.look (suc l.id.result) (drop l.x-index l.into) l.w.state ≡ pure.bound_to l.look 0 (l.found ∷ l.into) l.fn.w.state;
  start : started l.w ≡ started l.fn.w;
  look : l.id.instruction ≡ l.look;
  small : l.id.result ≤ l.x-index;
  few : length l.into ≤ 8;
}
