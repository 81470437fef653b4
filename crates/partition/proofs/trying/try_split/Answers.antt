use Rattle.std.proofs.Common.{◌≡◌, Some, None, sym, subst, ◌∙◌}
use Rattle.resource_limits.specs.declared.counting.Counts.{Counts}
use Rattle.resource_limits.specs.Kept.{first_excess, Keeps}
use Rattle.partition.proofs.trying.try_split.Goals as goal

pub returns-in-None : goal.returns-in-None
returns-in-None c = record {
  kept = record {
    greatest = c.in_ok-split.ensures;
    keeps = subst (λ (n : Counts). Keeps n c.args.limits.now) c.in_ok-counts.ensures (c.first_exceeded.ensures.none.0 c.in-None.is);
  };
  none = subst (λ (n : Counts). first_excess n c.args.limits.now ≡ None) c.in_ok-counts.ensures (sym c.first_exceeded.ensures.first ∙ c.in-None.is);
}

pub returns-in-Some : goal.returns-in-Some
returns-in-Some c = record {
  exceeded = record {
    split = c.in_ok-split.split;
    greatest = c.in_ok-split.ensures;
    exceeds = subst (λ (n : Counts). first_excess n c.args.limits.now ≡ Some c.in-Some.over) c.in_ok-counts.ensures (sym c.first_exceeded.ensures.first ∙ c.in-Some.is);
  };
  broken = λ keeps.
      let n : c.first_exceeded.result ≡ None = c.first_exceeded.ensures.none.1 (subst (λ (n : Counts). Keeps n c.args.limits.now) (sym c.in_ok-counts.ensures) keeps) in
      let s : c.first_exceeded.result ≡ Some c.in-Some.over = c.in-Some.is in
      cc;
}
