use Rattle.std.proofs.Common.{◌≡◌, ◌++◌, ◌∷◌, [], ◌∙◌, rules}
use Rattle.flatten.specs.Journal.{before}
use Rattle.flatten.specs.Pending.{placed}
use Rattle.flatten.specs.Tracked.{started}
use Rattle.flatten.proofs.Steps.{close_start, close_told, as_wide, over_join}
use Rattle.flatten.proofs.output.Output.close.Goals as goal

pub loop-open-preserved : goal.loop-open-preserved
loop-open-preserved c =
    let ws = c.args.frame.now.locals.items in
    let ps = c.pop.new.self.items in
    let all = c.loop-open.pending.items in
    let p = c.in-Some.open in
    let w = c.loop-open.w in
    let u = c.join.new.w in
    let ea : all ≡ ps ++ p ∷ [] = c.in-Some.ensures.items in
    let start = close_start ps all p w u ea c.in_ok-join.ensures.start in
    record {
      told = close_told ws ps all p w u c.loop-open.self c.join.new.self (before c.in_ok-first.first (started w)) ea c.in_ok-first.ensures c.in_ok-join.ensures.told c.in_ok-join.ensures.start ∙ c.loop-open.invariant.told;
      start = start ∙ c.loop-open.invariant.start;
      wide = as_wide all ps w u start ∙ c.loop-open.invariant.wide;
      fields = c.loop-open.invariant.fields;
    }

pub returns-in_err-keeps_size-clause-large : goal.returns-in_err-keeps_size-clause-large
returns-in_err-keeps_size-clause-large c =
    let l = c.loop-open in
    let over = over_join c.args.frame.now.locals.items l.pending.items (started l.w) (placed l.self l.w.state) _ c.in_err-keeps_size.field-0.0 l.invariant.told c.in_err-keeps_size.ensures.large in
    search (rules, over)
