use Rattle.std.proofs.Common.{◌<◌, length, sym, ap, subst, arith, rules}
use Rattle.slot_table.specs.Probing.{HasGap}
use Rattle.slot_table.proofs.Circle.{home_below}
use Rattle.slot_table.proofs.layout.settle.Goals as goal

pub free-gap-requires : goal.free-gap-requires
free-gap-requires g c =
    let s = c.args.slots.now in
    let some : 0 < c.len-count.result = omega (arith, c.requires.within, c.len-count.ensures, s.ok.0) in
    let lt : c.home-start.result < c.len-count.result = rw c.home-start.ensures (home_below c.args.seed c.len-count.result c.args.row.0 some) in
    (search rules, (search rules, (omega (arith, lt, ap length c.deref.ensures.value, c.len-count.ensures, s.ok.0), subst HasGap (sym c.deref.ensures.value) c.requires)))

pub steps-requires-clause-from : goal.steps-requires-clause-from
steps-requires-clause-from g c =
    let s = c.args.slots.now in
    let some : 0 < c.len-count.result = omega (arith, c.requires.within, c.len-count.ensures, s.ok.0) in
    rw c.home-start.ensures (home_below c.args.seed c.len-count.result c.args.row.0 some)
