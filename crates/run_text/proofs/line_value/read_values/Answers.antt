use Rattle.std.proofs.Common.{◌+◌, false, arith}
use Rattle.gal_io.specs.Lines.{lines}
use Rattle.run_text.specs.Trace.{values_until}
use Rattle.run_text.proofs.LineSteps.{ahead_values, all_lines, any_ends, first_stands}
use Rattle.run_text.proofs.line_value.read_values.Goals as goal

pub loop-items-init : goal.loop-items-init
loop-items-init g c =
    let ends = g.V.LineValue.line_ends in
    let value = g.V.LineValue.line_gives in
    let ls = lines c.args.text.now in
    record {
      ended = any_ends ends ls;
      have = omega arith;
      number = omega arith;
      stands = first_stands (ahead_values ends value false (c.args.before + 1) ls) (values_until ends value (c.args.before + 1) ls) c.in_ok-items.items.items c.args.most (all_lines ends value (c.args.before + 1) ls) c.in_ok-items.ensures;
    }
