use Rattle.std.proofs.Common.{sym, ◌∙◌, rules}
use Rattle.run_text.proofs.Arrivals.{trace_arrives, trace_values}
use Rattle.run_text.proofs.trace.read_trace.Goals as goal

pub of-requires : goal.of-requires
of-requires c = rw (sym (trace_values c.args.text.now) ∙ c.in_ok-lines.ensures.ok) at (trace_arrives c.args.text.now)

pub returns-in_err-lines-clause-err : goal.returns-in_err-lines-clause-err
returns-in_err-lines-clause-err c = rw (sym (trace_values c.args.text.now)) (search rules)

pub returns-clause-ok : goal.returns-clause-ok
returns-clause-ok c = rw c.of.ensures (sym (trace_values c.args.text.now) ∙ c.in_ok-lines.ensures.ok)

pub returns-clause-arrivals : goal.returns-clause-arrivals
returns-clause-arrivals c =
    rw c.of.ensures (rw (sym (trace_values c.args.text.now) ∙ c.in_ok-lines.ensures.ok) at (trace_arrives c.args.text.now))
