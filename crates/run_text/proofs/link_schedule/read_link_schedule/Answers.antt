use Rattle.std.proofs.Common.{sym, ◌∙◌, rules}
use Rattle.run_text.proofs.LinkSchedules.{link_values, links_fit}
use Rattle.run_text.proofs.link_schedule.read_link_schedule.Goals as goal

pub returns-in_err-lines-clause-err : goal.returns-in_err-lines-clause-err
returns-in_err-lines-clause-err c = rw (sym (link_values c.args.text.now)) (search rules)

pub returns-clause-ok : goal.returns-clause-ok
returns-clause-ok c = rw c.from.ensures (sym (link_values c.args.text.now) ∙ c.in_ok-lines.ensures.ok)

pub returns-clause-fits : goal.returns-clause-fits
returns-clause-fits c =
    rw c.from.ensures (rw (sym (link_values c.args.text.now) ∙ c.in_ok-lines.ensures.ok) at (links_fit c.args.text.now))
