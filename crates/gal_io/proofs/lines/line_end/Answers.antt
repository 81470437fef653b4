use Rattle.std.proofs.Common.{sym, ◌∙◌}
use Rattle.gal_io.proofs.LineLemmas.{feed_within, first_feed}
use Rattle.gal_io.proofs.lines.line_end.Goals as goal

pub returns-clause-end : goal.returns-clause-end
returns-clause-end c = c.unwrap_or.ensures ∙ sym (first_feed c.args.text.now c.memchr.result c.memchr.ensures)

pub returns-clause-within : goal.returns-clause-within
returns-clause-within c = rw c.unwrap_or.ensures (feed_within c.args.text.now c.memchr.result c.memchr.ensures)
