-- How a run stands after a stretch of statements.
use Rattle.packet_fields.specs.declared.packet.Packet.{Packet}
use Rattle.packet_fields.specs.declared.verdict.Verdict.TheVariants.{Drop, Send}
use Rattle.packet_fields.specs.Table.{all_fields}
use Rattle.element_lang.specs.Meaning.{State, Outcome, Running, Ended, with_fields}
use Rattle.element_interp.specs.declared.interp.Flow.{Flow}
use Rattle.element_interp.specs.declared.interp.Flow.TheVariants.{Goes, Drops, Sends}

-- the state is the one that the statements left, also where they ended the run
abbrev pub outcome_of : Flow → Packet → State → Outcome
outcome_of Goes packet s = Running s
outcome_of Drops packet s = Ended s.store Drop
outcome_of (Sends port) packet s = Ended s.store (Send port (with_fields all_fields s.fields packet.bytes))
