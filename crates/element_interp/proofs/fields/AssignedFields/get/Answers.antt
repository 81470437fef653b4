use Rattle.std.proofs.Common.{◌∙◌, sym, Some, None}
use Rattle.element_interp.proofs.Assigned.{field_read}
use Rattle.element_interp.proofs.fields.AssignedFields.get.Goals as goal

pub returns-in-Some : goal.returns-in-Some
returns-in-Some c = field_read c.args.self.now c.args.packet.now c.args.port c.args.field (Some c.in-Some.value) c.at.ensures.count (sym c.in-Some.is ∙ c.at.ensures.value)

pub returns-in-None : goal.returns-in-None
returns-in-None c = c.get.ensures.value ∙ field_read c.args.self.now c.args.packet.now c.args.port c.args.field None c.at.ensures.count (sym c.in-None.is ∙ c.at.ensures.value)
