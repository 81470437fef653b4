use Rattle.std.proofs.Common.{◌≡◌, ℕ, ◌<◌, ◌≤◌, get_or}
use Rattle.packet_fields.specs.declared.field.Field.TheVariants.{MetaPort}
use Rattle.packet_fields.specs.Fields.{field_value}
use Rattle.packet_fields.specs.Several.{AreBytes}
use Rattle.packet_fields.specs.Shape.{shape_of}
use Rattle.packet_fields.specs.Table.{all_fields, field_count}
use Rattle.element_interp.proofs.Assigned.{Leads}
use Rattle.element_interp.proofs.fields.AssignedFields.write.Given as goal

-- The fields that are left make of the packet what all make of it as it was, and read in it as they did then.
abbrev pub invariant-loop-field : goal.invariant-loop-field
invariant-loop-field l = record {
  leads : (port : ℕ) → Leads l.self l.initial.packet l.packet l.field-index port;
  shape : l.shape ≡ shape_of l.packet;
  ahead : (port k : ℕ) → l.field-index ≤ k → k < field_count
      → field_value l.packet port (get_or all_fields k MetaPort) ≡ field_value l.initial.packet port (get_or all_fields k MetaPort);
  bytes : AreBytes l.packet;
}
