use Rattle.std.proofs.Common.{arith, ◌≡◌, ◌+◌, List, subst, sym, ap, ◌∙◌, get_or}
use Rattle.packet_fields.specs.declared.field.Field.{Field}
use Rattle.packet_fields.specs.declared.field.Field.TheVariants.{MetaPort}
use Rattle.packet_fields.specs.Fields.{field_value}
use Rattle.packet_fields.specs.Several.{AreBytes}
use Rattle.packet_fields.specs.Table.{all_fields}
use Rattle.element_interp.specs.Fields.{with_assigned}
use Rattle.element_interp.proofs.Assigned.{Leads, one_more, all_written, later_as_before, still_bytes}
use Rattle.packet_fields.proofs.Laws.{fields_stand_alone-bytes, fields_stand_alone-others, fields_stand_alone-own}
use Rattle.element_interp.proofs.fields.AssignedFields.write.Goals as goal

pub loop-field-preserved : goal.loop-field-preserved
loop-field-preserved c =
    let l = c.loop-field in
    let f : Field = get_or all_fields l.field-index MetaPort in
    let is_f : get_or c.fields-field-items.result l.field-index MetaPort ≡ f = ap (λ (fs : List Field). get_or fs l.field-index MetaPort) c.fields-field-items.ensures in
    let after : c.write_field.new.packet ≡ with_assigned c.args.self.now l.packet f = c.write_field.ensures.after ∙ ap (with_assigned c.args.self.now l.packet) is_f in
    record {
      leads = λ port. subst (λ p. Leads c.args.self.now c.args.packet.now p (l.field-index + 1) port) (sym after)
          (one_more c.args.self.now c.args.packet.now l.packet l.field-index port c.write_field.ensures.count c.loop-field-test.true (l.invariant.ahead port l.field-index (omega arith) c.loop-field-test.true) (fields_stand_alone-own l.packet port f l.invariant.bytes) (l.invariant.leads port));
      shape = c.write_field.ensures.same_shape;
      ahead = λ port k le lt. subst (λ p. field_value p port (get_or all_fields k MetaPort) ≡ field_value c.args.packet.now port (get_or all_fields k MetaPort)) (sym after)
          (later_as_before c.args.self.now c.args.packet.now l.packet l.field-index port k c.loop-field-test.true lt le (λ value may apart. fields_stand_alone-others l.packet port f (get_or all_fields k MetaPort) value may apart) (l.invariant.ahead port k (omega (arith, le)) lt));
      bytes = subst AreBytes (sym after) (still_bytes c.args.self.now l.packet f (λ value. fields_stand_alone-bytes l.packet f value l.invariant.bytes) l.invariant.bytes);
    }

pub returns : goal.returns
returns c = λ port. all_written c.args.self.now c.args.packet.now c.loop-field.packet c.loop-field.field-index port c.loop-field-test.false (c.loop-field.invariant.leads port)
