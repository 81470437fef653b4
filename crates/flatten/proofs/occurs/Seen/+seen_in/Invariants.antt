use Rattle.std.proofs.Common.{◌≡◌, ◌||◌, drop, get_or, false}
use Rattle.packet_fields.specs.declared.field.Field.{Field}
use Rattle.packet_fields.specs.Table.{field_index}
use Rattle.element_lang.specs.View.{body_tree}
use Rattle.flatten.specs.Occurs.{is_in_body}
use Rattle.flatten.proofs.occurs.Seen.+seen_in.Given as goal

abbrev pub invariant-body-loop-s : goal.invariant-body-loop-s
invariant-body-loop-s l = (f : Field) → (get_or l.self.marks (field_index f) false || is_in_body f (body_tree (drop l.s-index l.all))) ≡ (get_or l.fn.self.marks (field_index f) false || is_in_body f (body_tree l.all))
