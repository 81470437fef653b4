use Rattle.std.proofs.Common.{◌≡◌, ◌||◌, drop, get_or, false}
use Rattle.packet_fields.specs.declared.field.Field.{Field}
use Rattle.packet_fields.specs.Table.{field_index}
use Rattle.element_lang.specs.View.{expr_trees}
use Rattle.flatten.specs.Occurs.{is_in_exprs}
use Rattle.flatten.proofs.occurs.Seen.+seen.Given as goal

abbrev pub invariant-exprs-loop-e : goal.invariant-exprs-loop-e
invariant-exprs-loop-e l = (f : Field) → (get_or l.self.marks (field_index f) false || is_in_exprs f (expr_trees (drop l.e-index l.all))) ≡ (get_or l.fn.self.marks (field_index f) false || is_in_exprs f (expr_trees l.all))
