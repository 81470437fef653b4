use Rattle.std.proofs.Common.{◌≡◌, drop}
use Rattle.packet_fields.specs.Table.{all_fields}
use Rattle.element_lang.specs.View.{body_tree}
use Rattle.flatten.specs.Flatten as pure
use Rattle.flatten.specs.Pending.{scoped_front}
use Rattle.flatten.proofs.output.Output.fields.Given as goal

abbrev pub invariant-loop-field : goal.invariant-loop-field
invariant-loop-field l = record {
  told : scoped_front l.ids.items (pure.give_fields (body_tree l.body) (drop l.field-index l.field-items) l.self) ≡ pure.give_fields (body_tree l.body) all_fields l.fn.self;
  all : l.field-items ≡ all_fields;
}
