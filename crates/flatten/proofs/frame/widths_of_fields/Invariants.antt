use Rattle.std.proofs.Common.{◌≡◌, map, take}
use Rattle.packet_fields.specs.Table.{row, all_fields}
use Rattle.flatten.proofs.frame.widths_of_fields.Given as goal

abbrev pub invariant-loop-field : goal.invariant-loop-field
invariant-loop-field l = record {
  told : l.widths.items ≡ map (λ f. (row f).width) (take l.field-index l.field-items);
  all : l.field-items ≡ all_fields;
}
