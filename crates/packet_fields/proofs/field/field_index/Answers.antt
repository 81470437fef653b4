use Rattle.std.proofs.Common.{◌≡◌, ◌==◌, ap, ◌∙◌, true, refl, arith, slice_get}
use Rattle.std.proofs.lemmas.Bool.{eqb-true}
use denote.Enum.Declared.{tag_of}
use Rattle.packet_fields.specs.contracts.field.Field.{the_type}
use Rattle.packet_fields.specs.declared.field.Field.{Field}
use Rattle.packet_fields.specs.FieldOrder.{each_of, of_each, index-lt, slice_get-index}
use Rattle.packet_fields.specs.Table.{all_fields, field_index}
use Rattle.packet_fields.proofs.field.field_index.Goals as goal

-- the code of each variant is its place
all_tagged : each_of (λ f. tag_of the_type f == field_index f) all_fields ≡ true
unfolding all_fields
all_tagged = refl

is_index : (f : Field) → tag_of the_type f ≡ field_index f
is_index f = eqb-true _ _ (of_each (λ g. tag_of the_type g == field_index g) all_tagged f)

pub returns : goal.returns
returns c = record {
  value = is_index c.args.field;
  place = ap (slice_get all_fields) (is_index c.args.field) ∙ slice_get-index c.args.field;
  within = omega (arith, is_index c.args.field, index-lt c.args.field);
}
