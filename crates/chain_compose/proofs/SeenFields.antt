-- A field as an element reads it: of the port of arrival that is behind a wire, a literal stands in its place.
use Rattle.std.proofs.Common.{◌≡◌, ℕ, Bool, true, false, cond, Option, Some, None, refl, ◌==◌}
use Rattle.packet_fields.specs.declared.field.Field.{Field}
use Rattle.packet_fields.specs.declared.field.Field.TheVariants.{MetaPort}
use Rattle.packet_fields.specs.Table.{field_index}
use Rattle.element_lang.specs.Tree.{ExprTree}
use Rattle.element_lang.specs.Tree.ExprTree.{lit, field}
use Rattle.element_chain.specs.Compose.{seen}

-- what is the same of literals and of the field is the same of the field however an element reads it
pub as_field : {X : Type 0} → (P : ExprTree → X) (port : Option ℕ) (f : Field) → ((input : ℕ) → P (lit input 8) ≡ P (field f)) → P (seen port f) ≡ P (field f)
as_field P None f same = refl
as_field P (Some input) f same = by_test (field_index f == field_index MetaPort)
  where
    by_test : (b : Bool) → P (cond b (lit input 8) (field f)) ≡ P (field f)
    by_test true = same input
    by_test false = refl
