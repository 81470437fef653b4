-- Why the split that a file spells isn't taken.
use Rattle.std.specs.Prelude.{◌≡◌, List, ℕ, length}
use Rattle.std.specs.Option.{option_map}
use Rattle.state_store.specs.declared.object.ObjectDecl.{ObjectDecl}
use Rattle.flat_ir.specs.Listing.{name_of}
use Rattle.flat_ir.specs.Program.{Program}
use Rattle.split_model.specs.declared.split.Part.{Part}
use Rattle.split_model.specs.Legal.{IsLegal, IsFirstBroken}
use Rattle.split_validate.specs.SplitLines.{IsSplitText, IsRefused}
use Rattle.split_validate.specs.Validated.{IsExceeding}
use Rattle.split_validate.specs.declared.reading.SplitTextError.TheVariants as errors
use Rattle.resource_limits.specs.declared.limits.Limits.{Limits}
use Rattle.resource_limits.specs.declared.exceeding.Over.{Over}
use Rattle.gallium_cli.specs.declared.refusal.Excess.{Excess}
use Rattle.gallium_cli.specs.declared.refusal.SplitFault.TheVariants.{Line, Rule}
use Rattle.gallium_cli.specs.declared.refusal.Refusal.{Refusal}
use Rattle.gallium_cli.specs.declared.refusal.Refusal.TheVariants.{Split, Exceeded}

-- what is told of a limit that is exceeded
abbrev pub excess_of : List ObjectDecl → Over → Excess
excess_of objects over = record {
  limit = over.limit;
  object = option_map (name_of objects) over.object;
  have = over.have;
  allowed = over.allowed;
}

-- the text spells a legal split of the program
abbrev pub SpellsLegal : Program → List ℕ → Type 0
SpellsLegal f text = (split : List Part) × IsSplitText (length f.code) text split × IsLegal f split

-- The text spells no legal split of the program that keeps the limits: at this line it is no split text, or its split
-- breaks this rule first, or it is legal and exceeds this limit first.
abbrev pub IsUnkept : Refusal → Program → Limits → List ℕ → Type 0
IsUnkept (Split (Line number)) f allowed text = IsRefused (length f.code) text (errors.Line number)
IsUnkept (Split (Rule rule instruction)) f allowed text =
    (split : List Part) × IsSplitText (length f.code) text split × IsFirstBroken f split rule instruction
IsUnkept (Exceeded excess) f allowed text =
    (split : List Part) × (over : Over) × IsSplitText (length f.code) text split × IsExceeding f split allowed over
    × (excess ≡ excess_of f.objects over)
IsUnkept _ f allowed text = ⊥
