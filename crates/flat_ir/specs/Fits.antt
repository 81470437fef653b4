-- Counts, widths and kinds that fit.
use Rattle.std.specs.Prelude.{ℕ, ◌^◌, Bool, true, false, not, ◌&&◌, List, [], ◌∷◌, map, nat_lt, nat_le, ◌==◌, slice_get}
pub use Rattle.gal_bits.specs.Fitting.{same_widths, fits_operator, is_shift}
use Rattle.gal_bits.specs.declared.op.Op.{Op}
use Rattle.gal_bits.specs.declared.op.Op.TheVariants.{Select}
pub use Rattle.state_store.specs.Fitting.{fits_keys, fits_values, can_put, can_del}
use Rattle.flat_ir.specs.declared.program.ValueId.{ValueId}
use Rattle.flat_ir.specs.Program.{Program, Work, width_of_value}
use Rattle.flat_ir.specs.Program.Work.{const, field, apply, shift, select, byte, look, put, del}

-- a select is an instruction of its own
abbrev pub is_select : Op → Bool
is_select Select = true
is_select _ = false

abbrev pub widths_of : Program → List ValueId → List ℕ
widths_of f values = map (width_of_value f) values

-- the counts, widths and kinds of an instruction's parts fit what it does
abbrev pub fits : Program → Work → Bool
fits f (const width number) = nat_lt number (2 ^ width)
fits f (field name) = true
fits f (apply op width args) = not (is_select op) && fits_operator op width (widths_of f args)
fits f (shift op width arg by) = is_shift op && nat_le by 63 && width_of_value f arg == width
fits f (select width cond first second) =
    same_widths (widths_of f (cond ∷ first ∷ second ∷ [])) (1 ∷ width ∷ width ∷ [])
fits f (byte index) = width_of_value f index == 16
fits f (look object keys) = fits_keys (slice_get f.objects object) (widths_of f keys)
fits f (put object keys values) =
    let declared = slice_get f.objects object in
    can_put declared && fits_keys declared (widths_of f keys) && fits_values declared (widths_of f values)
fits f (del object keys) =
    let declared = slice_get f.objects object in
    can_del declared && fits_keys declared (widths_of f keys)
