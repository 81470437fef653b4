-- What follows where an instruction's parts fit.
use Rattle.std.proofs.Common.{◌≡◌, ◌≤◌, ℕ, zero, suc, true, false, IsTrue, not, ◌&&◌, ◌==◌, nat_le, List, [], ◌∷◌, length, get_or, slice_get, slice_index, refl, sym, ap, ◌∙◌, arith, true≢false}
use Rattle.std.proofs.lemmas.Bool.{eqb-true, not-true}
use Rattle.std.proofs.lemmas.List.{length-map}
use Rattle.gal_bits.specs.declared.op.Op.{Op}
use Rattle.gal_bits.specs.declared.op.Op.TheVariants.{Not, Shl, Shr, Eq, Ne, Lt, Le, Cast, Select, Adjust}
use Rattle.gal_bits.specs.Operators.{operator_row}
use Rattle.state_store.specs.declared.object.ObjectDecl.{ObjectDecl}
use Rattle.state_store.specs.Kinds.{is_table, is_constant}
use Rattle.flat_ir.specs.Program.{Program, Work, width_of_value}
use Rattle.flat_ir.specs.Program.Work.{apply, shift, look, put, del}
use Rattle.gal_bits.specs.Fitting.{is_width}
use Rattle.flat_ir.specs.Fits.{same_widths, fits_operator, is_select, is_shift, fits_keys, fits_values, can_put, can_del, widths_of, fits}
use Rattle.flat_ir.specs.WellFormed.{WritesNoTable}
use Rattle.flat_ir.specs.Operands.{CanRun, HasFewKeys}
use Rattle.gal_bits.specs.Fits.{same_list}
use Rattle.lemmas.proofs.Tests.{and_first, and_second}
use Rattle.state_store.specs.Keeping.{map_is_free}

-- ## What is written is no constant table

put_free : (ds : List ObjectDecl) (o : ℕ) → can_put (slice_get ds o) ≡ true → is_constant ds o ≡ false
put_free [] o h = refl
put_free (d ∷ ds) zero h = not-true (is_table d.kind) h
put_free (d ∷ ds) (suc o) h = put_free ds o h

del_free : (ds : List ObjectDecl) (o : ℕ) → can_del (slice_get ds o) ≡ true → is_constant ds o ≡ false
del_free [] o h = refl
del_free (d ∷ ds) zero h = map_is_free d.kind h
del_free (d ∷ ds) (suc o) h = del_free ds o h

pub writes_no_table : (f : Program) (work : Work) → fits f work ≡ true → WritesNoTable f work
writes_no_table f (put object keys values) h =
    put_free f.objects object (and_first (can_put (slice_get f.objects object)) _ (and_first (can_put (slice_get f.objects object) && fits_keys (slice_get f.objects object) (widths_of f keys)) _ h))
writes_no_table f (del object keys) h = del_free f.objects object (and_first (can_del (slice_get f.objects object)) _ h)
writes_no_table f _ h = tt

-- ## Counts

exactly : (ws xs : List ℕ) → same_widths ws xs ≡ true → length xs ≤ 3 → (length ws ≡ length xs) × (length ws ≤ 3)
exactly ws xs h le = let e = ap length (same_list ws xs h) in (e, omega (arith, e, le))

-- an operator has as many arguments as it takes
pub operator_count : (op : Op) (w : ℕ) (ws : List ℕ) → fits_operator op w ws ≡ true → (length ws ≡ (operator_row op).arity) × (length ws ≤ 3)
operator_count Not w ws h = exactly ws (w ∷ []) h (omega arith)
operator_count Shl w ws h = absurd (true≢false (sym h))
operator_count Shr w ws h = absurd (true≢false (sym h))
operator_count Eq w ws h = exactly ws (slice_index ws 0 ∷ slice_index ws 0 ∷ []) (and_second (w == 1) _ h) (omega arith)
operator_count Ne w ws h = exactly ws (slice_index ws 0 ∷ slice_index ws 0 ∷ []) (and_second (w == 1) _ h) (omega arith)
operator_count Lt w ws h = exactly ws (slice_index ws 0 ∷ slice_index ws 0 ∷ []) (and_second (w == 1) _ h) (omega arith)
operator_count Le w ws h = exactly ws (slice_index ws 0 ∷ slice_index ws 0 ∷ []) (and_second (w == 1) _ h) (omega arith)
operator_count Cast w ws h = let e = eqb-true (length ws) 1 (and_second (is_width w) (length ws == 1) h) in (e, omega (arith, e))
operator_count Select w ws h = exactly ws (1 ∷ w ∷ w ∷ []) h (omega arith)
operator_count Adjust w ws h = exactly ws (16 ∷ 16 ∷ 16 ∷ []) (and_second (w == 16) _ h) (omega arith)
operator_count _ w ws h = exactly ws (w ∷ w ∷ []) h (omega arith)

-- a key, and the values of a row, are as many as declared
pub keys_count : (ds : List ObjectDecl) (o : ℕ) (d : ObjectDecl) (ws : List ℕ) → fits_keys (slice_get ds o) ws ≡ true → d ≡ get_or ds o d → length ws ≡ length d.keys
keys_count [] o d ws h is = absurd (true≢false (sym h))
keys_count (x ∷ ds) zero d ws h is = ap length (same_list ws x.keys h) ∙ ap (λ (e : ObjectDecl). length e.keys) (sym is)
keys_count (x ∷ ds) (suc o) d ws h is = keys_count ds o d ws h is

pub values_count : (ds : List ObjectDecl) (o : ℕ) (d : ObjectDecl) (ws : List ℕ) → fits_values (slice_get ds o) ws ≡ true → d ≡ get_or ds o d → length ws ≡ length d.values
values_count [] o d ws h is = absurd (true≢false (sym h))
values_count (x ∷ ds) zero d ws h is = ap length (same_list ws x.values h) ∙ ap (λ (e : ObjectDecl). length e.values) (sym is)
values_count (x ∷ ds) (suc o) d ws h is = values_count ds o d ws h is

-- ## What can be computed from numbers and tables alone

shift_count : (op : Op) → is_shift op ≡ true → (operator_row op).arity ≡ 2
shift_count Not h = absurd (true≢false (sym h))
shift_count Cast h = absurd (true≢false (sym h))
shift_count Select h = absurd (true≢false (sym h))
shift_count Adjust h = absurd (true≢false (sym h))
shift_count _ h = refl

-- an instruction that fits, of few keys, can be computed from numbers and tables alone
pub can_run : (f : Program) (work : Work) → IsTrue (fits f work) → HasFewKeys work → CanRun work
can_run f (apply op width args) h few =
    let count = operator_count op width (widths_of f args) (and_second (not (is_select op)) (fits_operator op width (widths_of f args)) h) in
    let n = length-map args (width_of_value f) in
    (sym n ∙ count.0, omega (arith, n, count.1))
can_run f (shift op width arg by) h few = shift_count op (and_first (is_shift op) _ (and_first (is_shift op && nat_le by 63) _ h))
can_run f (look object keys) h few = few
can_run f _ h few = tt
