-- The expressions of a middlebox that keeps the rules are spelled by the tokens that are printed.
use Rattle.std.proofs.Common.{◌≡◌, ℕ, true, ◌&&◌, ◌==◌, nat_le, List, [], ◌∷◌, length, slice_index, refl, arith}
use Rattle.gal_bits.specs.declared.op.Op.{Op}
use Rattle.gal_bits.specs.declared.op.Op.TheVariants.{Not, Shl, Shr, Eq, Ne, Lt, Le, Cast, Select, Adjust}
use Rattle.element_lang.specs.declared.mark.Mark.TheVariants as marks
use Rattle.element_lang.specs.Grammar.{is_select, is_adjust}
use Rattle.element_lang.specs.Tree.{ExprTree, Exprs, Tree}
use Rattle.element_lang.specs.Tree.ExprTree.{lit, local, field, byte, shift, apply}
use Rattle.element_lang.specs.Tree.Exprs.{no_expr, expr}
use Rattle.element_lang.specs.Surface.{SurfaceExpr, SurfaceExprs, local_name, written_width, named_expr, named_exprs}
use Rattle.element_lang.specs.Surface as surface
use Rattle.element_lang.specs.Widths.{width_of}
use Rattle.element_lang.specs.Rules.{is_good_expr, are_good_exprs, fits_operator, same_widths, is_shift, is_width, widths_of}
use Rattle.element_print.proofs.BoolParts.{is_equal}
use Rattle.element_print.proofs.Spelled.{Spelled, AllSpelled, count, literal_spelled, name_spelled, field_spelled, byte_spelled, shift_by, not_applied, infix_applied, cast_applied, three_applied}
use Rattle.lemmas.proofs.Tests.{and_first, and_second}

pub same_length : (xs ys : List ℕ) → same_widths xs ys ≡ true → length xs ≡ length ys
same_length [] [] h = refl
same_length [] (y ∷ ys) h = cc
same_length (x ∷ xs) [] h = cc
same_length (x ∷ xs) (y ∷ ys) h = omega (arith, same_length xs ys (and_second (x == y) (same_widths xs ys) h))

compared : (w : ℕ) (ws : List ℕ) → ((w == 1) && same_widths ws (slice_index ws 0 ∷ slice_index ws 0 ∷ [])) ≡ true → length ws ≡ 2
compared w ws h = same_length ws (slice_index ws 0 ∷ slice_index ws 0 ∷ []) (and_second (w == 1) (same_widths ws (slice_index ws 0 ∷ slice_index ws 0 ∷ [])) h)

applied : (op : Op) (w : ℕ) (ws : List ℕ) (args : SurfaceExprs) → length ws ≡ count args → fits_operator op w ws ≡ true → AllSpelled args
    → Spelled (surface.apply op (written_width op w) args)
applied Not w ws args n fits h = not_applied args (omega (arith, same_length ws (w ∷ []) fits)) h
applied Eq w ws args n fits h = infix_applied Eq args refl refl (omega (arith, compared w ws fits)) h
applied Ne w ws args n fits h = infix_applied Ne args refl refl (omega (arith, compared w ws fits)) h
applied Lt w ws args n fits h = infix_applied Lt args refl refl (omega (arith, compared w ws fits)) h
applied Le w ws args n fits h = infix_applied Le args refl refl (omega (arith, compared w ws fits)) h
applied Cast w ws args n fits h = cast_applied w args (omega (arith, is_equal (length ws) 1 (and_second (is_width w) (length ws == 1) fits))) h
applied Select w ws args n fits h =
    three_applied Select marks.Select args (omega (arith, same_length ws (1 ∷ w ∷ w ∷ []) fits)) refl h (λ a b c ts us vs rest f g k. is_select f g k) refl refl
applied Adjust w ws args n fits h =
    let all = same_length ws (16 ∷ 16 ∷ 16 ∷ []) (and_second (w == 16) (same_widths ws (16 ∷ 16 ∷ 16 ∷ [])) fits) in
    three_applied Adjust marks.Adjust args (omega (arith, all)) refl h (λ a b c ts us vs rest f g k. is_adjust f g k) refl refl
applied Shl w ws args n fits h = cc
applied Shr w ws args n fits h = cc
applied op w ws args n fits h = infix_applied op args refl refl (omega (arith, same_length ws (w ∷ w ∷ []) fits)) h

shifted : (op : Op) (by : ℕ) (e : SurfaceExpr) → is_shift op ≡ true → Spelled e → Spelled (surface.shift op by e)
shifted Shl by e is h = shift_by Shl by e refl h
shifted Shr by e is h = shift_by Shr by e refl h
shifted _ by e is h = cc

pub counted : (m : Tree) (widths : List ℕ) (es : Exprs) → length (widths_of widths es) ≡ count (named_exprs m es)
counted m widths no_expr = refl
counted m widths (expr e es) = omega (arith, counted m widths es)

mutual
  pub good_expr : (m : Tree) (widths scope : List ℕ) (e : ExprTree) → is_good_expr widths scope e ≡ true → Spelled (named_expr m e)
  good_expr m widths scope (lit value width) h = literal_spelled value width
  good_expr m widths scope (local x) h = name_spelled (local_name m x)
  good_expr m widths scope (field f) h = field_spelled f
  good_expr m widths scope (byte e) h =
      byte_spelled (named_expr m e) (good_expr m widths scope e (and_first (is_good_expr widths scope e) (width_of widths e == 16) h))
  good_expr m widths scope (shift op by e) h =
      let named = and_first (is_shift op && nat_le by 63) (is_good_expr widths scope e) h in
      let good = and_second (is_shift op && nat_le by 63) (is_good_expr widths scope e) h in
      shifted op by (named_expr m e) (and_first (is_shift op) (nat_le by 63) named) (good_expr m widths scope e good)
  good_expr m widths scope (apply op w args) h =
      let good = are_good_exprs widths scope args in
      let fits = fits_operator op w (widths_of widths args) in
      applied op w (widths_of widths args) (named_exprs m args) (counted m widths args) (and_second good fits h) (good_exprs m widths scope args (and_first good fits h))

  pub good_exprs : (m : Tree) (widths scope : List ℕ) (es : Exprs) → are_good_exprs widths scope es ≡ true → AllSpelled (named_exprs m es)
  good_exprs m widths scope no_expr h = tt
  good_exprs m widths scope (expr e es) h =
      let first = is_good_expr widths scope e in
      let others = are_good_exprs widths scope es in
      (good_expr m widths scope e (and_first first others h), good_exprs m widths scope es (and_second first others h))
