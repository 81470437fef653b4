-- The tokens of printed expressions are read again as they are printed.
use Rattle.std.proofs.Common.{◌≡◌, ℕ, ◌^◌, ◌<◌, ◌≤◌, Bool, true, false, ◌&&◌, ◌==◌, nat_le, nat_lt, List, [], ◌∷◌, ◌++◌, length, Option, Some, slice_get, sym, subst, inl, inr, arith}
use Rattle.std.specs.List.{list_any}
use Rattle.std.proofs.Math.Pow.{pow_mono}
use Rattle.std.proofs.lemmas.Option.{slice_get_cases, slice_get_within, get_or_from_slice_get}
use Rattle.gal_bits.specs.declared.op.Op.{Op}
use Rattle.gal_bits.specs.declared.op.Op.TheVariants as ops
use Rattle.state_store.specs.declared.object.ObjectDecl.{ObjectDecl}
use Rattle.element_lang.specs.declared.mark.Mark.{Mark}
use Rattle.element_lang.specs.declared.mark.Mark.TheVariants as marks
use Rattle.element_lang.specs.declared.tree.Local.{Local}
use Rattle.element_lang.specs.Token.{Token, fixed, number, IsName}
use Rattle.element_lang.specs.Accepted.{HasNames}
use Rattle.element_lang.specs.Tree.{ExprTree, Exprs, Tree}
use Rattle.element_lang.specs.Tree.ExprTree.{lit, local, field, byte, shift, apply}
use Rattle.element_lang.specs.Tree.Exprs.{no_expr, expr}
use Rattle.element_lang.specs.Surface.{SurfaceExprs, local_name, name_of_local, object_name, name_of_object, written_width, named_expr, named_exprs}
use Rattle.element_lang.specs.Surface as surface
use Rattle.element_lang.specs.Widths.{width_of}
use Rattle.element_lang.specs.Rules.{is_good_expr, are_good_exprs, fits_operator, is_shift, is_width, widths_of}
use Rattle.element_print.specs.declared.place.Place.{Place}
use Rattle.element_print.specs.declared.place.Place.TheVariants.{Whole, Operand, Turned}
use Rattle.element_print.specs.Printed.{expr_tokens, exprs_tokens, parts, joined, behind_each, in_brackets, in_brackets_if, needs_brackets, mark_of}
use Rattle.element_print.proofs.Words.{Readable, fixed_readable, field_readable, name_readable, number_readable}
use Rattle.element_print.proofs.TextTokens.{AllReadable, readable_append}
use Rattle.lemmas.proofs.Tests.{and_first, and_second}
use Rattle.std.proofs.lemmas.Bool.{leb-true, ltb-true}

-- ## Parts

pub closing : (ts : List Token) (m : Mark) → AllReadable ts → AllReadable (ts ++ fixed m ∷ [])
closing ts m h = readable_append ts (fixed m ∷ []) h (fixed_readable m, tt)

pub bracketed : (ts : List Token) → AllReadable ts → AllReadable (in_brackets ts)
bracketed ts h = (fixed_readable marks.LeftParen, closing ts marks.RightParen h)

bracketed_if : (b : Bool) (ts : List Token) → AllReadable ts → AllReadable (in_brackets_if b ts)
bracketed_if true ts h = bracketed ts h
bracketed_if false ts h = h

abbrev pub AllParts : List (List Token) → Type 0
AllParts [] = Unit {0}
AllParts (p ∷ ps) = AllReadable p × AllParts ps

pub behind_readable : (m : Mark) (ps : List (List Token)) → AllParts ps → AllReadable (behind_each m ps)
behind_readable m [] h = tt
behind_readable m (p ∷ ps) (h, hs) = (fixed_readable m, readable_append p (behind_each m ps) h (behind_readable m ps hs))

pub joined_readable : (m : Mark) (ps : List (List Token)) → AllParts ps → AllReadable (joined m ps)
joined_readable m [] h = tt
joined_readable m (p ∷ ps) (h, hs) = readable_append p (behind_each m ps) h (behind_readable m ps hs)

abbrev pub AllExprs : SurfaceExprs → Type 0
AllExprs surface.no_expr = Unit {0}
AllExprs (surface.expr e es) = AllReadable (expr_tokens e) × AllExprs es

parts_readable : (place : Place) (es : SurfaceExprs) → AllExprs es → AllParts (parts place es)
parts_readable place surface.no_expr h = tt
parts_readable place (surface.expr e es) (h, hs) = (bracketed_if (needs_brackets place e) (expr_tokens e) h, parts_readable place es hs)

pub exprs_readable : (es : SurfaceExprs) → AllExprs es → AllReadable (exprs_tokens es)
exprs_readable es h = joined_readable marks.Comma (parts Whole es) (parts_readable Whole es h)

-- tokens in front of others, and marks
pub ruleset readables = (fixed_readable, readable_append)

-- ## Widths

pub width_small : (w : ℕ) → is_width w ≡ true → w ≤ 64
width_small w h = leb-true w 64 (and_second (nat_le 1 w) (nat_le w 64) h)

pub width_readable : (w : ℕ) → is_width w ≡ true → Readable (number w)
width_readable w h = number_readable w (omega (arith, width_small w h))

pub value_readable : (v w : ℕ) → w ≤ 64 → nat_lt v (2 ^ w) ≡ true → Readable (number v)
value_readable v w small h = number_readable v (omega (arith, ltb-true v (2 ^ w) h, pow_mono small))

-- ## Names

pub local_named : (m : Tree) (x : ℕ) → HasNames m → x < length m.locals → IsName (local_name m x)
local_named m x names within =
    elim ((slice_get_cases m.locals x).1) [
      | inl f ↦
          let P : Option Local → Type 0 = λ l. IsName (name_of_local l) in
          let Q : Local → Type 0 = λ l. IsName l.name in
          subst P (sym f.2) (subst Q f.3 (names.locals x f.0 within))
      | inr f ↦ absurd (omega (arith, f.0))
    ]

pub object_named : (m : Tree) (x : ℕ) (o : ObjectDecl) → HasNames m → slice_get m.objects x ≡ Some o → IsName (object_name m x)
object_named m x o names is =
    let P : Option ObjectDecl → Type 0 = λ o. IsName (name_of_object o) in
    let Q : ObjectDecl → Type 0 = λ o. IsName o.name in
    subst P (sym is) (subst Q (get_or_from_slice_get m.objects x o o is) (names.objects x o (slice_get_within m.objects x o is)))

-- the locals in scope are declared
pub record InScope (m : Tree) (scope : List ℕ) : Type 0 where
  pub within : (x : ℕ) → list_any (λ y. y == x) scope ≡ true → x < length m.locals

-- ## Expressions

applied : (op : Op) (w : ℕ) (ws : List ℕ) (args : SurfaceExprs) → fits_operator op w ws ≡ true → AllExprs args
    → AllReadable (expr_tokens (surface.apply op (written_width op w) args))
applied ops.Not w ws args fits h = (fixed_readable marks.Tilde, joined_readable marks.Comma (parts Turned args) (parts_readable Turned args h))
applied ops.Cast w ws args fits h = (
  fixed_readable marks.Cast,
  bracketed (joined marks.Comma ((number w ∷ []) ∷ parts Whole args))
      (joined_readable marks.Comma ((number w ∷ []) ∷ parts Whole args)
      ((width_readable w (and_first (is_width w) (length ws == 1) fits), tt), parts_readable Whole args h)),
)
applied ops.Select w ws args fits h = (fixed_readable marks.Select, bracketed (exprs_tokens args) (exprs_readable args h))
applied ops.Adjust w ws args fits h = (fixed_readable marks.Adjust, bracketed (exprs_tokens args) (exprs_readable args h))
applied op w ws args fits h = joined_readable (mark_of op) (parts Operand args) (parts_readable Operand args h)

mutual
  pub expr_readable : (m : Tree) (widths scope : List ℕ) (e : ExprTree) → HasNames m → InScope m scope → is_good_expr widths scope e ≡ true
      → AllReadable (expr_tokens (named_expr m e))
  expr_readable m widths scope (lit v w) names known h =
      let wide : is_width w ≡ true = and_first (is_width w) (nat_lt v (2 ^ w)) h in
      (value_readable v w (width_small w wide) (and_second (is_width w) (nat_lt v (2 ^ w)) h), (fixed_readable marks.Colon, (width_readable w wide, tt)))
  expr_readable m widths scope (local x) names known h = (name_readable (local_name m x) (local_named m x names (known.within x h)), tt)
  expr_readable m widths scope (field f) names known h = (field_readable f, tt)
  expr_readable m widths scope (byte e) names known h =
      let good = and_first (is_good_expr widths scope e) (width_of widths e == 16) h in
      (fixed_readable marks.Byte, bracketed (expr_tokens (named_expr m e)) (expr_readable m widths scope e names known good))
  expr_readable m widths scope (shift op by e) names known h =
      let small : by ≤ 63 = leb-true by 63 (and_second (is_shift op) (nat_le by 63) (and_first (is_shift op && nat_le by 63) (is_good_expr widths scope e) h)) in
      let good = and_second (is_shift op && nat_le by 63) (is_good_expr widths scope e) h in
      let arg = named_expr m e in
      readable_append (in_brackets_if (needs_brackets Operand arg) (expr_tokens arg)) (fixed (mark_of op) ∷ number by ∷ [])
      (bracketed_if (needs_brackets Operand arg) (expr_tokens arg) (expr_readable m widths scope e names known good))
      (fixed_readable (mark_of op), (number_readable by (omega arith), tt))
  expr_readable m widths scope (apply op w args) names known h =
      let good = are_good_exprs widths scope args in
      let fits = fits_operator op w (widths_of widths args) in
      applied op w (widths_of widths args) (named_exprs m args) (and_second good fits h) (all_exprs m widths scope args names known (and_first good fits h))

  pub all_exprs : (m : Tree) (widths scope : List ℕ) (es : Exprs) → HasNames m → InScope m scope → are_good_exprs widths scope es ≡ true
      → AllExprs (named_exprs m es)
  all_exprs m widths scope no_expr names known h = tt
  all_exprs m widths scope (expr e es) names known h =
      let first = is_good_expr widths scope e in
      let others = are_good_exprs widths scope es in
      (expr_readable m widths scope e names known (and_first first others h), all_exprs m widths scope es names known (and_second first others h))
