-- Printed expressions are spelled by their tokens.
use Rattle.std.proofs.Common.{◌≡◌, ℕ, suc, ◌<◌, Bool, true, false, ◌||◌, List, [], ◌∷◌, ◌++◌, Some, refl, sym, ap, subst, ◌∙◌, true≢false, append_assoc, append-nil, arith}
use Rattle.gal_bits.specs.declared.op.Op.{Op}
use Rattle.gal_bits.specs.declared.op.Op.TheVariants as ops
use Rattle.packet_fields.specs.declared.field.Field.{Field}
use Rattle.element_lang.specs.declared.mark.Mark.{Mark}
use Rattle.element_lang.specs.declared.mark.Mark.TheVariants as marks
use Rattle.element_lang.specs.Token.{Token, fixed, number}
use Rattle.element_lang.specs.Surface.{SurfaceExpr, SurfaceExprs, lit, name, field, byte, shift, apply, no_expr, expr}
use Rattle.element_lang.specs.Grammar.{infix_of, shift_of, one, two, three, IsPrim, is_in_brackets, is_literal, is_name, is_field, is_byte, is_cast, IsUnary, is_prim, is_not, IsExpr, is_unary, is_infix, is_shift, AreExprs, are_last, are_more, AreKeys, are_no_keys, are_keys}
use Rattle.element_print.specs.declared.place.Place.TheVariants.{Operand, Turned}
use Rattle.element_print.specs.Printed.{expr_tokens, exprs_tokens, parts, part, joined, in_brackets, in_brackets_if, has_infix, is_turned, mark_of}
use Rattle.element_print.specs.Printed as printed
use Rattle.std.proofs.lemmas.Bool.{or_from, or_left}

-- wherever it stands
pub record Spelled (e : SurfaceExpr) : Type 0 where
  pub whole : (rest : List Token) → IsExpr e (expr_tokens e ++ rest) rest
  pub operand : (rest : List Token) → IsUnary e (part Operand e ++ rest) rest
  pub turned : (rest : List Token) → IsPrim e (part Turned e ++ rest) rest

abbrev pub AllSpelled : SurfaceExprs → Type 0
AllSpelled no_expr = Unit {0}
AllSpelled (expr e es) = Spelled e × AllSpelled es

in_brackets_too : (e : SurfaceExpr) → ((rest : List Token) → IsExpr e (expr_tokens e ++ rest) rest) → (rest : List Token)
    → IsPrim e (in_brackets (expr_tokens e) ++ rest) rest
in_brackets_too e h rest =
    let P : List Token → Type 0 = λ ts. IsPrim e (fixed marks.LeftParen ∷ ts) rest in
    subst P (sym (append_assoc (expr_tokens e) (fixed marks.RightParen ∷ []) rest)) (is_in_brackets (h (fixed marks.RightParen ∷ rest)))

-- where it needs brackets, and where it doesn't
with_brackets : (R : List Token → List Token → Type 0) (b : Bool) (ts : List Token) → b ≡ true
    → ((rest : List Token) → R (in_brackets ts ++ rest) rest) → (rest : List Token) → R (in_brackets_if b ts ++ rest) rest
with_brackets R true ts is h = h
with_brackets R false ts is h = absurd (true≢false (sym is))

without_brackets : (R : List Token → List Token → Type 0) (b : Bool) (ts : List Token) → b ≡ false → ((rest : List Token) → R (ts ++ rest) rest)
    → (rest : List Token) → R (in_brackets_if b ts ++ rest) rest
without_brackets R true ts is h = absurd (true≢false is)
without_brackets R false ts is h = h

or_right : (a b : Bool) → a ≡ false → b ≡ true → (a || b) ≡ true
or_right true b h k = refl
or_right false b h k = k

prim_spelled : (e : SurfaceExpr) → has_infix e ≡ false → is_turned e ≡ false → ((rest : List Token) → IsPrim e (expr_tokens e ++ rest) rest) → Spelled e
prim_spelled e plain straight h = record {
  whole = λ rest. is_unary (is_prim (h rest));
  operand = without_brackets (IsUnary e) (has_infix e) (expr_tokens e) plain (λ rest. is_prim (h rest));
  turned = without_brackets (IsPrim e) (has_infix e || is_turned e) (expr_tokens e) (or_from (has_infix e) (is_turned e) plain straight) h;
}

not_spelled : (e : SurfaceExpr) → has_infix e ≡ false → is_turned e ≡ true → ((rest : List Token) → IsUnary e (expr_tokens e ++ rest) rest) → Spelled e
not_spelled e plain turned h = record {
  whole = λ rest. is_unary (h rest);
  operand = without_brackets (IsUnary e) (has_infix e) (expr_tokens e) plain h;
  turned = with_brackets (IsPrim e) (has_infix e || is_turned e) (expr_tokens e) (or_right (has_infix e) (is_turned e) plain turned)
      (in_brackets_too e (λ rest. is_unary (h rest)));
}

infix_spelled : (e : SurfaceExpr) → has_infix e ≡ true → ((rest : List Token) → IsExpr e (expr_tokens e ++ rest) rest) → Spelled e
infix_spelled e joins h = record {
  whole = h;
  operand = with_brackets (IsUnary e) (has_infix e) (expr_tokens e) joins (λ rest. is_prim (in_brackets_too e h rest));
  turned = with_brackets (IsPrim e) (has_infix e || is_turned e) (expr_tokens e) (or_left (has_infix e) (is_turned e) joins) (in_brackets_too e h);
}

pub literal_spelled : (value width : ℕ) → Spelled (lit value width)
literal_spelled value width = prim_spelled (lit value width) refl refl (λ rest. is_literal)

pub name_spelled : (word : List ℕ) → Spelled (name word)
name_spelled word = prim_spelled (name word) refl refl (λ rest. is_name)

pub field_spelled : (f : Field) → Spelled (field f)
field_spelled f = prim_spelled (field f) refl refl (λ rest. is_field)

pub byte_spelled : (e : SurfaceExpr) → Spelled e → Spelled (byte e)
byte_spelled e h =
    prim_spelled (byte e) refl refl
    (λ rest.
    let P : List Token → Type 0 = λ ts. IsPrim (byte e) (fixed marks.Byte ∷ fixed marks.LeftParen ∷ ts) rest in
    subst P (sym (append_assoc (expr_tokens e) (fixed marks.RightParen ∷ []) rest)) (is_byte (h.whole (fixed marks.RightParen ∷ rest))))

pub shift_by : (op : Op) (by : ℕ) (e : SurfaceExpr) → shift_of (mark_of op) ≡ Some op → Spelled e → Spelled (shift op by e)
shift_by op by e is h =
    infix_spelled (shift op by e) refl
    (λ rest.
    let P : List Token → Type 0 = λ ts. IsExpr (shift op by e) ts rest in
    let behind : List Token = fixed (mark_of op) ∷ number by ∷ [] in
    subst P (sym (append_assoc (part Operand e) behind rest)) (is_shift (h.operand (behind ++ rest)) is))

-- ## Operators

abbrev pub count : SurfaceExprs → ℕ
count no_expr = 0
count (expr e es) = suc (count es)

not_tokens : (e : SurfaceExpr) (rest : List Token) → part Turned e ++ rest ≡ joined marks.Comma (parts Turned (one e)) ++ rest
not_tokens e rest = ap (λ ts. ts ++ rest) (sym (append-nil (part Turned e)))

pub not_applied : (args : SurfaceExprs) → count args ≡ 1 → AllSpelled args → Spelled (apply ops.Not 0 args)
not_applied no_expr n h = absurd (omega arith)
not_applied (expr a no_expr) n (h, none) =
    not_spelled (apply ops.Not 0 (one a)) refl refl
    (λ rest. let P : List Token → Type 0 = λ ts. IsUnary (apply ops.Not 0 (one a)) (fixed marks.Tilde ∷ ts) rest in subst P (not_tokens a rest)
    (is_not (h.turned rest)))
not_applied (expr a (expr b es)) n h = absurd (omega arith)

pub infix_tokens : (op : Op) (width : ℕ) (args : SurfaceExprs) → printed.is_infix op ≡ true
    → expr_tokens (apply op width args) ≡ joined (mark_of op) (parts Operand args)
infix_tokens ops.Not width args h = cc
infix_tokens ops.Cast width args h = cc
infix_tokens ops.Select width args h = cc
infix_tokens ops.Adjust width args h = cc
infix_tokens _ width args h = refl

two_tokens : (m : Mark) (a b : SurfaceExpr) (rest : List Token)
    → part Operand a ++ fixed m ∷ (part Operand b ++ rest) ≡ joined m (parts Operand (two a b)) ++ rest
two_tokens m a b rest = simp (append_assoc, append-nil)

pub infix_applied : (op : Op) (args : SurfaceExprs) → printed.is_infix op ≡ true → infix_of (mark_of op) ≡ Some op → count args ≡ 2 → AllSpelled args
    → Spelled (apply op 0 args)
infix_applied op no_expr joins is n h = absurd (omega arith)
infix_applied op (expr a no_expr) joins is n h = absurd (omega arith)
infix_applied op (expr a (expr b no_expr)) joins is n (f, (g, none)) =
    infix_spelled (apply op 0 (two a b)) joins
    (λ rest.
    let P : List Token → Type 0 = λ ts. IsExpr (apply op 0 (two a b)) ts rest in
    let same = two_tokens (mark_of op) a b rest ∙ ap (λ ts. ts ++ rest) (sym (infix_tokens op 0 (two a b) joins)) in
    subst P same (is_infix (f.operand (fixed (mark_of op) ∷ (part Operand b ++ rest))) is (g.operand rest)))
infix_applied op (expr a (expr b (expr c es))) joins is n h = absurd (omega arith)

one_closed : (ts rest : List Token) → ts ++ fixed marks.RightParen ∷ rest ≡ ((ts ++ []) ++ fixed marks.RightParen ∷ []) ++ rest
one_closed ts rest = simp (append_assoc, append-nil)

pub cast_applied : (width : ℕ) (args : SurfaceExprs) → count args ≡ 1 → AllSpelled args → Spelled (apply ops.Cast width args)
cast_applied width no_expr n h = absurd (omega arith)
cast_applied width (expr a no_expr) n (h, none) =
    prim_spelled (apply ops.Cast width (one a)) refl refl
    (λ rest.
    let P : List Token → Type 0 = λ ts. IsPrim (apply ops.Cast width (one a))
    (fixed marks.Cast ∷ fixed marks.LeftParen ∷ number width ∷ fixed marks.Comma ∷ ts) rest in
    subst P (one_closed (expr_tokens a) rest) (is_cast (h.whole (fixed marks.RightParen ∷ rest))))
cast_applied width (expr a (expr b es)) n h = absurd (omega arith)

three_tokens : (a b c : SurfaceExpr) (rest : List Token)
    → expr_tokens a ++ fixed marks.Comma ∷ (expr_tokens b ++ fixed marks.Comma ∷ (expr_tokens c ++ fixed marks.RightParen ∷ rest))
    ≡ (exprs_tokens (three a b c) ++ fixed marks.RightParen ∷ []) ++ rest
three_tokens a b c rest = simp (append_assoc, append-nil)

-- an operator that is written with its three operands in brackets, which the grammar reads so
pub three_applied : (op : Op) (m : Mark) (args : SurfaceExprs) → count args ≡ 3 → expr_tokens (apply op 0 args) ≡ fixed m ∷ in_brackets (exprs_tokens args)
    → AllSpelled args
    → ((a b c : SurfaceExpr) (ts us vs rest : List Token) → IsExpr a ts (fixed marks.Comma ∷ us) → IsExpr b us (fixed marks.Comma ∷ vs)
    → IsExpr c vs (fixed marks.RightParen ∷ rest) → IsPrim (apply op 0 (three a b c)) (fixed m ∷ fixed marks.LeftParen ∷ ts) rest)
    → has_infix (apply op 0 args) ≡ false → is_turned (apply op 0 args) ≡ false → Spelled (apply op 0 args)
three_applied op m no_expr n is h reads plain straight = absurd (omega arith)
three_applied op m (expr a no_expr) n is h reads plain straight = absurd (omega arith)
three_applied op m (expr a (expr b no_expr)) n is h reads plain straight = absurd (omega arith)
three_applied op m (expr a (expr b (expr c no_expr))) n is (f, (g, (h, none))) reads plain straight =
    prim_spelled (apply op 0 (three a b c)) plain straight
    (λ rest.
    let P : List Token → Type 0 = λ ts. IsPrim (apply op 0 (three a b c)) ts rest in
    let same = ap (λ ts. fixed m ∷ fixed marks.LeftParen ∷ ts) (three_tokens a b c rest) ∙ ap (λ ts. ts ++ rest) (sym is) in
    subst P same (reads a b c _ _ _ rest (f.whole _) (g.whole _) (h.whole (fixed marks.RightParen ∷ rest))))
three_applied op m (expr a (expr b (expr c (expr d es)))) n is h reads plain straight = absurd (omega arith)

-- ## Lists

pub are_spelled : (es : SurfaceExprs) (close : Mark) (rest : List Token) → 0 < count es → AllSpelled es
    → AreExprs es close (exprs_tokens es ++ fixed close ∷ rest) rest
are_spelled no_expr close rest some h = absurd (omega arith)
are_spelled (expr e no_expr) close rest some (h, none) =
    let P : List Token → Type 0 = λ ts. AreExprs (one e) close ts rest in
    subst P (simp append-nil) (are_last (h.whole (fixed close ∷ rest)))
are_spelled (expr e (expr f es)) close rest some (h, hs) =
    let P : List Token → Type 0 = λ ts. AreExprs (expr e (expr f es)) close ts rest in
    subst P (simp append_assoc)
    (are_more (h.whole (fixed marks.Comma ∷ (exprs_tokens (expr f es) ++ fixed close ∷ rest))) (are_spelled (expr f es) close rest (omega arith) hs))

pub keys_spelled : (es : SurfaceExprs) (rest : List Token) → AllSpelled es → AreKeys es (exprs_tokens es ++ fixed marks.RightBracket ∷ rest) rest
keys_spelled no_expr rest h = are_no_keys
keys_spelled (expr e es) rest h = are_keys (are_spelled (expr e es) marks.RightBracket rest (omega arith) h)
