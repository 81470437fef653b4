-- Tokens spell one expression.
use Rattle.std.proofs.Common.{◌≡◌, ℕ, true, false, List, [], ◌∷◌, Some, None, refl, sym, ap, subst, nat_eq}
use Rattle.gal_bits.specs.declared.op.Op.{Op}
use Rattle.element_lang.specs.declared.mark.Mark.{Mark}
use Rattle.element_lang.specs.declared.mark.Mark.TheVariants as marks
use Rattle.element_lang.specs.Token.{Token, fixed, number}
use Rattle.element_lang.specs.Surface.{SurfaceExpr, SurfaceExprs}
use Rattle.element_lang.specs.Grammar.{infix_of, shift_of, IsPrim, is_literal, is_name, is_field, is_in_brackets, is_byte, is_cast, is_select, is_adjust, IsUnary, is_prim, is_not, IsExpr, is_unary, is_infix, is_shift, AreExprs, are_last, are_more, AreKeys, are_no_keys, are_keys, AreNames, are_no_names, are_names}
use Rattle.element_grammar.specs.Machine.{code, infix_at, shift_at}
use Rattle.element_grammar.specs.Refused.{NoOperand}
use Rattle.element_grammar.proofs.Runs.{Closes, bracket_closes, shift_no_infix, exprs_no_bracket}

-- the same tree, and the same rest
pub record Same {A : Type 0} (a b : A) (ts us : List Token) : Type 0 where
  pub tree : a ≡ b
  pub rest : ts ≡ us

pub tail : {t u : Token} {ts us : List Token} → t ∷ ts ≡ u ∷ us → ts ≡ us
tail e = cc

pub head : {t u : Token} {ts us : List Token} → t ∷ ts ≡ u ∷ us → t ≡ u
head e = cc

mark_of : {m k : Mark} → fixed m ≡ fixed k → m ≡ k
mark_of e = cc

-- a rest that begins with a symbol is none at which no operand goes on
no_infix : (rest : List Token) (m : Mark) (us : List Token) (op : Op) → rest ≡ fixed m ∷ us → infix_of m ≡ Some op → NoOperand rest → ⊥
no_infix [] m us op e is free = cc
no_infix (t ∷ rest) m us op e is free = let h : infix_at t ≡ infix_of m = ap infix_at (head e) in let none : infix_at t ≡ None = free.0 in cc

no_shift : (rest : List Token) (m : Mark) (us : List Token) (op : Op) → rest ≡ fixed m ∷ us → shift_of m ≡ Some op → NoOperand rest → ⊥
no_shift [] m us op e is free = cc
no_shift (t ∷ rest) m us op e is free = let h : shift_at t ≡ shift_of m = ap shift_at (head e) in let none : shift_at t ≡ None = free.1 in cc

-- a symbol isn't both
no_both : (m k : Mark) (op other : Op) → m ≡ k → infix_of m ≡ Some op → shift_of k ≡ Some other → ⊥
no_both m k op other same is also = let h : infix_of k ≡ None = shift_no_infix k other also in let i : infix_of m ≡ infix_of k = ap infix_of same in cc

no_tilde : {e : SurfaceExpr} {ts rest : List Token} → IsPrim e (fixed marks.Tilde ∷ ts) rest → ⊥
no_tilde p = elim p [ ]

-- a part from the same place
pub expr_from : {e : SurfaceExpr} {ts us rest : List Token} → ts ≡ us → IsExpr e us rest → IsExpr e ts rest
expr_from {e = e} {rest = rest} same p = let P : List Token → Type 0 = λ ts. IsExpr e ts rest in subst P (sym same) p

unary_from : {e : SurfaceExpr} {ts us rest : List Token} → ts ≡ us → IsUnary e us rest → IsUnary e ts rest
unary_from {e = e} {rest = rest} same p = let P : List Token → Type 0 = λ ts. IsUnary e ts rest in subst P (sym same) p

pub exprs_from : {es : SurfaceExprs} {close : Mark} {ts us rest : List Token} → ts ≡ us → AreExprs es close us rest → AreExprs es close ts rest
exprs_from {es = es} {close = close} {rest = rest} same p = let P : List Token → Type 0 = λ ts. AreExprs es close ts rest in subst P (sym same) p

mutual
  pub one_prim : {e d : SurfaceExpr} {ts rest last : List Token} → IsPrim e ts rest → IsPrim d ts last → Same e d rest last
  one_prim is_literal is_literal = record { tree = refl; rest = refl }
  one_prim is_name is_name = record { tree = refl; rest = refl }
  one_prim is_field is_field = record { tree = refl; rest = refl }
  one_prim (is_in_brackets p) (is_in_brackets p') =
      let h = one_expr p p' (refl, refl) (refl, refl) in record { tree = h.tree; rest = tail h.rest }
  one_prim (is_byte p) (is_byte p') =
      let h = one_expr p p' (refl, refl) (refl, refl) in record { tree = cc (h.tree); rest = tail h.rest }
  one_prim (is_cast p) (is_cast p') =
      let h = one_expr p p' (refl, refl) (refl, refl) in record { tree = cc (h.tree); rest = tail h.rest }
  one_prim (is_select p q r) (is_select p' q' r') =
      let h = one_expr p p' (refl, refl) (refl, refl) in
      let i = one_expr q (expr_from (tail h.rest) q') (refl, refl) (refl, refl) in
      let j = one_expr r (expr_from (tail i.rest) r') (refl, refl) (refl, refl) in
      record { tree = cc (h.tree, i.tree, j.tree); rest = tail j.rest }
  one_prim (is_adjust p q r) (is_adjust p' q' r') =
      let h = one_expr p p' (refl, refl) (refl, refl) in
      let i = one_expr q (expr_from (tail h.rest) q') (refl, refl) (refl, refl) in
      let j = one_expr r (expr_from (tail i.rest) r') (refl, refl) (refl, refl) in
      record { tree = cc (h.tree, i.tree, j.tree); rest = tail j.rest }

  pub one_unary : {e d : SurfaceExpr} {ts rest last : List Token} → IsUnary e ts rest → IsUnary d ts last → Same e d rest last
  one_unary (is_prim p) (is_prim p') = one_prim p p'
  one_unary (is_not p) (is_not p') = let h = one_prim p p' in record { tree = cc (h.tree); rest = h.rest }
  one_unary (is_prim p) (is_not p') = absurd (no_tilde p)
  one_unary (is_not p) (is_prim p') = absurd (no_tilde p')

  pub one_expr : {e d : SurfaceExpr} {ts rest last : List Token} → IsExpr e ts rest → IsExpr d ts last → NoOperand rest → NoOperand last → Same e d rest last
  one_expr (is_unary p) (is_unary p') f g = one_unary p p'
  one_expr {rest = rest} (is_unary p) (is_infix {mark = m} {op = op} {us = us} p' is q') f g =
      let h = one_unary p p' in absurd (no_infix rest m us op h.rest is f)
  one_expr {rest = rest} (is_unary p) (is_shift {mark = m} {op = op} {by = by} {rest = us} p' is) f g =
      let h = one_unary p p' in absurd (no_shift rest m (number by ∷ us) op h.rest is f)
  one_expr {last = last} (is_infix {mark = m} {op = op} {us = us} p is q) (is_unary p') f g =
      let h = one_unary p p' in absurd (no_infix last m us op (sym h.rest) is g)
  one_expr (is_infix {mark = m} {op = op} p is q) (is_infix {mark = k} {op = other} p' also q') f g =
      let h = one_unary p p' in
      let i = one_unary q (unary_from (tail h.rest) q') in
      let same : infix_of m ≡ infix_of k = ap infix_of (mark_of (head h.rest)) in
      let o : op ≡ other = cc in
      record { tree = cc (h.tree, i.tree); rest = i.rest }
  one_expr (is_infix {mark = m} {op = op} p is q) (is_shift {mark = k} {op = other} p' also) f g =
      let h = one_unary p p' in absurd (no_both m k op other (mark_of (head h.rest)) is also)
  one_expr {last = last} (is_shift {mark = m} {op = op} {by = by} {rest = us} p is) (is_unary p') f g =
      let h = one_unary p p' in absurd (no_shift last m (number by ∷ us) op (sym h.rest) is g)
  one_expr (is_shift {mark = m} {op = op} p is) (is_infix {mark = k} {op = other} p' also q') f g =
      let h = one_unary p p' in absurd (no_both k m other op (sym (mark_of (head h.rest))) also is)
  one_expr (is_shift {mark = m} {op = op} p is) (is_shift {mark = k} {op = other} p' also) f g =
      let h = one_unary p p' in
      let same : shift_of m ≡ shift_of k = ap shift_of (mark_of (head h.rest)) in
      let o : op ≡ other = cc in
      record { tree = cc (h.tree, h.rest, o); rest = tail (tail h.rest) }

-- the mark that closes expressions is no comma
not_comma : (close : Mark) → Closes close → close ≡ marks.Comma → ⊥
not_comma close c e =
    let h : nat_eq (code close) (code marks.Comma) ≡ true = ap (λ m. nat_eq (code m) (code marks.Comma)) e in
    let i : nat_eq (code close) (code marks.Comma) ≡ false = c.no_comma in
    cc

pub one_exprs : {es ds : SurfaceExprs} {close : Mark} {ts rest last : List Token} → AreExprs es close ts rest → AreExprs ds close ts last → Closes close
    → Same es ds rest last
one_exprs (are_last p) (are_last p') c =
    let h = one_expr p p' (c.no_infix, c.no_shift) (c.no_infix, c.no_shift) in record { tree = cc (h.tree); rest = tail h.rest }
one_exprs {close = close} (are_last p) (are_more p' q') c =
    let h = one_expr p p' (c.no_infix, c.no_shift) (refl, refl) in absurd (not_comma close c (mark_of (head h.rest)))
one_exprs {close = close} (are_more p q) (are_last p') c =
    let h = one_expr p p' (refl, refl) (c.no_infix, c.no_shift) in absurd (not_comma close c (mark_of (sym (head h.rest))))
one_exprs (are_more p q) (are_more p' q') c =
    let h = one_expr p p' (refl, refl) (refl, refl) in
    let i = one_exprs q (exprs_from (tail h.rest) q') c in
    record { tree = cc (h.tree, i.tree); rest = i.rest }

pub one_keys : {es ds : SurfaceExprs} {ts rest last : List Token} → AreKeys es ts rest → AreKeys ds ts last → Same es ds rest last
one_keys are_no_keys are_no_keys = record { tree = refl; rest = refl }
one_keys {rest = rest} are_no_keys (are_keys p') = absurd ((exprs_no_bracket p').none rest refl)
one_keys {last = last} (are_keys p) are_no_keys = absurd ((exprs_no_bracket p).none last refl)
one_keys (are_keys p) (are_keys p') = one_exprs p p' bracket_closes

pub one_names : {ws vs : List (List ℕ)} {ts rest last : List Token} → AreNames ws ts rest → AreNames vs ts last → Same ws vs rest last
one_names are_no_names are_no_names = record { tree = refl; rest = refl }
one_names (are_names p) (are_names p') = let h = one_names p p' in record { tree = cc (h.tree); rest = h.rest }
