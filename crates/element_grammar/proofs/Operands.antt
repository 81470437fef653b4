-- How an expression is made of its pieces, and what it misses where a piece is missing.
use Rattle.std.proofs.Common.{◌≡◌, ℕ, suc, List, [], ◌∷◌, length, Some, None, refl, sym, ap, subst, ◌∙◌, if◌then◌else◌}
use Rattle.gal_bits.specs.declared.op.Op.{Op}
use Rattle.gal_bits.specs.declared.op.Op.TheVariants as ops
use Rattle.packet_fields.specs.declared.field.Field.{Field}
use Rattle.element_lang.specs.declared.mark.Mark.{Mark}
use Rattle.element_lang.specs.declared.mark.Mark.TheVariants as marks
use Rattle.element_lang.specs.Token.{Token, fixed, number}
use Rattle.element_lang.specs.Token as tokens
use Rattle.element_lang.specs.Surface.{SurfaceExpr, SurfaceExprs, lit, name, field, byte, shift, apply, no_expr}
use Rattle.element_lang.specs.Grammar.{infix_of, shift_of, one, two, three, IsPrim, is_literal, is_name, is_field, is_in_brackets, is_byte, is_cast, is_select}
use Rattle.element_lang.specs.Grammar.{is_adjust, IsUnary, is_prim, is_not, IsExpr, is_unary, is_infix, is_shift, AreExprs, are_last, are_more, AreKeys}
use Rattle.element_lang.specs.Grammar.{are_no_keys, are_keys}
use Rattle.element_grammar.specs.declared.error.ParseError.{ParseError}
use Rattle.element_grammar.specs.Surface.{exprs_of}
use Rattle.element_grammar.specs.Machine.{Awaited, mark, some_number, prim, unary, expr, operand, exprs, more_exprs, keys, push, starts_on, is_mark, prim_after}
use Rattle.element_grammar.specs.Machine.{unary_after, starts, after, step, when_it_fits, left_at}
use Rattle.element_grammar.specs.Refused.{Misses, NoMark, NoMarks, NoOperand, FoundOperand, FoundExpr, FoundBetween, FoundThree}
use Rattle.element_grammar.proofs.Runs.{skip_operand, as_unary, as_expr, keys_as_exprs, pushed, pushed_shift, reads_unary}
use Rattle.element_grammar.proofs.Pieces.{moved, memory, onward, behind, first, first_two, past_mark, past_number_then, past_expr, past_expr_then, past_between}
use Rattle.element_grammar.proofs.Pieces.{begun, not_begun, at_end, mark_way, fails, as_mark}
use Rattle.element_grammar.proofs.Loops.{Sofar, sofar_none, sofar_misses}

-- ## Operands

pub made_literal : {e : SurfaceExpr} {value width : ℕ} {ts us rest : List Token} → e ≡ lit value width → ts ≡ fixed marks.Colon ∷ us → us ≡ number width ∷ rest
    → IsPrim e (number value ∷ ts) rest
made_literal {value = value} tree p q = moved IsPrim tree (ap (λ l. number value ∷ l) (p ∙ ap (λ l. fixed marks.Colon ∷ l) q)) refl is_literal

pub made_local : {e : SurfaceExpr} {word : List ℕ} {ts rest : List Token} → e ≡ name word → ts ≡ tokens.name word ∷ rest → IsPrim e ts rest
made_local tree p = moved IsPrim tree p refl is_name

pub made_field : {e : SurfaceExpr} {f : Field} {ts rest : List Token} → e ≡ field f → ts ≡ tokens.field f ∷ rest → IsPrim e ts rest
made_field tree p = moved IsPrim tree p refl is_field

pub made_behind : {e : SurfaceExpr} {t : Token} {ts us rest : List Token} → ts ≡ t ∷ us → IsPrim e (t ∷ us) rest → IsPrim e ts rest
made_behind p = moved IsPrim refl p refl

pub made_brackets : {e : SurfaceExpr} {ts us rest : List Token} → ts ≡ fixed marks.LeftParen ∷ us → FoundExpr e us (fixed marks.RightParen ∷ rest)
    → IsPrim e ts rest
made_brackets p inner = moved IsPrim refl p refl (is_in_brackets inner.spelled)

pub made_byte : {e x : SurfaceExpr} {ts rest : List Token} → e ≡ byte x → FoundBetween marks.LeftParen marks.RightParen x ts rest
    → IsPrim e (fixed marks.Byte ∷ ts) rest
made_byte tree p = moved IsPrim tree (ap (λ l. fixed marks.Byte ∷ l) p.begins) refl (is_byte p.found.spelled)

pub made_cast : {e x : SurfaceExpr} {width : ℕ} {ts us vs rest : List Token} → e ≡ apply ops.Cast width (one x) → ts ≡ fixed marks.LeftParen ∷ us
    → us ≡ number width ∷ fixed marks.Comma ∷ vs → FoundExpr x vs (fixed marks.RightParen ∷ rest) → IsPrim e (fixed marks.Cast ∷ ts) rest
made_cast tree p q inner =
    moved IsPrim tree (ap (λ l. fixed marks.Cast ∷ l) (p ∙ ap (λ l. fixed marks.LeftParen ∷ l) q)) refl (is_cast inner.spelled)

pub made_three : {e a b c : SurfaceExpr} {op : Op} {ts us vs rest : List Token} → e ≡ apply op 0 (three a b c)
    → FoundBetween marks.LeftParen marks.Comma a ts us
    → FoundExpr b us (fixed marks.Comma ∷ vs) → FoundExpr c vs (fixed marks.RightParen ∷ rest) → FoundThree op e ts rest
made_three {a = a} {b = b} {c = c} {us = us} {vs = vs} tree p q r = record {
  a = a;
  b = b;
  c = c;
  us = p.inside;
  vs = us;
  ws = vs;
  tree = tree;
  begins = p.begins;
  first = p.found.spelled;
  second = q.spelled;
  third = r.spelled;
}

pub made_select : {e : SurfaceExpr} {ts us rest : List Token} → ts ≡ fixed marks.Select ∷ us → FoundThree ops.Select e us rest → IsPrim e ts rest
made_select p h = moved IsPrim h.tree (p ∙ ap (λ l. fixed marks.Select ∷ l) h.begins) refl (is_select h.first h.second h.third)

pub made_adjust : {e : SurfaceExpr} {ts us rest : List Token} → ts ≡ fixed marks.Adjust ∷ us → FoundThree ops.Adjust e us rest → IsPrim e ts rest
made_adjust p h = moved IsPrim h.tree (p ∙ ap (λ l. fixed marks.Adjust ∷ l) h.begins) refl (is_adjust h.first h.second h.third)

pub made_prim : {e : SurfaceExpr} {ts rest : List Token} → IsPrim e ts rest → IsUnary e ts rest
made_prim p = is_prim p

pub made_not : {e x : SurfaceExpr} {ts us rest : List Token} → e ≡ apply ops.Not 0 (one x) → ts ≡ fixed marks.Tilde ∷ us → IsPrim x us rest → IsUnary e ts rest
made_not tree p q = moved IsUnary tree p refl (is_not q)

-- no sign stands in front
same_after : (t : Token) → (t ≡ fixed marks.Tilde → ⊥) → unary_after t ≡ prim_after t
same_after (fixed marks.Tilde) free = absurd (free refl)
same_after _ free = refl

as_plain : (ts : List Token) → NoMark marks.Tilde ts → (below : List Awaited) → left_at (unary ∷ below) ts ≡ left_at (prim ∷ below) ts
as_plain [] free below = refl
as_plain (t ∷ ts) free below =
    ap (λ o. when_it_fits (after (starts o []) below (step below t)) (λ stack. left_at stack ts) (suc (length ts)))
    (same_after t (λ e. free.none ts (ap (λ u. u ∷ ts) e)))

pub no_plain : {ts : List Token} {e : ParseError} → NoMark marks.Tilde ts → Misses (prim ∷ []) ts e → Misses (unary ∷ []) ts e
no_plain {ts = ts} free = onward (as_plain ts free)

pub no_turned : {ts us : List Token} {e : ParseError} → ts ≡ fixed marks.Tilde ∷ us → Misses (prim ∷ []) us e → Misses (unary ∷ []) ts e
no_turned is = onward (λ below. ap (left_at (unary ∷ below)) is)

-- ## Behind an operand

pub found_alone : {a : SurfaceExpr} {ts : List Token} → NoOperand ts → FoundOperand a a ts ts
found_alone {ts = ts} free = record {
  spelled = λ before p. is_unary p;
  reads = record { way = skip_operand ts free };
}

-- where no mark stands in front, or one that is no symbol
pub no_symbol : {ts : List Token} → NoMarks ts → NoOperand ts
no_symbol {ts = ts} free = by_first ts free
  where
    by_first : (ts : List Token) → NoMarks ts → NoOperand ts
    by_first [] free = tt
    by_first (fixed m ∷ ts) free = absurd (free.none m ts refl)
    by_first (t ∷ ts) free = (refl, refl)

pub other_mark : {m : Mark} {ts us : List Token} → ts ≡ fixed m ∷ us → infix_of m ≡ None → shift_of m ≡ None → NoOperand ts
other_mark e p q = let P : List Token → Type 0 = λ l. NoOperand l in subst P (sym e) (p, q)

pub found_infix : {a b e : SurfaceExpr} {m : Mark} {op : Op} {ts us rest : List Token} → e ≡ apply op 0 (two a b) → ts ≡ fixed m ∷ us → infix_of m ≡ Some op
    → IsUnary b us rest
    → FoundOperand a e ts rest
found_infix {a = a} {m = m} {op = op} {us = us} tree p is q = record {
  spelled = λ before h. moved IsExpr tree refl refl (is_infix (moved IsUnary refl refl (sym p) h) is q);
  reads = record { way = λ below. ap (left_at (operand ∷ below)) p ∙ pushed (fixed m) us op is below ∙ reads_unary q below };
}

pub found_shift : {a e : SurfaceExpr} {m : Mark} {op : Op} {by : ℕ} {ts us rest : List Token} → e ≡ shift op by a → ts ≡ fixed m ∷ us → shift_of m ≡ Some op
    → us ≡ number by ∷ rest
    → FoundOperand a e ts rest
found_shift {m = m} {op = op} {us = us} tree p is q = record {
  spelled = λ before h. moved IsExpr tree refl refl (is_shift (moved IsUnary refl refl (sym (p ∙ ap (λ l. fixed m ∷ l) q)) h) is);
  reads = record { way = λ below. ap (left_at (operand ∷ below)) p ∙ pushed_shift m us op is below ∙ ap (left_at (some_number ∷ below)) q };
}

pub no_right : {m : Mark} {op : Op} {ts us : List Token} {e : ParseError} → ts ≡ fixed m ∷ us → infix_of m ≡ Some op → Misses (unary ∷ []) us e
    → Misses (operand ∷ []) ts e
no_right {m = m} {op = op} {us = us} p is = onward (λ below. ap (left_at (operand ∷ below)) p ∙ pushed (fixed m) us op is below)

pub no_count : {m : Mark} {op : Op} {ts us : List Token} {e : ParseError} → ts ≡ fixed m ∷ us → shift_of m ≡ Some op → Misses (some_number ∷ []) us e
    → Misses (operand ∷ []) ts e
no_count {m = m} {op = op} {us = us} p is = onward (λ below. ap (left_at (operand ∷ below)) p ∙ pushed_shift m us op is below)

-- ## Expressions

pub found_expr : {a e : SurfaceExpr} {ts us rest : List Token} → IsUnary a ts us → FoundOperand a e us rest → FoundExpr e ts rest
found_expr {ts = ts} p h = record {
  spelled = h.spelled ts p;
  reads = record { way = λ below. as_unary ts below ∙ reads_unary p (operand ∷ below) ∙ h.reads.way below };
}

pub no_left : {ts : List Token} {e : ParseError} → Misses (unary ∷ []) ts e → Misses (expr ∷ []) ts e
no_left {ts = ts} m = onward (as_unary ts) (first {more = operand ∷ []} m)

pub no_operand : {a : SurfaceExpr} {ts us : List Token} {e : ParseError} → IsUnary a ts us → Misses (operand ∷ []) us e → Misses (expr ∷ []) ts e
no_operand {ts = ts} p = onward (λ below. as_unary ts below ∙ reads_unary p (operand ∷ below))

pub found_then : {e : SurfaceExpr} {m : Mark} {ts us rest : List Token} → FoundExpr e ts us → us ≡ fixed m ∷ rest → FoundExpr e ts (fixed m ∷ rest)
found_then {e = e} {ts = ts} p is = let P : List Token → Type 0 = λ l. FoundExpr e ts l in subst P is p

pub found_between : {e : SurfaceExpr} {m k : Mark} {ts us rest : List Token} → ts ≡ fixed m ∷ us → FoundExpr e us (fixed k ∷ rest) → FoundBetween m k e ts rest
found_between {us = us} is p = record { inside = us; begins = is; found = p }

-- ## Lists of expressions

-- where the mark that closes them doesn't stand in front, only a comma may
more_but : (close : Mark) (ts : List Token) → NoMark close ts → (below : List Awaited)
    → left_at (more_exprs close ∷ below) ts ≡ left_at (mark marks.Comma ∷ exprs close ∷ below) ts
more_but close ts free =
    as_mark (more_exprs close) marks.Comma (exprs close ∷ []) ts
    (λ t us e. ap (λ b. if b then push [] else starts_on (is_mark marks.Comma t) (exprs close ∷ [])) (fails (there t us e))) refl
  where
    there : (t : Token) (us : List Token) → ts ≡ t ∷ us → NoMark close (t ∷ us)
    there t us e = let P : List Token → Type 0 = λ l. NoMark close l in subst P e free

abbrev pub are_exprs : Mark → List SurfaceExpr → List Token → List Token → Type 0
are_exprs close es ts rest = AreExprs (exprs_of es) close ts rest

pub one_more_expr : {e : SurfaceExpr} {close : Mark} {ts us next : List Token} → FoundExpr e ts us → NoMark close us → us ≡ fixed marks.Comma ∷ next
    → Sofar (exprs close) (are_exprs close) (e ∷ []) ts next
one_more_expr {close = close} {ts = ts} {us = us} {next = next} p free is = record {
  reads = λ below.
      as_expr close ts below ∙ p.reads.way (more_exprs close ∷ below) ∙ more_but close us free below
      ∙ ap (left_at (mark marks.Comma ∷ exprs close ∷ below)) is ∙ mark_way marks.Comma next (exprs close ∷ below);
  whole = λ es rest q. are_more (moved IsExpr refl refl (sym is) p.spelled) q;
}

pub last_expr : {e : SurfaceExpr} {close : Mark} {ts us rest : List Token} → FoundExpr e ts us → us ≡ fixed close ∷ rest → AreExprs (one e) close ts rest
last_expr p is = are_last (moved IsExpr refl refl (sym is) p.spelled)

pub no_next_expr : {close : Mark} {ts : List Token} {e : ParseError} → Misses (expr ∷ []) ts e → Misses (exprs close ∷ []) ts e
no_next_expr {close = close} {ts = ts} m = onward (as_expr close ts) (first {more = more_exprs close ∷ []} m)

pub no_comma : {x : SurfaceExpr} {close : Mark} {ts us : List Token} {e : ParseError} → FoundExpr x ts us → NoMark close us
    → Misses (mark marks.Comma ∷ []) us e
    → Misses (exprs close ∷ []) ts e
no_comma {close = close} {ts = ts} {us = us} p free m =
    onward (λ below. as_expr close ts below ∙ p.reads.way (more_exprs close ∷ below) ∙ more_but close us free below) (first {more = exprs close ∷ []} m)

pub made_no_keys : {es : SurfaceExprs} {ts rest : List Token} → es ≡ no_expr → ts ≡ fixed marks.RightBracket ∷ rest → AreKeys es ts rest
made_no_keys tree p = moved AreKeys tree p refl are_no_keys

pub made_keys : {es : SurfaceExprs} {ts rest : List Token} → AreExprs es marks.RightBracket ts rest → AreKeys es ts rest
made_keys p = are_keys p

pub no_keys : {ts : List Token} {e : ParseError} → NoMark marks.RightBracket ts → Misses (exprs marks.RightBracket ∷ []) ts e → Misses (keys ∷ []) ts e
no_keys {ts = ts} free = onward (keys_as_exprs ts free)

pub ruleset operands = (
  memory,
  behind,
  first,
  first_two,
  past_mark,
  past_number_then,
  past_expr,
  past_expr_then,
  past_between,
  begun,
  not_begun,
  at_end,
  made_literal,
  made_local,
  made_field,
  made_behind,
  made_brackets,
  made_byte,
  made_cast,
  made_three,
  made_select,
  made_adjust,
  made_prim,
  made_not,
  no_plain,
  no_turned,
  found_alone,
  no_symbol,
  other_mark,
  found_infix,
  found_shift,
  no_right,
  no_count,
  found_expr,
  no_left,
  no_operand,
  found_then,
  found_between,
)

pub ruleset lists = (memory, sofar_none, sofar_misses, one_more_expr, last_expr, no_next_expr, no_comma, made_no_keys, made_keys, no_keys)
