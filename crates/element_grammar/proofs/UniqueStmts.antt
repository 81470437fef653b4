-- Tokens spell one block.
use Rattle.std.proofs.Common.{◌≡◌, ℕ, List, [], ◌∷◌, refl, sym, ap, subst}
use Rattle.element_lang.specs.declared.mark.Mark.{Mark}
use Rattle.element_lang.specs.declared.mark.Mark.TheVariants as marks
use Rattle.element_lang.specs.Token.{Token, fixed, name}
use Rattle.element_lang.specs.Surface.{SurfaceExprs, SurfaceStmt, SurfaceBody}
use Rattle.element_lang.specs.Grammar.{AreKeys, IsStmt, is_let, is_assign, is_set_field, is_look, is_put, is_del, is_if, is_repeat, is_send, is_drop, IsElse, is_absent, is_else, IsBody, is_end, is_more}
use Rattle.element_grammar.specs.Machine.{otherwise_move, push, skip, mark, body}
use Rattle.element_grammar.specs.Refused.{NoElse}
use Rattle.element_grammar.proofs.Runs.{free_else, semicolon_closes}
use Rattle.element_grammar.proofs.UniqueExprs.{Same, head, tail, exprs_from, one_expr, one_exprs, one_keys, one_names}

-- a rest that begins with `else` is none that begins with no `else`
no_else : (rest us : List Token) → rest ≡ fixed marks.Else ∷ us → NoElse rest → ⊥
no_else [] us e free = cc
no_else (t ∷ rest) us e free =
    let h : otherwise_move t ≡ push (mark marks.LeftBrace ∷ body ∷ []) = ap otherwise_move (head e) in let none : otherwise_move t ≡ skip = free in cc

no_close : {s : SurfaceStmt} {ts rest : List Token} → IsStmt s (fixed marks.RightBrace ∷ ts) rest → ⊥
no_close p = elim p [ ]

-- a part from the same place
keys_from : {es : SurfaceExprs} {ts us rest : List Token} → ts ≡ us → AreKeys es us rest → AreKeys es ts rest
keys_from {es = es} {rest = rest} same p = let P : List Token → Type 0 = λ ts. AreKeys es ts rest in subst P (sym same) p

pub body_from : {b : SurfaceBody} {ts us rest : List Token} → ts ≡ us → IsBody b us rest → IsBody b ts rest
body_from {b = b} {rest = rest} same p = let P : List Token → Type 0 = λ ts. IsBody b ts rest in subst P (sym same) p

else_from : {b : SurfaceBody} {ts us rest : List Token} → ts ≡ us → IsElse b us rest → IsElse b ts rest
else_from {b = b} {rest = rest} same p = let P : List Token → Type 0 = λ ts. IsElse b ts rest in subst P (sym same) p

-- a name, a bracket, and what stands behind them
named : {word other : List ℕ} {m k : Mark} {ts us : List Token} → name word ∷ fixed m ∷ ts ≡ name other ∷ fixed k ∷ us → word ≡ other
named e = cc

mutual
  pub one_stmt : {s z : SurfaceStmt} {ts rest last : List Token} → IsStmt s ts rest → IsStmt z ts last → NoElse rest → NoElse last → Same s z rest last
  one_stmt (is_let p) (is_let p') f g = let h = one_expr p p' (refl, refl) (refl, refl) in record { tree = cc (h.tree); rest = tail h.rest }
  one_stmt (is_assign p) (is_assign p') f g = let h = one_expr p p' (refl, refl) (refl, refl) in record { tree = cc (h.tree); rest = tail h.rest }
  one_stmt (is_set_field p) (is_set_field p') f g = let h = one_expr p p' (refl, refl) (refl, refl) in record { tree = cc (h.tree); rest = tail h.rest }
  one_stmt (is_look p q) (is_look p' q') f g =
      let h = one_names p p' in
      let i = one_keys q (keys_from (tail (tail h.rest)) q') in
      record { tree = cc (h.tree, named h.rest, i.tree); rest = tail i.rest }
  one_stmt (is_put p q) (is_put p' q') f g =
      let h = one_keys p p' in
      let i = one_exprs q (exprs_from (tail h.rest) q') semicolon_closes in
      record { tree = cc (h.tree, i.tree); rest = i.rest }
  one_stmt (is_del p) (is_del p') f g = let h = one_keys p p' in record { tree = cc (h.tree); rest = tail h.rest }
  one_stmt (is_if p a b) (is_if p' a' b') f g =
      let h = one_expr p p' (refl, refl) (refl, refl) in
      let i = one_body a (body_from (tail h.rest) a') in
      let j = one_else b (else_from i.rest b') f g in
      record { tree = cc (h.tree, i.tree, j.tree); rest = j.rest }
  one_stmt (is_repeat b) (is_repeat b') f g = let h = one_body b b' in record { tree = cc (h.tree); rest = h.rest }
  one_stmt (is_send p) (is_send p') f g = let h = one_expr p p' (refl, refl) (refl, refl) in record { tree = cc (h.tree); rest = tail h.rest }
  one_stmt is_drop is_drop f g = record { tree = refl; rest = refl }

  pub one_else : {b c : SurfaceBody} {ts rest last : List Token} → IsElse b ts rest → IsElse c ts last → NoElse rest → NoElse last → Same b c rest last
  one_else is_absent is_absent f g = record { tree = refl; rest = refl }
  one_else {rest = rest} is_absent (is_else {ts = us} p') f g = absurd (no_else rest (fixed marks.LeftBrace ∷ us) refl f)
  one_else {last = last} (is_else {ts = us} p) is_absent f g = absurd (no_else last (fixed marks.LeftBrace ∷ us) refl g)
  one_else (is_else p) (is_else p') f g = one_body p p'

  pub one_body : {b c : SurfaceBody} {ts rest last : List Token} → IsBody b ts rest → IsBody c ts last → Same b c rest last
  one_body is_end is_end = record { tree = refl; rest = refl }
  one_body is_end (is_more s' b') = absurd (no_close s')
  one_body (is_more s b) is_end = absurd (no_close s)
  one_body (is_more s b) (is_more s' b') =
      let h = one_stmt s s' (free_else b) (free_else b') in
      let i = one_body b (body_from h.rest b') in
      record { tree = cc (h.tree, i.tree); rest = i.rest }
