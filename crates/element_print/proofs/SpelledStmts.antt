-- Printed statements are spelled by their tokens.
use Rattle.std.proofs.Common.{◌≡◌, ℕ, ◌<◌, List, [], ◌∷◌, ◌++◌, map, length, refl, sym, ap, subst, ◌∙◌, append_assoc}
use Rattle.packet_fields.specs.declared.field.Field.{Field}
use Rattle.element_lang.specs.declared.mark.Mark.TheVariants as marks
use Rattle.element_lang.specs.Token.{Token, fixed, number}
use Rattle.element_lang.specs.Token as tokens
use Rattle.element_lang.specs.Surface.{SurfaceExpr, SurfaceExprs, SurfaceStmt, SurfaceBody, let_local, assign, set_field, look, put, del, choose, repeat, send, drop, done, stmt, unplaced_stmt, unplaced_body}
use Rattle.element_lang.specs.Grammar.{IsExpr, AreNames, are_no_names, are_names, IsStmt, is_let, is_assign, is_set_field, is_look, is_put, is_del, is_if, is_repeat, is_send, is_drop, IsElse, is_absent, is_else, IsBody, is_end, is_more}
use Rattle.element_print.specs.Printed.{expr_tokens, exprs_tokens, stmt_tokens, body_tokens, else_tokens, keyed, behind_each}
use Rattle.element_print.proofs.Spelled.{Spelled, AllSpelled, count, are_spelled, keys_spelled}

-- some placed statement is spelled, which is this one without its places
pub record StmtSpelled (s : SurfaceStmt) : Type 0 where
  pub stands : (rest : List Token) → (placed : SurfaceStmt) × IsStmt placed (stmt_tokens s ++ rest) rest × (unplaced_stmt placed ≡ s)

pub record BodySpelled (b : SurfaceBody) : Type 0 where
  pub stands : (rest : List Token) → (placed : SurfaceBody) × IsBody placed (body_tokens b ++ fixed marks.RightBrace ∷ rest) rest × (unplaced_body placed ≡ b)

-- a value and what closes it
closed : (e : SurfaceExpr) (rest : List Token) → Spelled e → IsExpr e ((expr_tokens e ++ fixed marks.Semicolon ∷ []) ++ rest) (fixed marks.Semicolon ∷ rest)
closed e rest h =
    let P : List Token → Type 0 = λ ts. IsExpr e ts (fixed marks.Semicolon ∷ rest) in
    subst P (sym (append_assoc (expr_tokens e) (fixed marks.Semicolon ∷ []) rest)) (h.whole (fixed marks.Semicolon ∷ rest))

pub let_spelled : (word : List ℕ) (e : SurfaceExpr) → Spelled e → StmtSpelled (let_local word e)
let_spelled word e h = record { stands = λ rest. (let_local word e, is_let (closed e rest h), refl) }

pub assign_spelled : (word : List ℕ) (e : SurfaceExpr) → Spelled e → StmtSpelled (assign word e)
assign_spelled word e h = record { stands = λ rest. (assign word e, is_assign (closed e rest h), refl) }

pub set_field_spelled : (f : Field) (e : SurfaceExpr) → Spelled e → StmtSpelled (set_field f e)
set_field_spelled f e h = record { stands = λ rest. (set_field f e, is_set_field (closed e rest h), refl) }

pub send_spelled : (port : SurfaceExpr) → Spelled port → StmtSpelled (send port)
send_spelled port h = record { stands = λ rest. (send port, is_send (closed port rest h), refl) }

pub drop_spelled : StmtSpelled drop
drop_spelled = record { stands = λ rest. (drop, is_drop, refl) }

names_spelled : (words : List (List ℕ)) (rest : List Token)
    → AreNames words (behind_each marks.Comma (map (λ word. tokens.name word ∷ []) words) ++ fixed marks.Assign ∷ rest) rest
names_spelled [] rest = are_no_names
names_spelled (word ∷ words) rest = are_names (names_spelled words rest)

pub look_spelled : (found object : List ℕ) (into : List (List ℕ)) (keys : SurfaceExprs) → AllSpelled keys → StmtSpelled (look found into object keys)
look_spelled found object into keys h = record {
  stands = λ rest.
      let P : List Token → Type 0 = λ ts. IsStmt (look found into object keys) (fixed marks.Look ∷ tokens.name found ∷ ts) rest in
      let ends : List Token = exprs_tokens keys ++ fixed marks.RightBracket ∷ fixed marks.Semicolon ∷ rest in
      let is = is_look (names_spelled into (tokens.name object ∷ fixed marks.LeftBracket ∷ ends)) (keys_spelled keys (fixed marks.Semicolon ∷ rest) h) in
      let names : List Token = behind_each marks.Comma (map (λ word. tokens.name word ∷ []) into) in
      let from : List Token = fixed marks.Assign ∷ (keyed object keys ++ fixed marks.Semicolon ∷ []) in
      let same_ends : ends ≡ ((exprs_tokens keys ++ fixed marks.RightBracket ∷ []) ++ fixed marks.Semicolon ∷ []) ++ rest = simp append_assoc in
      let same = ap (λ us. names ++ fixed marks.Assign ∷ tokens.name object ∷ fixed marks.LeftBracket ∷ us) same_ends ∙ sym (append_assoc names from rest) in
      (look found into object keys, subst P same is, refl);
}

pub put_spelled : (ok object : List ℕ) (keys values : SurfaceExprs) → 0 < count values → AllSpelled keys → AllSpelled values
    → StmtSpelled (put ok object keys values)
put_spelled ok object keys values some h k = record {
  stands = λ rest.
      let P : List Token → Type 0 = λ ts. IsStmt (put ok object keys values)
      (fixed marks.Put ∷ tokens.name ok ∷ fixed marks.Assign ∷ tokens.name object ∷ fixed marks.LeftBracket ∷ ts) rest in
      let ends : List Token = exprs_tokens values ++ fixed marks.Semicolon ∷ rest in
      let is = is_put (keys_spelled keys (fixed marks.Arrow ∷ ends) h) (are_spelled values marks.Semicolon rest some k) in
      (put ok object keys values, subst P (simp append_assoc) is, refl);
}

pub del_spelled : (was object : List ℕ) (keys : SurfaceExprs) → AllSpelled keys → StmtSpelled (del was object keys)
del_spelled was object keys h = record {
  stands = λ rest.
      let P : List Token → Type 0 = λ ts. IsStmt (del was object keys)
      (fixed marks.Del ∷ tokens.name was ∷ fixed marks.Assign ∷ tokens.name object ∷ fixed marks.LeftBracket ∷ ts) rest in
      (del was object keys, subst P (simp append_assoc) (is_del (keys_spelled keys (fixed marks.Semicolon ∷ rest) h)), refl);
}

else_spelled : (b : SurfaceBody) (rest : List Token) → BodySpelled b
    → (placed : SurfaceBody) × IsElse placed (else_tokens b (body_tokens b) ++ rest) rest × (unplaced_body placed ≡ b)
else_spelled done rest h = (done, is_absent, refl)
else_spelled (stmt at s b) rest h =
    let (placed, is, same) = h.stands rest in
    let P : List Token → Type 0 = λ ts. IsElse placed (fixed marks.Else ∷ fixed marks.LeftBrace ∷ ts) rest in
    (placed, subst P (sym (append_assoc (body_tokens (stmt at s b)) (fixed marks.RightBrace ∷ []) rest)) (is_else is), same)

pub if_spelled : (cond : SurfaceExpr) (first second : SurfaceBody) → Spelled cond → BodySpelled first → BodySpelled second
    → StmtSpelled (choose cond first second)
if_spelled cond first second h f g = record {
  stands = λ rest.
      let ends : List Token = else_tokens second (body_tokens second) ++ rest in
      let (one, is_one, same_one) = f.stands ends in
      let (two, is_two, same_two) = else_spelled second rest g in
      let P : List Token → Type 0 = λ ts. IsStmt (choose cond one two) (fixed marks.If ∷ ts) rest in
      let is = is_if (h.whole (fixed marks.LeftBrace ∷ (body_tokens first ++ fixed marks.RightBrace ∷ ends))) is_one is_two in
      (choose cond one two, subst P (simp append_assoc) is, ap (λ b. choose cond b (unplaced_body two)) same_one ∙ ap (choose cond first) same_two);
}

pub repeat_spelled : (index : List ℕ) (n : ℕ) (body : SurfaceBody) → BodySpelled body → StmtSpelled (repeat index n body)
repeat_spelled index n body h = record {
  stands = λ rest.
      let (placed, is, same) = h.stands rest in
      let P : List Token → Type 0 = λ ts. IsStmt (repeat index n placed)
      (fixed marks.Repeat ∷ tokens.name index ∷ number n ∷ fixed marks.LeftBrace ∷ ts) rest in
      (repeat index n placed, subst P (sym (append_assoc (body_tokens body) (fixed marks.RightBrace ∷ []) rest)) (is_repeat is), ap (repeat index n) same);
}

pub done_spelled : BodySpelled done
done_spelled = record { stands = λ rest. (done, is_end, refl) }

pub stmt_spelled : (s : SurfaceStmt) (b : SurfaceBody) → StmtSpelled s → BodySpelled b → BodySpelled (stmt 0 s b)
stmt_spelled s b h k = record {
  stands = λ rest.
      let ends : List Token = body_tokens b ++ fixed marks.RightBrace ∷ rest in
      let (first, is_first, same_first) = h.stands ends in
      let (others, are_others, same_others) = k.stands rest in
      let ts : List Token = stmt_tokens s ++ ends in
      let P : List Token → Type 0 = λ us. IsBody (stmt (length ts) first others) us rest in (
        stmt (length ts) first others,
        subst P (sym (append_assoc (stmt_tokens s) (body_tokens b) (fixed marks.RightBrace ∷ rest))) (is_more is_first are_others),
        ap (λ s. stmt 0 s (unplaced_body others)) same_first ∙ ap (stmt 0 s) same_others,
      );
}
