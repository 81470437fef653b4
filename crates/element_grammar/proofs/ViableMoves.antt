-- What completes the stack behind a token completes, with the token in front, the stack before it.
use Rattle.std.proofs.Common.{◌≡◌, ℕ, Bool, true, false, List, [], ◌∷◌, ◌++◌, Option, Some, None, refl, sym, ap, subst, ◌∙◌, append_assoc, append-nil, if◌then◌else◌}
use Rattle.gal_bits.specs.declared.op.Op.{Op}
use Rattle.packet_fields.specs.declared.field.Field.{Field}
use Rattle.element_lang.specs.declared.mark.Mark.{Mark}
use Rattle.element_lang.specs.declared.mark.Mark.TheVariants as marks
use Rattle.element_lang.specs.Token.{Token, fixed, number, name, field}
use Rattle.element_lang.specs.Grammar.{infix_of, shift_of, is_literal, is_name, is_field, is_in_brackets, is_byte, is_cast, is_select, is_adjust, is_prim, is_not, are_no_keys, are_no_names, are_names}
use Rattle.element_lang.specs.Grammar.{is_let, is_assign, is_set_field, is_look, is_put, is_del, is_if, is_repeat, is_send, is_drop, is_absent, is_else, is_end}
use Rattle.element_lang.specs.Grammar.{is_last_width, is_width_and_more, is_last_literal, is_literal_and_more, are_no_rows, are_rows, is_table, is_map, is_vector, is_int, is_process, is_declared}
use Rattle.element_grammar.specs.Machine.{Awaited, mark, some_number, some_name, prim, unary, expr, operand, exprs, more_exprs, keys, names, stmt, otherwise, body, widths, more_widths, literals, more_literals, rows, middlebox}
use Rattle.element_grammar.specs.Machine.{Move, push, skip, refuse, starts, starts_on, is_mark, infix_at, shift_at, prim_after, unary_after, operand_move, keys_move, names_move, stmt_after, otherwise_move, body_move, widths_move, more_widths_move, literals_move, more_literals_move, rows_move, middlebox_move, move_at}
use Rattle.element_grammar.proofs.Marks.{mark_passed}
use Rattle.element_grammar.proofs.Viable.{takes_mark, takes_number, takes_name, takes_prim, takes_unary, takes_expr, takes_no_operand, takes_infix, takes_shift, takes_exprs, takes_no_expr, takes_more_exprs, takes_keys, takes_names, takes_stmt, takes_otherwise, takes_body, takes_widths, takes_no_width, takes_more_widths, takes_literals, takes_no_literal, takes_more_literals, takes_rows, takes_middlebox}
use Rattle.element_grammar.proofs.Viable.{Completes, next, as_expr, as_exprs, as_keys, as_body}

-- what a move promises
abbrev pub Keeps : Move → Awaited → Token → Type 0
Keeps (push parts) a t = (below : List Awaited) (ts : List Token) → Completes (parts ++ below) ts → Completes (a ∷ below) (t ∷ ts)
Keeps skip a t = (below : List Awaited) (ts : List Token) → Completes below ts → Completes (a ∷ below) ts
Keeps refuse a t = Unit {0}

-- a move promises for a part what it promises for one with which the part may begin
under : (o : Option (List Awaited)) (more : List Awaited) (a first : Awaited) (t : Token)
    → ((below : List Awaited) (ts : List Token) → Completes (first ∷ (more ++ below)) ts → Completes (a ∷ below) ts)
    → Keeps (starts o []) first t → Keeps (starts o more) a t
under None more a first t f k = tt
under (Some parts) more a first t f k = λ below ts c.
    let P : List Awaited → Type 0 = λ l. Completes l ts in
    f below (t ∷ ts) (k (more ++ below) ts (subst P (append_assoc parts more below ∙ ap (λ l. l ++ (more ++ below)) (sym (append-nil parts))) c))

-- operands
add_literal : {n : ℕ} {below : List Awaited} {ts : List Token} → Completes (mark marks.Colon ∷ some_number ∷ below) ts
    → Completes (prim ∷ below) (number n ∷ ts)
add_literal (next takes_mark (next takes_number c)) = next (takes_prim is_literal) c

add_brackets : {below : List Awaited} {ts : List Token} → Completes (expr ∷ mark marks.RightParen ∷ below) ts
    → Completes (prim ∷ below) (fixed marks.LeftParen ∷ ts)
add_brackets (next (takes_expr p) (next takes_mark c)) = next (takes_prim (is_in_brackets p)) c

add_byte : {below : List Awaited} {ts : List Token} → Completes (mark marks.LeftParen ∷ expr ∷ mark marks.RightParen ∷ below) ts
    → Completes (prim ∷ below) (fixed marks.Byte ∷ ts)
add_byte (next takes_mark (next (takes_expr p) (next takes_mark c))) = next (takes_prim (is_byte p)) c

add_cast : {below : List Awaited} {ts : List Token}
    → Completes (mark marks.LeftParen ∷ some_number ∷ mark marks.Comma ∷ expr ∷ mark marks.RightParen ∷ below) ts
    → Completes (prim ∷ below) (fixed marks.Cast ∷ ts)
add_cast (next takes_mark (next takes_number (next takes_mark (next (takes_expr p) (next takes_mark c))))) = next (takes_prim (is_cast p)) c

add_select : {below : List Awaited} {ts : List Token}
    → Completes (mark marks.LeftParen ∷ expr ∷ mark marks.Comma ∷ expr ∷ mark marks.Comma ∷ expr ∷ mark marks.RightParen ∷ below) ts
    → Completes (prim ∷ below) (fixed marks.Select ∷ ts)
add_select (next takes_mark (next (takes_expr p) (next takes_mark (next (takes_expr q) (next takes_mark (next (takes_expr r) (next takes_mark c))))))) =
    next (takes_prim (is_select p q r)) c

add_adjust : {below : List Awaited} {ts : List Token}
    → Completes (mark marks.LeftParen ∷ expr ∷ mark marks.Comma ∷ expr ∷ mark marks.Comma ∷ expr ∷ mark marks.RightParen ∷ below) ts
    → Completes (prim ∷ below) (fixed marks.Adjust ∷ ts)
add_adjust (next takes_mark (next (takes_expr p) (next takes_mark (next (takes_expr q) (next takes_mark (next (takes_expr r) (next takes_mark c))))))) =
    next (takes_prim (is_adjust p q r)) c

keeps_prim : (t : Token) → Keeps (starts (prim_after t) []) prim t
keeps_prim (number n) = λ below ts c. add_literal c
keeps_prim (name word) = λ below ts c. next (takes_prim is_name) c
keeps_prim (field f) = λ below ts c. next (takes_prim is_field) c
keeps_prim (fixed marks.LeftParen) = λ below ts c. add_brackets c
keeps_prim (fixed marks.Byte) = λ below ts c. add_byte c
keeps_prim (fixed marks.Cast) = λ below ts c. add_cast c
keeps_prim (fixed marks.Select) = λ below ts c. add_select c
keeps_prim (fixed marks.Adjust) = λ below ts c. add_adjust c
keeps_prim _ = tt

add_not : {below : List Awaited} {ts : List Token} → Completes (prim ∷ below) ts → Completes (unary ∷ below) (fixed marks.Tilde ∷ ts)
add_not (next (takes_prim p) c) = next (takes_unary (is_not p)) c

as_unary : {below : List Awaited} {ts : List Token} → Completes (prim ∷ below) ts → Completes (unary ∷ below) ts
as_unary (next (takes_prim p) c) = next (takes_unary (is_prim p)) c

keeps_unary : (t : Token) → Keeps (starts (unary_after t) []) unary t
keeps_unary (fixed marks.Tilde) = λ below ts c. add_not c
keeps_unary t = under (prim_after t) [] unary prim t (λ below ts c. as_unary c) (keeps_prim t)

-- what goes on behind an operand
add_infix : {m : Mark} {op : Op} {below : List Awaited} {ts : List Token} → infix_of m ≡ Some op → Completes (unary ∷ below) ts
    → Completes (operand ∷ below) (fixed m ∷ ts)
add_infix is (next (takes_unary p) c) = next (takes_infix is p) c

add_shift : {m : Mark} {op : Op} {below : List Awaited} {ts : List Token} → shift_of m ≡ Some op → Completes (some_number ∷ below) ts
    → Completes (operand ∷ below) (fixed m ∷ ts)
add_shift is (next takes_number c) = next (takes_shift is) c

keeps_symbol : (m : Mark) (between shifted : Option Op) → infix_of m ≡ between → shift_of m ≡ shifted → Keeps (operand_move between shifted) operand (fixed m)
keeps_symbol m (Some op) shifted is also = λ below ts c. add_infix is c
keeps_symbol m None (Some op) is also = λ below ts c. add_shift also c
keeps_symbol m None None is also = λ below ts c. next takes_no_operand c

keeps_operand : (t : Token) → Keeps (operand_move (infix_at t) (shift_at t)) operand t
keeps_operand (fixed m) = keeps_symbol m (infix_of m) (shift_of m) refl refl
keeps_operand _ = λ below ts c. next takes_no_operand c

-- expressions with commas between them, keys and names
keeps_mark : (m : Mark) (t : Token) (b : Bool) → is_mark m t ≡ b → Keeps (starts_on b []) (mark m) t
keeps_mark m t true e = λ below ts c. let P : Token → Type 0 = λ u. Completes (mark m ∷ below) (u ∷ ts) in subst P (sym (mark_passed m t e)) (next takes_mark c)
keeps_mark m t false e = tt

add_comma : {m : Mark} {below : List Awaited} {ts : List Token} → Completes (exprs m ∷ below) ts → Completes (more_exprs m ∷ below) (fixed marks.Comma ∷ ts)
add_comma (next (takes_exprs p) c) = next (takes_more_exprs p) c

keeps_comma : (m : Mark) (t : Token) (b : Bool) → is_mark marks.Comma t ≡ b → Keeps (starts_on b (exprs m ∷ [])) (more_exprs m) t
keeps_comma m t true e = λ below ts c.
    let P : Token → Type 0 = λ u. Completes (more_exprs m ∷ below) (u ∷ ts) in subst P (sym (mark_passed marks.Comma t e)) (add_comma c)
keeps_comma m t false e = tt

keeps_more_exprs : (m : Mark) (t : Token) (b : Bool) → is_mark m t ≡ b
    → Keeps (if b then push [] else starts_on (is_mark marks.Comma t) (exprs m ∷ [])) (more_exprs m) t
keeps_more_exprs m t true e = λ below ts c.
    let P : Token → Type 0 = λ u. Completes (more_exprs m ∷ below) (u ∷ ts) in subst P (sym (mark_passed m t e)) (next takes_no_expr c)
keeps_more_exprs m t false e = keeps_comma m t (is_mark marks.Comma t) refl

keeps_keys : (t : Token) → Keeps (keys_move t) keys t
keeps_keys (fixed marks.RightBracket) = λ below ts c. next (takes_keys are_no_keys) c
keeps_keys t = under (unary_after t) (operand ∷ more_exprs marks.RightBracket ∷ []) keys unary t (λ below ts c. as_keys c) (keeps_unary t)

add_name : {below : List Awaited} {ts : List Token} → Completes (some_name ∷ names ∷ below) ts → Completes (names ∷ below) (fixed marks.Comma ∷ ts)
add_name (next takes_name (next (takes_names p) c)) = next (takes_names (are_names p)) c

keeps_names : (t : Token) → Keeps (names_move t) names t
keeps_names (fixed marks.Assign) = λ below ts c. next (takes_names are_no_names) c
keeps_names (fixed marks.Comma) = λ below ts c. add_name c
keeps_names _ = tt

-- statements
add_let : {below : List Awaited} {ts : List Token} → Completes (some_name ∷ mark marks.Assign ∷ expr ∷ mark marks.Semicolon ∷ below) ts
    → Completes (stmt ∷ below) (fixed marks.Let ∷ ts)
add_let (next takes_name (next takes_mark (next (takes_expr p) (next takes_mark c)))) = next (takes_stmt (is_let p)) c

add_assign : {word : List ℕ} {below : List Awaited} {ts : List Token} → Completes (mark marks.Assign ∷ expr ∷ mark marks.Semicolon ∷ below) ts
    → Completes (stmt ∷ below) (name word ∷ ts)
add_assign (next takes_mark (next (takes_expr p) (next takes_mark c))) = next (takes_stmt (is_assign p)) c

add_set_field : {f : Field} {below : List Awaited} {ts : List Token} → Completes (mark marks.Assign ∷ expr ∷ mark marks.Semicolon ∷ below) ts
    → Completes (stmt ∷ below) (field f ∷ ts)
add_set_field (next takes_mark (next (takes_expr p) (next takes_mark c))) = next (takes_stmt (is_set_field p)) c

add_look : {below : List Awaited} {ts : List Token}
    → Completes (some_name ∷ names ∷ some_name ∷ mark marks.LeftBracket ∷ keys ∷ mark marks.Semicolon ∷ below) ts
    → Completes (stmt ∷ below) (fixed marks.Look ∷ ts)
add_look (next takes_name (next (takes_names p) (next takes_name (next takes_mark (next (takes_keys q) (next takes_mark c)))))) =
    next (takes_stmt (is_look p q)) c

add_put : {below : List Awaited} {ts : List Token}
    → Completes (some_name ∷ mark marks.Assign ∷ some_name ∷ mark marks.LeftBracket ∷ keys ∷ mark marks.Arrow ∷ exprs marks.Semicolon ∷ below) ts
    → Completes (stmt ∷ below) (fixed marks.Put ∷ ts)
add_put (next takes_name (next takes_mark (next takes_name (next takes_mark (next (takes_keys p) (next takes_mark (next (takes_exprs q) c))))))) =
    next (takes_stmt (is_put p q)) c

add_del : {below : List Awaited} {ts : List Token}
    → Completes (some_name ∷ mark marks.Assign ∷ some_name ∷ mark marks.LeftBracket ∷ keys ∷ mark marks.Semicolon ∷ below) ts
    → Completes (stmt ∷ below) (fixed marks.Del ∷ ts)
add_del (next takes_name (next takes_mark (next takes_name (next takes_mark (next (takes_keys p) (next takes_mark c)))))) =
    next (takes_stmt (is_del p)) c

add_if : {below : List Awaited} {ts : List Token} → Completes (expr ∷ mark marks.LeftBrace ∷ body ∷ otherwise ∷ below) ts
    → Completes (stmt ∷ below) (fixed marks.If ∷ ts)
add_if (next (takes_expr p) (next takes_mark (next (takes_body a) (next (takes_otherwise b) c)))) = next (takes_stmt (is_if p a b)) c

add_repeat : {below : List Awaited} {ts : List Token} → Completes (some_name ∷ some_number ∷ mark marks.LeftBrace ∷ body ∷ below) ts
    → Completes (stmt ∷ below) (fixed marks.Repeat ∷ ts)
add_repeat (next takes_name (next takes_number (next takes_mark (next (takes_body b) c)))) = next (takes_stmt (is_repeat b)) c

add_send : {below : List Awaited} {ts : List Token} → Completes (expr ∷ mark marks.Semicolon ∷ below) ts → Completes (stmt ∷ below) (fixed marks.Send ∷ ts)
add_send (next (takes_expr p) (next takes_mark c)) = next (takes_stmt (is_send p)) c

add_drop : {below : List Awaited} {ts : List Token} → Completes (mark marks.Semicolon ∷ below) ts → Completes (stmt ∷ below) (fixed marks.Drop ∷ ts)
add_drop (next takes_mark c) = next (takes_stmt is_drop) c

keeps_stmt : (t : Token) → Keeps (starts (stmt_after t) []) stmt t
keeps_stmt (fixed marks.Let) = λ below ts c. add_let c
keeps_stmt (name word) = λ below ts c. add_assign c
keeps_stmt (field f) = λ below ts c. add_set_field c
keeps_stmt (fixed marks.Look) = λ below ts c. add_look c
keeps_stmt (fixed marks.Put) = λ below ts c. add_put c
keeps_stmt (fixed marks.Del) = λ below ts c. add_del c
keeps_stmt (fixed marks.If) = λ below ts c. add_if c
keeps_stmt (fixed marks.Repeat) = λ below ts c. add_repeat c
keeps_stmt (fixed marks.Send) = λ below ts c. add_send c
keeps_stmt (fixed marks.Drop) = λ below ts c. add_drop c
keeps_stmt _ = tt

add_else : {below : List Awaited} {ts : List Token} → Completes (mark marks.LeftBrace ∷ body ∷ below) ts → Completes (otherwise ∷ below) (fixed marks.Else ∷ ts)
add_else (next takes_mark (next (takes_body b) c)) = next (takes_otherwise (is_else b)) c

keeps_otherwise : (t : Token) → Keeps (otherwise_move t) otherwise t
keeps_otherwise (fixed marks.Else) = λ below ts c. add_else c
keeps_otherwise _ = λ below ts c. next (takes_otherwise is_absent) c

keeps_body : (t : Token) → Keeps (body_move t) body t
keeps_body (fixed marks.RightBrace) = λ below ts c. next (takes_body is_end) c
keeps_body t = under (stmt_after t) (body ∷ []) body stmt t (λ below ts c. as_body c) (keeps_stmt t)

-- widths, literals and rows
add_width : {w : ℕ} {below : List Awaited} {ts : List Token} → Completes (more_widths ∷ below) ts → Completes (widths ∷ below) (number w ∷ ts)
add_width (next takes_no_width c) = next (takes_widths is_last_width) c
add_width (next (takes_more_widths p) c) = next (takes_widths (is_width_and_more p)) c

add_more_widths : {below : List Awaited} {ts : List Token} → Completes (widths ∷ below) ts → Completes (more_widths ∷ below) (fixed marks.Comma ∷ ts)
add_more_widths (next (takes_widths p) c) = next (takes_more_widths p) c

keeps_widths : (t : Token) → Keeps (widths_move t) widths t
keeps_widths (number n) = λ below ts c. add_width c
keeps_widths _ = tt

keeps_more_widths : (t : Token) → Keeps (more_widths_move t) more_widths t
keeps_more_widths (fixed marks.RightParen) = λ below ts c. next takes_no_width c
keeps_more_widths (fixed marks.Comma) = λ below ts c. add_more_widths c
keeps_more_widths _ = tt

add_one_literal : {v : ℕ} {below : List Awaited} {ts : List Token} → Completes (mark marks.Colon ∷ some_number ∷ more_literals ∷ below) ts
    → Completes (literals ∷ below) (number v ∷ ts)
add_one_literal (next takes_mark (next takes_number (next takes_no_literal c))) = next (takes_literals is_last_literal) c
add_one_literal (next takes_mark (next takes_number (next (takes_more_literals p) c))) = next (takes_literals (is_literal_and_more p)) c

add_more_literals : {below : List Awaited} {ts : List Token} → Completes (literals ∷ below) ts → Completes (more_literals ∷ below) (fixed marks.Comma ∷ ts)
add_more_literals (next (takes_literals p) c) = next (takes_more_literals p) c

keeps_literals : (t : Token) → Keeps (literals_move t) literals t
keeps_literals (number n) = λ below ts c. add_one_literal c
keeps_literals _ = tt

keeps_more_literals : (t : Token) → Keeps (more_literals_move t) more_literals t
keeps_more_literals (fixed marks.RightParen) = λ below ts c. next takes_no_literal c
keeps_more_literals (fixed marks.Comma) = λ below ts c. add_more_literals c
keeps_more_literals _ = tt

add_row : {below : List Awaited} {ts : List Token}
    → Completes (literals ∷ mark marks.Arrow ∷ mark marks.LeftParen ∷ literals ∷ mark marks.Semicolon ∷ rows ∷ below) ts
    → Completes (rows ∷ below) (fixed marks.LeftParen ∷ ts)
add_row (next (takes_literals p) (next takes_mark (next takes_mark (next (takes_literals q) (next takes_mark (next (takes_rows r) c)))))) =
    next (takes_rows (are_rows p q r)) c

keeps_rows : (t : Token) → Keeps (rows_move t) rows t
keeps_rows (fixed marks.RightBrace) = λ below ts c. next (takes_rows are_no_rows) c
keeps_rows (fixed marks.LeftParen) = λ below ts c. add_row c
keeps_rows _ = tt

-- declarations, and the whole
add_table : {below : List Awaited} {ts : List Token}
    → Completes (some_name ∷ mark marks.LeftParen ∷ widths ∷ mark marks.Arrow ∷ mark marks.LeftParen ∷ widths ∷ mark marks.LeftBrace ∷ rows
    ∷ middlebox ∷ below) ts
    → Completes (middlebox ∷ below) (fixed marks.Table ∷ ts)
add_table (next takes_name (next takes_mark (next (takes_widths p) (next takes_mark (next takes_mark (next (takes_widths q)
    (next takes_mark (next (takes_rows r) (next (takes_middlebox m) c))))))))) =
    next (takes_middlebox (is_declared (is_table p q r) m)) c

add_map : {below : List Awaited} {ts : List Token}
    → Completes (some_name ∷ mark marks.LeftParen ∷ widths ∷ mark marks.Arrow ∷ mark marks.LeftParen ∷ widths ∷ mark marks.Capacity
    ∷ some_number ∷ mark marks.Semicolon ∷ middlebox ∷ below) ts
    → Completes (middlebox ∷ below) (fixed marks.Map ∷ ts)
add_map (next takes_name (next takes_mark (next (takes_widths p) (next takes_mark (next takes_mark (next (takes_widths q)
    (next takes_mark (next takes_number (next takes_mark (next (takes_middlebox m) c)))))))))) =
    next (takes_middlebox (is_declared (is_map p q) m)) c

add_vector : {below : List Awaited} {ts : List Token}
    → Completes (some_name ∷ mark marks.Length ∷ some_number ∷ mark marks.Arrow ∷ mark marks.LeftParen ∷ widths ∷ mark marks.Semicolon ∷ middlebox ∷ below) ts
    → Completes (middlebox ∷ below) (fixed marks.Vector ∷ ts)
add_vector (next takes_name (next takes_mark (next takes_number (next takes_mark (next takes_mark
    (next (takes_widths p) (next takes_mark (next (takes_middlebox m) c)))))))) =
    next (takes_middlebox (is_declared (is_vector p) m)) c

add_int : {below : List Awaited} {ts : List Token}
    → Completes (some_name ∷ mark marks.Colon ∷ some_number ∷ mark marks.Assign ∷ some_number ∷ mark marks.Semicolon ∷ middlebox ∷ below) ts
    → Completes (middlebox ∷ below) (fixed marks.Int ∷ ts)
add_int (next takes_name (next takes_mark (next takes_number (next takes_mark (next takes_number (next takes_mark (next (takes_middlebox m) c))))))) =
    next (takes_middlebox (is_declared is_int m)) c

add_process : {below : List Awaited} {ts : List Token} → Completes (mark marks.LeftBrace ∷ body ∷ below) ts
    → Completes (middlebox ∷ below) (fixed marks.Process ∷ ts)
add_process (next takes_mark (next (takes_body b) c)) = next (takes_middlebox (is_process b)) c

keeps_middlebox : (t : Token) → Keeps (middlebox_move t) middlebox t
keeps_middlebox (fixed marks.Process) = λ below ts c. add_process c
keeps_middlebox (fixed marks.Table) = λ below ts c. add_table c
keeps_middlebox (fixed marks.Map) = λ below ts c. add_map c
keeps_middlebox (fixed marks.Vector) = λ below ts c. add_vector c
keeps_middlebox (fixed marks.Int) = λ below ts c. add_int c
keeps_middlebox _ = tt

pub keeps : (a : Awaited) (t : Token) → Keeps (move_at a t) a t
keeps (mark m) t = keeps_mark m t (is_mark m t) refl
keeps some_number (number n) = λ below ts c. next takes_number c
keeps some_number _ = tt
keeps some_name (name word) = λ below ts c. next takes_name c
keeps some_name _ = tt
keeps prim t = keeps_prim t
keeps unary t = keeps_unary t
keeps expr t = under (unary_after t) (operand ∷ []) expr unary t (λ below ts c. as_expr c) (keeps_unary t)
keeps operand t = keeps_operand t
keeps (exprs m) t = under (unary_after t) (operand ∷ more_exprs m ∷ []) (exprs m) unary t (λ below ts c. as_exprs c) (keeps_unary t)
keeps (more_exprs m) t = keeps_more_exprs m t (is_mark m t) refl
keeps keys t = keeps_keys t
keeps names t = keeps_names t
keeps stmt t = keeps_stmt t
keeps otherwise t = keeps_otherwise t
keeps body t = keeps_body t
keeps widths t = keeps_widths t
keeps more_widths t = keeps_more_widths t
keeps literals t = keeps_literals t
keeps more_literals t = keeps_more_literals t
keeps rows t = keeps_rows t
keeps middlebox t = keeps_middlebox t
