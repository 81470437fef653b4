-- How a statement is made of its pieces, and what it misses where a piece is missing.
use Rattle.std.proofs.Common.{◌≡◌, ℕ, suc, List, [], ◌∷◌, length, refl, sym, ap, subst, ◌∙◌}
use Rattle.packet_fields.specs.declared.field.Field.{Field}
use Rattle.element_lang.specs.declared.mark.Mark.TheVariants as marks
use Rattle.element_lang.specs.Token.{Token, fixed, number, name, field}
use Rattle.element_lang.specs.Surface.{SurfaceExpr, SurfaceExprs, SurfaceStmt, SurfaceBody, let_local, assign, set_field, look, put, del, choose, repeat, send}
use Rattle.element_lang.specs.Surface.{drop, done}
use Rattle.element_lang.specs.Surface.{stmt as placed}
use Rattle.element_lang.specs.Grammar.{AreExprs, AreKeys, AreNames, are_no_names, are_names, IsStmt, is_let, is_assign, is_set_field, is_look, is_put, is_del}
use Rattle.element_lang.specs.Grammar.{is_if, is_repeat, is_send, is_drop, IsElse, is_absent, is_else, IsBody, is_end, is_more}
use Rattle.element_grammar.specs.declared.error.ParseError.{ParseError}
use Rattle.element_grammar.specs.declared.surface.At.{At}
use Rattle.element_grammar.specs.Surface.{body_of}
use Rattle.element_grammar.specs.Machine.{Awaited, mark, some_name, exprs, keys, names, stmt, otherwise, body, skip, starts, starts_on, is_mark, stmt_after}
use Rattle.element_grammar.specs.Machine.{names_move, body_move, otherwise_move, after, step, when_it_fits, left_at}
use Rattle.element_grammar.specs.Refused.{Misses, NoMark, NoElse, FoundExpr, FoundBetween, FoundEntry, FoundStmt, FoundElse}
use Rattle.element_grammar.proofs.Runs.{semicolon_closes, starts_more, skip_else, reads_keys, reads_exprs, reads_names, reads_body}
use Rattle.element_grammar.proofs.Pieces.{moved, memory, onward, behind, first, first_two, first_three, past_mark, past_number_then, past_name}
use Rattle.element_grammar.proofs.Pieces.{past_name_then, past_expr_then, past_between, past_names, past_entry, past_body, begun, not_begun, at_end}
use Rattle.element_grammar.proofs.Pieces.{as_mark}
use Rattle.element_grammar.proofs.Loops.{Sofar, sofar_none, sofar_misses}

-- ## Names

names_but : (t : Token) → (t ≡ fixed marks.Assign → ⊥) → names_move t ≡ starts_on (is_mark marks.Comma t) (some_name ∷ names ∷ [])
names_but (fixed marks.Assign) free = absurd (free refl)
names_but (fixed marks.Comma) free = refl
names_but _ free = refl

-- where `=` doesn't stand in front, only a comma and a name may
as_comma : (ts : List Token) → NoMark marks.Assign ts → (below : List Awaited)
    → left_at (names ∷ below) ts ≡ left_at (mark marks.Comma ∷ some_name ∷ names ∷ below) ts
as_comma ts free = as_mark names marks.Comma (some_name ∷ names ∷ []) ts (λ t us e. names_but t (λ is. free.none us (e ∙ ap (λ u. u ∷ us) is))) refl

pub one_more_name : {word : List ℕ} {ts us next : List Token} → ts ≡ fixed marks.Comma ∷ us → us ≡ name word ∷ next → Sofar names AreNames (word ∷ []) ts next
one_more_name {word = word} p q =
    let whole = p ∙ ap (λ l. fixed marks.Comma ∷ l) q in
    record {
      reads = λ below. ap (left_at (names ∷ below)) whole;
      whole = λ words rest h. moved AreNames refl whole refl (are_names h);
    }

pub end_of_names : {ts rest : List Token} → ts ≡ fixed marks.Assign ∷ rest → AreNames [] ts rest
end_of_names p = moved AreNames refl p refl are_no_names

pub no_comma : {ts : List Token} {e : ParseError} → NoMark marks.Assign ts → Misses (mark marks.Comma ∷ []) ts e → Misses (names ∷ []) ts e
no_comma {ts = ts} free m = onward (as_comma ts free) (first {more = some_name ∷ names ∷ []} m)

pub no_name : {ts us : List Token} {e : ParseError} → ts ≡ fixed marks.Comma ∷ us → Misses (some_name ∷ []) us e → Misses (names ∷ []) ts e
no_name p m = behind p (begun refl (first {more = names ∷ []} m))

pub ruleset lists_of_names = (memory, sofar_none, sofar_misses, end_of_names, no_comma, no_name)

-- ## An object and its keys

pub found_entry : {object : List ℕ} {es : SurfaceExprs} {ts us rest : List Token} → ts ≡ name object ∷ fixed marks.LeftBracket ∷ us → AreKeys es us rest
    → FoundEntry object es ts rest
found_entry {us = us} p q = record { inside = us; begins = p; keys_found = q }

pub ruleset entries = (memory, first_two, past_name_then, found_entry)

-- ## Statements

-- a statement that begins with this token, where what it awaits behind that is read
found : {s o : SurfaceStmt} {ts us rest : List Token} → s ≡ o → ts ≡ us → IsStmt o us rest
    → ((below : List Awaited) → left_at (stmt ∷ below) us ≡ left_at below rest)
    → FoundStmt s ts rest
found tree p q way = record {
  spelled = moved IsStmt tree p refl q;
  reads = record { way = λ below. ap (left_at (stmt ∷ below)) p ∙ way below };
}

pub found_let : {s : SurfaceStmt} {word : List ℕ} {x : SurfaceExpr} {ts us rest : List Token} → s ≡ let_local word x → ts ≡ name word ∷ us
    → FoundBetween marks.Assign marks.Semicolon x us rest → FoundStmt s (fixed marks.Let ∷ ts) rest
found_let {word = word} tree p q =
    found tree (ap (λ l. fixed marks.Let ∷ l) (p ∙ ap (λ l. name word ∷ l) q.begins)) (is_let q.found.spelled)
    (λ below. q.found.reads.way (mark marks.Semicolon ∷ below))

pub found_assign : {s : SurfaceStmt} {word : List ℕ} {x : SurfaceExpr} {ts rest : List Token} → s ≡ assign word x
    → FoundBetween marks.Assign marks.Semicolon x ts rest
    → FoundStmt s (name word ∷ ts) rest
found_assign {word = word} tree q =
    found tree (ap (λ l. name word ∷ l) q.begins) (is_assign q.found.spelled) (λ below. q.found.reads.way (mark marks.Semicolon ∷ below))

pub found_set_field : {s : SurfaceStmt} {f : Field} {x : SurfaceExpr} {ts rest : List Token} → s ≡ set_field f x
    → FoundBetween marks.Assign marks.Semicolon x ts rest
    → FoundStmt s (field f ∷ ts) rest
found_set_field {f = f} tree q =
    found tree (ap (λ l. field f ∷ l) q.begins) (is_set_field q.found.spelled) (λ below. q.found.reads.way (mark marks.Semicolon ∷ below))

pub found_look : {s : SurfaceStmt} {word object : List ℕ} {into : List (List ℕ)} {es : SurfaceExprs} {ts us vs ws rest : List Token}
    → s ≡ look word into object es
    → ts ≡ name word ∷ us → AreNames into us vs → FoundEntry object es vs ws → ws ≡ fixed marks.Semicolon ∷ rest → FoundStmt s (fixed marks.Look ∷ ts) rest
found_look tree p q r end =
    let listed = moved AreNames refl refl (sym r.begins) q in
    let keyed = moved AreKeys refl refl (sym end) r.keys_found in
    found tree (ap (λ l. fixed marks.Look ∷ l) p) (is_look listed keyed)
    (λ below. reads_names listed (some_name ∷ mark marks.LeftBracket ∷ keys ∷ mark marks.Semicolon ∷ below) ∙ reads_keys keyed (mark marks.Semicolon ∷ below))

pub found_put : {s : SurfaceStmt} {ok object : List ℕ} {es xs : SurfaceExprs} {ts us vs ws rest : List Token} → s ≡ put ok object es xs
    → ts ≡ name ok ∷ fixed marks.Assign ∷ us → FoundEntry object es us vs → vs ≡ fixed marks.Arrow ∷ ws → AreExprs xs marks.Semicolon ws rest
    → FoundStmt s (fixed marks.Put ∷ ts) rest
found_put {ok = ok} tree p r arrow q =
    let keyed = moved AreKeys refl refl (sym arrow) r.keys_found in
    found tree (ap (λ l. fixed marks.Put ∷ l) (p ∙ ap (λ l. name ok ∷ fixed marks.Assign ∷ l) r.begins)) (is_put keyed q)
    (λ below. reads_keys keyed (mark marks.Arrow ∷ exprs marks.Semicolon ∷ below) ∙ reads_exprs q semicolon_closes below)

pub found_del : {s : SurfaceStmt} {was object : List ℕ} {es : SurfaceExprs} {ts us vs rest : List Token} → s ≡ del was object es
    → ts ≡ name was ∷ fixed marks.Assign ∷ us → FoundEntry object es us vs → vs ≡ fixed marks.Semicolon ∷ rest → FoundStmt s (fixed marks.Del ∷ ts) rest
found_del {was = was} tree p r end =
    let keyed = moved AreKeys refl refl (sym end) r.keys_found in
    found tree (ap (λ l. fixed marks.Del ∷ l) (p ∙ ap (λ l. name was ∷ fixed marks.Assign ∷ l) r.begins)) (is_del keyed)
    (λ below. reads_keys keyed (mark marks.Semicolon ∷ below))

pub found_if : {s : SurfaceStmt} {cond : SurfaceExpr} {yes_body no_body : SurfaceBody} {ts us vs rest : List Token} → s ≡ choose cond yes_body no_body
    → FoundExpr cond ts (fixed marks.LeftBrace ∷ us) → IsBody yes_body us vs → FoundElse no_body vs rest → FoundStmt s (fixed marks.If ∷ ts) rest
found_if tree p q r =
    found tree refl (is_if p.spelled q r.spelled)
    (λ below. p.reads.way (mark marks.LeftBrace ∷ body ∷ otherwise ∷ below) ∙ reads_body q (otherwise ∷ below) ∙ r.reads.way below)

pub found_repeat : {s : SurfaceStmt} {index : List ℕ} {count : ℕ} {b : SurfaceBody} {ts us vs rest : List Token} → s ≡ repeat index count b
    → ts ≡ name index ∷ us → us ≡ number count ∷ fixed marks.LeftBrace ∷ vs → IsBody b vs rest → FoundStmt s (fixed marks.Repeat ∷ ts) rest
found_repeat {index = index} tree p q r =
    found tree (ap (λ l. fixed marks.Repeat ∷ l) (p ∙ ap (λ l. name index ∷ l) q)) (is_repeat r) (λ below. reads_body r below)

pub found_send : {s : SurfaceStmt} {x : SurfaceExpr} {ts us rest : List Token} → s ≡ send x → ts ≡ fixed marks.Send ∷ us
    → FoundExpr x us (fixed marks.Semicolon ∷ rest)
    → FoundStmt s ts rest
found_send tree p q = found tree p (is_send q.spelled) (λ below. q.reads.way (mark marks.Semicolon ∷ below))

pub found_drop : {s : SurfaceStmt} {ts us rest : List Token} → s ≡ drop → ts ≡ fixed marks.Drop ∷ us → us ≡ fixed marks.Semicolon ∷ rest → FoundStmt s ts rest
found_drop tree p q = found tree (p ∙ ap (λ l. fixed marks.Drop ∷ l) q) is_drop (λ below. refl)

pub found_behind : {s : SurfaceStmt} {t : Token} {ts us rest : List Token} → ts ≡ t ∷ us → FoundStmt s (t ∷ us) rest → FoundStmt s ts rest
found_behind {s = s} {rest = rest} p q = let P : List Token → Type 0 = λ l. FoundStmt s l rest in subst P (sym p) q

pub ruleset simple = (
  memory,
  first,
  first_two,
  first_three,
  past_mark,
  past_name,
  past_name_then,
  past_between,
  past_names,
  past_entry,
  begun,
  found_let,
  found_assign,
  found_set_field,
  found_look,
  found_put,
  found_del,
)

-- ## Blocks

else_but : (t : Token) → (t ≡ fixed marks.Else → ⊥) → otherwise_move t ≡ skip
else_but (fixed marks.Else) free = absurd (free refl)
else_but _ free = refl

no_else : (ts : List Token) → NoMark marks.Else ts → NoElse ts
no_else [] free = tt
no_else (t ∷ ts) free = else_but t (λ e. free.none ts (ap (λ u. u ∷ ts) e))

pub found_absent : {b : SurfaceBody} {ts : List Token} → b ≡ done → NoMark marks.Else ts → FoundElse b ts ts
found_absent {ts = ts} tree free = record {
  spelled = moved IsElse tree refl refl is_absent;
  reads = record { way = skip_else ts (no_else ts free) };
}

pub found_else : {b : SurfaceBody} {ts us vs rest : List Token} → ts ≡ fixed marks.Else ∷ us → us ≡ fixed marks.LeftBrace ∷ vs → IsBody b vs rest
    → FoundElse b ts rest
found_else p q r =
    let whole = p ∙ ap (λ l. fixed marks.Else ∷ l) q in
    record {
      spelled = moved IsElse refl whole refl (is_else r);
      reads = record { way = λ below. ap (left_at (otherwise ∷ below)) whole ∙ reads_body r below };
    }

body_but : (t : Token) → (t ≡ fixed marks.RightBrace → ⊥) → body_move t ≡ starts (stmt_after t) (body ∷ [])
body_but (fixed marks.RightBrace) free = absurd (free refl)
body_but _ free = refl

-- where the bracket that closes the block doesn't stand in front, a statement does
as_stmt : (ts : List Token) → NoMark marks.RightBrace ts → (below : List Awaited) → left_at (body ∷ below) ts ≡ left_at (stmt ∷ body ∷ below) ts
as_stmt [] free below = refl
as_stmt (t ∷ ts) free below =
    ap (λ m. when_it_fits (after m below (step below t)) (λ stack. left_at stack ts) (suc (length ts))) (body_but t (λ e. free.none ts (ap (λ u. u ∷ ts) e)))
    ∙ ap (λ o. when_it_fits o (λ stack. left_at stack ts) (suc (length ts))) (starts_more (stmt_after t) (body ∷ []) below (step below t) (step (body ∷ below) t))

abbrev pub is_body : List (At SurfaceStmt) → List Token → List Token → Type 0
is_body ss ts rest = IsBody (body_of ss) ts rest

pub one_more_stmt : {s : At SurfaceStmt} {ts next : List Token} → NoMark marks.RightBrace ts → FoundStmt s.item ts next → s.at ≡ length ts
    → Sofar body is_body (s ∷ []) ts next
one_more_stmt {s = s} {ts = ts} free p at = record {
  reads = λ below. as_stmt ts free below ∙ p.reads.way (body ∷ below);
  whole = λ ss rest q. let P : ℕ → Type 0 = λ n. IsBody (placed n s.item (body_of ss)) ts rest in subst P (sym at) (is_more p.spelled q);
}

pub end_of_body : {ts rest : List Token} → ts ≡ fixed marks.RightBrace ∷ rest → is_body [] ts rest
end_of_body p = moved IsBody refl p refl is_end

pub no_stmt : {ts : List Token} {e : ParseError} → NoMark marks.RightBrace ts → Misses (stmt ∷ []) ts e → Misses (body ∷ []) ts e
no_stmt {ts = ts} free m = onward (as_stmt ts free) (first {more = body ∷ []} m)

pub ruleset blocks = (
  memory,
  behind,
  first,
  first_two,
  past_mark,
  past_number_then,
  past_name,
  past_expr_then,
  past_body,
  begun,
  not_begun,
  at_end,
  found_if,
  found_repeat,
  found_send,
  found_drop,
  found_behind,
  found_absent,
  found_else,
  sofar_none,
  sofar_misses,
  no_stmt,
)
