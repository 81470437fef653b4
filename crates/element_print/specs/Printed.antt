-- How a tree is printed: its tokens, and the text of tokens.
use Rattle.std.specs.Prelude.{ℕ, Bool, true, false, ◌||◌, List, [], ◌∷◌, ◌++◌, map, decimal}
use Rattle.gal_bits.specs.declared.op.Op.{Op}
use Rattle.gal_bits.specs.declared.op.Op.TheVariants as ops
use Rattle.packet_fields.specs.Table.{row}
use Rattle.element_lang.specs.declared.mark.Mark.{Mark}
use Rattle.element_lang.specs.declared.mark.Mark.TheVariants as marks
use Rattle.element_lang.specs.Mark.{spelling}
use Rattle.element_lang.specs.Token.{Token, fixed, number}
use Rattle.element_lang.specs.Token as tokens
use Rattle.element_lang.specs.Surface.{SurfaceExpr, SurfaceExprs, SurfaceStmt, SurfaceBody, Literal, SurfaceRow}
use Rattle.element_lang.specs.Surface.{SurfaceDecl, Declared, Surface, lit, name, field, byte, shift, apply, no_expr}
use Rattle.element_lang.specs.Surface.{expr, let_local, assign, set_field, look, put, del, choose, repeat, send, drop}
use Rattle.element_lang.specs.Surface.{done, stmt, table_decl, map_decl, vector_decl, int_decl}
use Rattle.element_print.specs.declared.place.Place.{Place}
use Rattle.element_print.specs.declared.place.Place.TheVariants.{Whole, Operand, Turned}

-- how a token is written
abbrev pub token_text : Token → List ℕ
token_text (fixed m) = spelling m
token_text (number n) = decimal n
token_text (tokens.name word) = word
token_text (tokens.field f) = (row f).name

-- the tokens with one space between two of them, and an LF at the end
abbrev pub text_of : List Token → List ℕ
text_of [] = 10 ∷ []
text_of (t ∷ []) = token_text t ++ 10 ∷ []
text_of (t ∷ u ∷ ts) = token_text t ++ 32 ∷ text_of (u ∷ ts)

abbrev pub in_brackets : List Token → List Token
in_brackets ts = fixed marks.LeftParen ∷ (ts ++ fixed marks.RightParen ∷ [])

abbrev pub in_braces : List Token → List Token
in_braces ts = fixed marks.LeftBrace ∷ (ts ++ fixed marks.RightBrace ∷ [])

-- parts with a mark before each, and parts with a mark between two
abbrev pub behind_each : Mark → List (List Token) → List Token
behind_each m [] = []
behind_each m (p ∷ ps) = fixed m ∷ (p ++ behind_each m ps)

abbrev pub joined : Mark → List (List Token) → List Token
joined m [] = []
joined m (p ∷ ps) = p ++ behind_each m ps

-- the mark that an operator is written with
abbrev pub mark_of : Op → Mark
mark_of ops.Add = marks.Plus
mark_of ops.Sub = marks.Minus
mark_of ops.Mul = marks.Star
mark_of ops.Div = marks.Slash
mark_of ops.Rem = marks.Percent
mark_of ops.And = marks.Ampersand
mark_of ops.Or = marks.Bar
mark_of ops.Xor = marks.Caret
mark_of ops.Not = marks.Tilde
mark_of ops.Shl = marks.ShiftLeft
mark_of ops.Shr = marks.ShiftRight
mark_of ops.Eq = marks.Equal
mark_of ops.Ne = marks.NotEqual
mark_of ops.Lt = marks.Less
mark_of ops.Le = marks.AtMost
mark_of ops.Cast = marks.Cast
mark_of ops.Select = marks.Select
mark_of ops.Adjust = marks.Adjust

-- whether an operator stands between its operands
abbrev pub is_infix : Op → Bool
is_infix ops.Not = false
is_infix ops.Cast = false
is_infix ops.Select = false
is_infix ops.Adjust = false
is_infix _ = true

abbrev pub is_not : Op → Bool
is_not ops.Not = true
is_not _ = false

-- a symbol stands between its parts
abbrev pub has_infix : SurfaceExpr → Bool
has_infix (shift op by arg) = true
has_infix (apply op width args) = is_infix op
has_infix _ = false

-- whether an expression is turned by `~`
abbrev pub is_turned : SurfaceExpr → Bool
is_turned (apply op width args) = is_not op
is_turned _ = false

-- The grammar takes it there only in brackets: an operand has no symbol between its parts, and what `~` turns isn't
-- turned by another `~` either.
abbrev pub needs_brackets : Place → SurfaceExpr → Bool
needs_brackets Whole e = false
needs_brackets Operand e = has_infix e
needs_brackets Turned e = has_infix e || is_turned e

abbrev pub in_brackets_if : Bool → List Token → List Token
in_brackets_if true ts = in_brackets ts
in_brackets_if false ts = ts

abbrev mutual
  pub expr_tokens : SurfaceExpr → List Token
  expr_tokens (lit value width) = number value ∷ fixed marks.Colon ∷ number width ∷ []
  expr_tokens (name word) = tokens.name word ∷ []
  expr_tokens (field f) = tokens.field f ∷ []
  expr_tokens (byte index) = fixed marks.Byte ∷ in_brackets (expr_tokens index)
  expr_tokens (shift op by arg) =
      in_brackets_if (needs_brackets Operand arg) (expr_tokens arg) ++ fixed (mark_of op) ∷ number by ∷ []
  expr_tokens (apply ops.Not width args) = fixed marks.Tilde ∷ joined marks.Comma (parts Turned args)
  expr_tokens (apply ops.Cast width args) =
      fixed marks.Cast ∷ in_brackets (joined marks.Comma ((number width ∷ []) ∷ parts Whole args))
  expr_tokens (apply ops.Select width args) = fixed marks.Select ∷ in_brackets (joined marks.Comma (parts Whole args))
  expr_tokens (apply ops.Adjust width args) = fixed marks.Adjust ∷ in_brackets (joined marks.Comma (parts Whole args))
  expr_tokens (apply op width args) = joined (mark_of op) (parts Operand args)

  -- each expression of a list, in brackets where it needs them
  pub parts : Place → SurfaceExprs → List (List Token)
  parts place no_expr = []
  parts place (expr e es) = in_brackets_if (needs_brackets place e) (expr_tokens e) ∷ parts place es

abbrev pub part : Place → SurfaceExpr → List Token
part place e = in_brackets_if (needs_brackets place e) (expr_tokens e)

-- expressions with commas between them
abbrev pub exprs_tokens : SurfaceExprs → List Token
exprs_tokens es = joined marks.Comma (parts Whole es)

-- an object, and a key in square brackets
abbrev pub keyed : List ℕ → SurfaceExprs → List Token
keyed object keys = tokens.name object ∷ fixed marks.LeftBracket ∷ (exprs_tokens keys ++ fixed marks.RightBracket ∷ [])

-- nothing for an empty second block
abbrev pub else_tokens : SurfaceBody → List Token → List Token
else_tokens done ts = []
else_tokens (stmt at s b) ts = fixed marks.Else ∷ in_braces ts

abbrev mutual
  pub stmt_tokens : SurfaceStmt → List Token
  stmt_tokens (let_local word e) =
      fixed marks.Let ∷ tokens.name word ∷ fixed marks.Assign ∷ (expr_tokens e ++ fixed marks.Semicolon ∷ [])
  stmt_tokens (assign word e) = tokens.name word ∷ fixed marks.Assign ∷ (expr_tokens e ++ fixed marks.Semicolon ∷ [])
  stmt_tokens (set_field f e) = tokens.field f ∷ fixed marks.Assign ∷ (expr_tokens e ++ fixed marks.Semicolon ∷ [])
  stmt_tokens (look found into object keys) =
      let names = joined marks.Comma (map (λ word. tokens.name word ∷ []) (found ∷ into)) in
      fixed marks.Look ∷ (names ++ fixed marks.Assign ∷ (keyed object keys ++ fixed marks.Semicolon ∷ []))
  stmt_tokens (put ok object keys values) =
      fixed marks.Put ∷ tokens.name ok ∷ fixed marks.Assign
      ∷ (keyed object keys ++ fixed marks.Arrow ∷ (exprs_tokens values ++ fixed marks.Semicolon ∷ []))
  stmt_tokens (del was object keys) =
      fixed marks.Del ∷ tokens.name was ∷ fixed marks.Assign ∷ (keyed object keys ++ fixed marks.Semicolon ∷ [])
  stmt_tokens (choose cond first second) =
      fixed marks.If ∷ (expr_tokens cond ++ (in_braces (body_tokens first) ++ else_tokens second (body_tokens second)))
  stmt_tokens (repeat index count body) =
      fixed marks.Repeat ∷ tokens.name index ∷ number count ∷ in_braces (body_tokens body)
  stmt_tokens (send port) = fixed marks.Send ∷ (expr_tokens port ++ fixed marks.Semicolon ∷ [])
  stmt_tokens drop = fixed marks.Drop ∷ fixed marks.Semicolon ∷ []

  pub body_tokens : SurfaceBody → List Token
  body_tokens done = []
  body_tokens (stmt at s b) = stmt_tokens s ++ body_tokens b

-- widths, and literals, in brackets with commas between them
unfoldable pub widths_tokens : List ℕ → List Token
widths_tokens ws = in_brackets (joined marks.Comma (map (λ w. number w ∷ []) ws))

abbrev pub literal_tokens : Literal → List Token
literal_tokens l = number l.value ∷ fixed marks.Colon ∷ number l.width ∷ []

unfoldable pub literals_tokens : List Literal → List Token
literals_tokens ls = in_brackets (joined marks.Comma (map literal_tokens ls))

-- the rows of a table
abbrev pub rows_tokens : List SurfaceRow → List Token
rows_tokens [] = []
rows_tokens (row ∷ rows) =
    literals_tokens row.keys ++ fixed marks.Arrow
    ∷ (literals_tokens row.values ++ fixed marks.Semicolon ∷ rows_tokens rows)

abbrev pub decl_tokens : SurfaceDecl → List Token
decl_tokens (table_decl word keys values rows) =
    fixed marks.Table ∷ tokens.name word
    ∷ (widths_tokens keys ++ fixed marks.Arrow ∷ (widths_tokens values ++ in_braces (rows_tokens rows)))
decl_tokens (map_decl word keys values capacity) =
    let room = fixed marks.Capacity ∷ number capacity ∷ fixed marks.Semicolon ∷ [] in
    fixed marks.Map ∷ tokens.name word ∷ (widths_tokens keys ++ fixed marks.Arrow ∷ (widths_tokens values ++ room))
decl_tokens (vector_decl word size values) =
    fixed marks.Vector ∷ tokens.name word ∷ fixed marks.Length ∷ number size ∷ fixed marks.Arrow
    ∷ (widths_tokens values ++ fixed marks.Semicolon ∷ [])
decl_tokens (int_decl word width start) =
    fixed marks.Int ∷ tokens.name word ∷ fixed marks.Colon ∷ number width ∷ fixed marks.Assign ∷ number start
    ∷ fixed marks.Semicolon ∷ []

abbrev pub decls_tokens : List Declared → List Token
decls_tokens [] = []
decls_tokens (d ∷ ds) = decl_tokens d.decl ++ decls_tokens ds

-- a whole middlebox
abbrev pub print_tokens : Surface → List Token
print_tokens surface = decls_tokens surface.objects ++ fixed marks.Process ∷ in_braces (body_tokens surface.body)
