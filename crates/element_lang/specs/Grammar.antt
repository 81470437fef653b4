-- Which tokens spell a surface tree. Each relation says: the first list of tokens is those of the tree, and then the
-- second list.
use Rattle.std.specs.Prelude.{◌≡◌, ◌<◌, ◌≤◌, ℕ, suc, List, [], ◌∷◌, ◌++◌, length, take, Option, Some, None}
use Rattle.gal_bits.specs.declared.op.Op.{Op}
use Rattle.gal_bits.specs.declared.op.Op.TheVariants as ops
use Rattle.packet_fields.specs.declared.field.Field.{Field}
use Rattle.element_lang.specs.declared.mark.Mark.{Mark}
use Rattle.element_lang.specs.declared.mark.Mark.TheVariants as marks
use Rattle.element_lang.specs.Token.{Token, fixed, number}
use Rattle.element_lang.specs.Token as tokens
use Rattle.element_lang.specs.Surface.{SurfaceExpr, SurfaceExprs, SurfaceStmt, SurfaceBody, Literal, SurfaceRow}
use Rattle.element_lang.specs.Surface.{SurfaceDecl, Declared, Surface, lit, name, field, byte, shift, apply, no_expr}
use Rattle.element_lang.specs.Surface.{expr, let_local, assign, set_field, look, put, del, choose, repeat, send, drop}
use Rattle.element_lang.specs.Surface.{done, stmt, table_decl, map_decl, vector_decl, int_decl}

-- the symbol between the two operands of an operator
abbrev pub infix_of : Mark → Option Op
infix_of marks.Plus = Some ops.Add
infix_of marks.Minus = Some ops.Sub
infix_of marks.Star = Some ops.Mul
infix_of marks.Slash = Some ops.Div
infix_of marks.Percent = Some ops.Rem
infix_of marks.Ampersand = Some ops.And
infix_of marks.Bar = Some ops.Or
infix_of marks.Caret = Some ops.Xor
infix_of marks.Equal = Some ops.Eq
infix_of marks.NotEqual = Some ops.Ne
infix_of marks.Less = Some ops.Lt
infix_of marks.AtMost = Some ops.Le
infix_of _ = None

-- the symbol between an operand and the number of bits by which it is shifted
abbrev pub shift_of : Mark → Option Op
shift_of marks.ShiftLeft = Some ops.Shl
shift_of marks.ShiftRight = Some ops.Shr
shift_of _ = None

abbrev pub one : SurfaceExpr → SurfaceExprs
one a = expr a no_expr

abbrev pub two : SurfaceExpr → SurfaceExpr → SurfaceExprs
two a b = expr a (one b)

abbrev pub three : SurfaceExpr → SurfaceExpr → SurfaceExpr → SurfaceExprs
three a b c = expr a (two b c)

-- an operand, an operand that may be turned by `~`, and an expression; brackets round it leave no trace
mutual
  pub data IsPrim : SurfaceExpr → List Token → List Token → Type 0 where
    is_literal : {value width : ℕ} {rest : List Token}
        → IsPrim (lit value width) (number value ∷ fixed marks.Colon ∷ number width ∷ rest) rest
    is_name : {word : List ℕ} {rest : List Token} → IsPrim (name word) (tokens.name word ∷ rest) rest
    is_field : {f : Field} {rest : List Token} → IsPrim (field f) (tokens.field f ∷ rest) rest
    is_in_brackets : {e : SurfaceExpr} {ts rest : List Token} → IsExpr e ts (fixed marks.RightParen ∷ rest)
        → IsPrim e (fixed marks.LeftParen ∷ ts) rest
    is_byte : {e : SurfaceExpr} {ts rest : List Token} → IsExpr e ts (fixed marks.RightParen ∷ rest)
        → IsPrim (byte e) (fixed marks.Byte ∷ fixed marks.LeftParen ∷ ts) rest
    is_cast : {e : SurfaceExpr} {width : ℕ} {ts rest : List Token} → IsExpr e ts (fixed marks.RightParen ∷ rest)
        → IsPrim (apply ops.Cast width (one e))
        (fixed marks.Cast ∷ fixed marks.LeftParen ∷ number width ∷ fixed marks.Comma ∷ ts) rest
    is_select : {a b c : SurfaceExpr} {ts us vs rest : List Token}
        → IsExpr a ts (fixed marks.Comma ∷ us) → IsExpr b us (fixed marks.Comma ∷ vs)
        → IsExpr c vs (fixed marks.RightParen ∷ rest)
        → IsPrim (apply ops.Select 0 (three a b c)) (fixed marks.Select ∷ fixed marks.LeftParen ∷ ts) rest
    is_adjust : {a b c : SurfaceExpr} {ts us vs rest : List Token}
        → IsExpr a ts (fixed marks.Comma ∷ us) → IsExpr b us (fixed marks.Comma ∷ vs)
        → IsExpr c vs (fixed marks.RightParen ∷ rest)
        → IsPrim (apply ops.Adjust 0 (three a b c)) (fixed marks.Adjust ∷ fixed marks.LeftParen ∷ ts) rest

  pub data IsUnary : SurfaceExpr → List Token → List Token → Type 0 where
    is_prim : {e : SurfaceExpr} {ts rest : List Token} → IsPrim e ts rest → IsUnary e ts rest
    is_not : {e : SurfaceExpr} {ts rest : List Token} → IsPrim e ts rest
        → IsUnary (apply ops.Not 0 (one e)) (fixed marks.Tilde ∷ ts) rest

  pub data IsExpr : SurfaceExpr → List Token → List Token → Type 0 where
    is_unary : {e : SurfaceExpr} {ts rest : List Token} → IsUnary e ts rest → IsExpr e ts rest
    is_infix : {a b : SurfaceExpr} {mark : Mark} {op : Op} {ts us rest : List Token}
        → IsUnary a ts (fixed mark ∷ us) → infix_of mark ≡ Some op → IsUnary b us rest
        → IsExpr (apply op 0 (two a b)) ts rest
    is_shift : {a : SurfaceExpr} {mark : Mark} {op : Op} {by : ℕ} {ts rest : List Token}
        → IsUnary a ts (fixed mark ∷ number by ∷ rest) → shift_of mark ≡ Some op → IsExpr (shift op by a) ts rest

-- expressions with commas between them, and then this mark
pub data AreExprs : SurfaceExprs → Mark → List Token → List Token → Type 0 where
  are_last : {e : SurfaceExpr} {close : Mark} {ts rest : List Token} → IsExpr e ts (fixed close ∷ rest)
      → AreExprs (one e) close ts rest
  are_more : {e : SurfaceExpr} {es : SurfaceExprs} {close : Mark} {ts us rest : List Token}
      → IsExpr e ts (fixed marks.Comma ∷ us) → AreExprs es close us rest → AreExprs (expr e es) close ts rest

-- the keys in the square brackets behind an object, which may be none, and the bracket that closes them
pub data AreKeys : SurfaceExprs → List Token → List Token → Type 0 where
  are_no_keys : {rest : List Token} → AreKeys no_expr (fixed marks.RightBracket ∷ rest) rest
  are_keys : {es : SurfaceExprs} {ts rest : List Token} → AreExprs es marks.RightBracket ts rest → AreKeys es ts rest

-- names, each behind a comma, and then `=`
pub data AreNames : List (List ℕ) → List Token → List Token → Type 0 where
  are_no_names : {rest : List Token} → AreNames [] (fixed marks.Assign ∷ rest) rest
  are_names : {word : List ℕ} {words : List (List ℕ)} {ts rest : List Token}
      → AreNames words ts rest → AreNames (word ∷ words) (fixed marks.Comma ∷ tokens.name word ∷ ts) rest

mutual
  pub data IsStmt : SurfaceStmt → List Token → List Token → Type 0 where
    is_let : {word : List ℕ} {e : SurfaceExpr} {ts rest : List Token} → IsExpr e ts (fixed marks.Semicolon ∷ rest)
        → IsStmt (let_local word e) (fixed marks.Let ∷ tokens.name word ∷ fixed marks.Assign ∷ ts) rest
    is_assign : {word : List ℕ} {e : SurfaceExpr} {ts rest : List Token} → IsExpr e ts (fixed marks.Semicolon ∷ rest)
        → IsStmt (assign word e) (tokens.name word ∷ fixed marks.Assign ∷ ts) rest
    is_set_field : {f : Field} {e : SurfaceExpr} {ts rest : List Token} → IsExpr e ts (fixed marks.Semicolon ∷ rest)
        → IsStmt (set_field f e) (tokens.field f ∷ fixed marks.Assign ∷ ts) rest
    is_look : {found object : List ℕ} {into : List (List ℕ)} {keys : SurfaceExprs} {ts us rest : List Token}
        → AreNames into ts (tokens.name object ∷ fixed marks.LeftBracket ∷ us)
        → AreKeys keys us (fixed marks.Semicolon ∷ rest)
        → IsStmt (look found into object keys) (fixed marks.Look ∷ tokens.name found ∷ ts) rest
    is_put : {ok object : List ℕ} {keys values : SurfaceExprs} {ts us rest : List Token}
        → AreKeys keys ts (fixed marks.Arrow ∷ us) → AreExprs values marks.Semicolon us rest
        → IsStmt (put ok object keys values)
        (fixed marks.Put ∷ tokens.name ok ∷ fixed marks.Assign ∷ tokens.name object ∷ fixed marks.LeftBracket ∷ ts) rest
    is_del : {was object : List ℕ} {keys : SurfaceExprs} {ts rest : List Token}
        → AreKeys keys ts (fixed marks.Semicolon ∷ rest)
        → IsStmt (del was object keys)
        (fixed marks.Del ∷ tokens.name was ∷ fixed marks.Assign ∷ tokens.name object ∷ fixed marks.LeftBracket ∷ ts)
        rest
    is_if : {cond : SurfaceExpr} {first second : SurfaceBody} {ts us vs rest : List Token}
        → IsExpr cond ts (fixed marks.LeftBrace ∷ us) → IsBody first us vs → IsElse second vs rest
        → IsStmt (choose cond first second) (fixed marks.If ∷ ts) rest
    is_repeat : {word : List ℕ} {count : ℕ} {b : SurfaceBody} {ts rest : List Token} → IsBody b ts rest
        → IsStmt (repeat word count b)
        (fixed marks.Repeat ∷ tokens.name word ∷ number count ∷ fixed marks.LeftBrace ∷ ts) rest
    is_send : {e : SurfaceExpr} {ts rest : List Token} → IsExpr e ts (fixed marks.Semicolon ∷ rest)
        → IsStmt (send e) (fixed marks.Send ∷ ts) rest
    is_drop : {rest : List Token} → IsStmt drop (fixed marks.Drop ∷ fixed marks.Semicolon ∷ rest) rest

  -- nothing, or `else` and a block
  pub data IsElse : SurfaceBody → List Token → List Token → Type 0 where
    is_absent : {rest : List Token} → IsElse done rest rest
    is_else : {b : SurfaceBody} {ts rest : List Token} → IsBody b ts rest
        → IsElse b (fixed marks.Else ∷ fixed marks.LeftBrace ∷ ts) rest

  -- statements, and then the bracket that closes their block; each keeps how many tokens there are from its first one
  -- on
  pub data IsBody : SurfaceBody → List Token → List Token → Type 0 where
    is_end : {rest : List Token} → IsBody done (fixed marks.RightBrace ∷ rest) rest
    is_more : {s : SurfaceStmt} {b : SurfaceBody} {ts between rest : List Token}
        → IsStmt s ts between → IsBody b between rest → IsBody (stmt (length ts) s b) ts rest

-- widths with commas between them, and the bracket that closes them
pub data AreWidths : List ℕ → List Token → List Token → Type 0 where
  is_last_width : {w : ℕ} {rest : List Token} → AreWidths (w ∷ []) (number w ∷ fixed marks.RightParen ∷ rest) rest
  is_width_and_more : {w : ℕ} {ws : List ℕ} {ts rest : List Token} → AreWidths ws ts rest
      → AreWidths (w ∷ ws) (number w ∷ fixed marks.Comma ∷ ts) rest

-- literals likewise
pub data AreLiterals : List Literal → List Token → List Token → Type 0 where
  is_last_literal : {v w : ℕ} {rest : List Token}
      → AreLiterals (record { value = v; width = w } ∷ [])
      (number v ∷ fixed marks.Colon ∷ number w ∷ fixed marks.RightParen ∷ rest) rest
  is_literal_and_more : {v w : ℕ} {ls : List Literal} {ts rest : List Token} → AreLiterals ls ts rest
      → AreLiterals (record { value = v; width = w } ∷ ls)
      (number v ∷ fixed marks.Colon ∷ number w ∷ fixed marks.Comma ∷ ts) rest

-- rows, and the bracket that closes them
pub data AreRows : List SurfaceRow → List Token → List Token → Type 0 where
  are_no_rows : {rest : List Token} → AreRows [] (fixed marks.RightBrace ∷ rest) rest
  are_rows : {keys values : List Literal} {rows : List SurfaceRow} {ts us vs rest : List Token}
      → AreLiterals keys ts (fixed marks.Arrow ∷ fixed marks.LeftParen ∷ us)
      → AreLiterals values us (fixed marks.Semicolon ∷ vs) → AreRows rows vs rest
      → AreRows (record { keys = keys; values = values } ∷ rows) (fixed marks.LeftParen ∷ ts) rest

pub data IsDecl : SurfaceDecl → List Token → List Token → Type 0 where
  is_table : {word keys values : List ℕ} {rows : List SurfaceRow} {ts us vs rest : List Token}
      → AreWidths keys ts (fixed marks.Arrow ∷ fixed marks.LeftParen ∷ us)
      → AreWidths values us (fixed marks.LeftBrace ∷ vs) → AreRows rows vs rest
      → IsDecl (table_decl word keys values rows) (fixed marks.Table ∷ tokens.name word ∷ fixed marks.LeftParen ∷ ts)
      rest
  is_map : {word keys values : List ℕ} {capacity : ℕ} {ts us rest : List Token}
      → AreWidths keys ts (fixed marks.Arrow ∷ fixed marks.LeftParen ∷ us)
      → AreWidths values us (fixed marks.Capacity ∷ number capacity ∷ fixed marks.Semicolon ∷ rest)
      → IsDecl (map_decl word keys values capacity) (fixed marks.Map ∷ tokens.name word ∷ fixed marks.LeftParen ∷ ts)
      rest
  is_vector : {word values : List ℕ} {size : ℕ} {ts rest : List Token}
      → AreWidths values ts (fixed marks.Semicolon ∷ rest)
      → IsDecl (vector_decl word size values)
      (fixed marks.Vector ∷ tokens.name word ∷ fixed marks.Length ∷ number size ∷ fixed marks.Arrow
      ∷ fixed marks.LeftParen ∷ ts) rest
  is_int : {word : List ℕ} {width start : ℕ} {rest : List Token}
      → IsDecl (int_decl word width start)
      (fixed marks.Int ∷ tokens.name word ∷ fixed marks.Colon ∷ number width ∷ fixed marks.Assign ∷ number start
      ∷ fixed marks.Semicolon ∷ rest) rest

-- Declarations, and then `process {` and the statements. Each declaration keeps how many tokens there are from its
-- first one on.
pub data IsMiddlebox : List Declared → SurfaceBody → List Token → List Token → Type 0 where
  is_process : {b : SurfaceBody} {ts rest : List Token} → IsBody b ts rest
      → IsMiddlebox [] b (fixed marks.Process ∷ fixed marks.LeftBrace ∷ ts) rest
  is_declared : {d : SurfaceDecl} {ds : List Declared} {b : SurfaceBody} {ts us rest : List Token}
      → IsDecl d ts us → IsMiddlebox ds b us rest → IsMiddlebox (record { at = length ts; decl = d } ∷ ds) b ts rest

-- all of the tokens are those of this surface tree
abbrev pub Spells : List Token → Surface → Type 0
Spells ts surface = IsMiddlebox surface.objects surface.body ts []

-- the tokens of some source begin with these
abbrev pub Begins : List Token → Type 0
Begins front = (more : List Token) × (surface : Surface) × Spells (front ++ more) surface

-- The first wrong token stands at this place: those before it begin a source, and together with it they begin none.
-- Where the
-- place is behind the last one, the tokens end too early.
pub record IsFirstWrong (ts : List Token) (place : ℕ) : Type 0 where
  pub within : place ≤ length ts
  pub begins : Begins (take place ts)
  pub wrong : place < length ts → Begins (take (suc place) ts) → ⊥
  pub too_short : place ≡ length ts → (surface : Surface) → Spells ts surface → ⊥
