-- One level of an expression or a statement, as the surface tree has it.
use Rattle.std.proofs.Common.{Vec, Global, ◌≡◌, ℕ, List, map, sym, ap, ◌∙◌}
use Rattle.gal_bits.specs.declared.op.Op.{Op}
use Rattle.packet_fields.specs.declared.field.Field as fields
use Rattle.lexer.specs.declared.token.Span.{Span}
use Rattle.element_tokens.specs.Tokens.{span_text}
use Rattle.element_lang.specs.Surface as surface
use Rattle.element_grammar.specs.declared.surface.SurfaceExpr.{SurfaceExpr, fold-roll-SurfaceExpr}
use Rattle.element_grammar.specs.declared.surface.SurfaceExpr.TheVariants.{Literal, Field, Apply, rolls-Literal, rolls-Field, rolls-Apply}
use Rattle.element_grammar.specs.declared.surface.SurfaceExpr.TheOpen.{SurfaceExpr-F}
use Rattle.element_grammar.specs.declared.surface.At.{At}
use Rattle.element_grammar.specs.declared.surface.SurfaceStmt.{SurfaceStmt, fold-roll-SurfaceStmt}
use Rattle.element_grammar.specs.declared.surface.SurfaceStmt.TheVariants.{If, Repeat, Look, Put, Del, rolls-If, rolls-Repeat, rolls-Look, rolls-Put, rolls-Del}
use Rattle.element_grammar.specs.declared.surface.SurfaceStmt.TheOpen.{SurfaceStmt-F}
use Rattle.element_grammar.specs.Surface.{expr_step, surface_expr, surface_exprs, stmt_step, surface_stmt, surface_body}

pub literal_level : (text : List ℕ) (value width : ℕ) → surface_expr text (Literal value width) ≡ surface.lit value width
literal_level text value width =
    ap (surface_expr text) (sym (rolls-Literal value width)) ∙ fold-roll-SurfaceExpr surface.SurfaceExpr (expr_step text) (SurfaceExpr-F.Literal value width)

pub field_level : (text : List ℕ) (f : fields.Field) → surface_expr text (Field f) ≡ surface.field f
field_level text f = ap (surface_expr text) (sym (rolls-Field f)) ∙ fold-roll-SurfaceExpr surface.SurfaceExpr (expr_step text) (SurfaceExpr-F.Field f)

pub apply_level : (text : List ℕ) (op : Op) (width : ℕ) (args : Vec SurfaceExpr Global) → surface_expr text (Apply op width args) ≡ surface.apply op
    width (surface_exprs text args.items)
apply_level text op width args =
    ap (surface_expr text) (sym (rolls-Apply op width args)) ∙ fold-roll-SurfaceExpr surface.SurfaceExpr (expr_step text) (SurfaceExpr-F.Apply op width args)

pub if_level : (text : List ℕ) (cond : SurfaceExpr) (first second : Vec (At SurfaceStmt) Global) → surface_stmt text (If cond first second)
    ≡ surface.choose (surface_expr text cond) (surface_body text first.items) (surface_body text second.items)
if_level text cond first second =
    ap (surface_stmt text) (sym (rolls-If cond first second)) ∙ fold-roll-SurfaceStmt surface.SurfaceStmt (stmt_step text) (SurfaceStmt-F.If cond first second)

pub repeat_level : (text : List ℕ) (index : Span) (count : ℕ) (body : Vec (At SurfaceStmt) Global) → surface_stmt text (Repeat index count body)
    ≡ surface.repeat (span_text text index) count (surface_body text body.items)
repeat_level text index count body =
    ap (surface_stmt text) (sym (rolls-Repeat index count body)) ∙ fold-roll-SurfaceStmt surface.SurfaceStmt (stmt_step text)
    (SurfaceStmt-F.Repeat index count body)

-- a lookup, a store and a removal, where names and expressions were read from the statement
pub look_level : (text : List ℕ) (found : Span) (into : Vec Span Global) (object : Span) (keys : Vec SurfaceExpr Global)
    → surface_stmt text (Look found into object keys) ≡ surface.look (span_text text found) (map (span_text text) into.items) (span_text text object)
    (surface_exprs text keys.items)
look_level text found into object keys =
    ap (surface_stmt text) (sym (rolls-Look found into object keys)) ∙ fold-roll-SurfaceStmt surface.SurfaceStmt (stmt_step text)
    (SurfaceStmt-F.Look found into object keys)

pub look_read : (text : List ℕ) (found : Span) (into : Vec Span Global) (object : Span) (keys : Vec SurfaceExpr Global) {source : SurfaceStmt}
    {names : List Span} {exprs : List SurfaceExpr} → source ≡ Look found into object keys → names ≡ into.items → exprs ≡ keys.items
    → surface.look (span_text text found) (map (span_text text) names) (span_text text object) (surface_exprs text exprs) ≡ surface_stmt text source
look_read text found into object keys {exprs = exprs} is names_are exprs_are =
    ap (λ l. surface.look (span_text text found) (map (span_text text) l) (span_text text object) (surface_exprs text exprs)) names_are
    ∙ ap (λ l. surface.look (span_text text found) (map (span_text text) into.items) (span_text text object) (surface_exprs text l)) exprs_are
    ∙ sym (ap (surface_stmt text) is ∙ look_level text found into object keys)

put_level : (text : List ℕ) (ok object : Span) (keys values : Vec SurfaceExpr Global) → surface_stmt text (Put ok object keys values) ≡ surface.put
    (span_text text ok) (span_text text object) (surface_exprs text keys.items) (surface_exprs text values.items)
put_level text ok object keys values =
    ap (surface_stmt text) (sym (rolls-Put ok object keys values)) ∙ fold-roll-SurfaceStmt surface.SurfaceStmt (stmt_step text)
    (SurfaceStmt-F.Put ok object keys values)

pub put_read : (text : List ℕ) (ok object : Span) (keys values : Vec SurfaceExpr Global) {source : SurfaceStmt} {exprs more : List SurfaceExpr}
    → source ≡ Put ok object keys values → exprs ≡ keys.items → more ≡ values.items → surface.put (span_text text ok) (span_text text object)
    (surface_exprs text exprs) (surface_exprs text more) ≡ surface_stmt text source
put_read text ok object keys values {more = more} is exprs_are more_are =
    ap (λ l. surface.put (span_text text ok) (span_text text object) (surface_exprs text l) (surface_exprs text more)) exprs_are
    ∙ ap (λ l. surface.put (span_text text ok) (span_text text object) (surface_exprs text keys.items) (surface_exprs text l)) more_are
    ∙ sym (ap (surface_stmt text) is ∙ put_level text ok object keys values)

del_level : (text : List ℕ) (was object : Span) (keys : Vec SurfaceExpr Global) → surface_stmt text (Del was object keys) ≡ surface.del
    (span_text text was) (span_text text object) (surface_exprs text keys.items)
del_level text was object keys =
    ap (surface_stmt text) (sym (rolls-Del was object keys)) ∙ fold-roll-SurfaceStmt surface.SurfaceStmt (stmt_step text) (SurfaceStmt-F.Del was object keys)

pub del_read : (text : List ℕ) (was object : Span) (keys : Vec SurfaceExpr Global) {source : SurfaceStmt} {exprs : List SurfaceExpr}
    → source ≡ Del was object keys → exprs ≡ keys.items → surface.del (span_text text was) (span_text text object) (surface_exprs text exprs)
    ≡ surface_stmt text source
del_read text was object keys is exprs_are =
    ap (λ l. surface.del (span_text text was) (span_text text object) (surface_exprs text l)) exprs_are ∙ sym (ap (surface_stmt text) is
    ∙ del_level text was object keys)

pub repeat_read : (text : List ℕ) (index : Span) (count : ℕ) (body : Vec (At SurfaceStmt) Global) {source : SurfaceStmt} {items : List (At SurfaceStmt)}
    → source ≡ Repeat index count body → items ≡ body.items → surface.repeat (span_text text index) count (surface_body text items)
    ≡ surface_stmt text source
repeat_read text index count body is items_are =
    ap (λ l. surface.repeat (span_text text index) count (surface_body text l)) items_are ∙ sym (ap (surface_stmt text) is
    ∙ repeat_level text index count body)
