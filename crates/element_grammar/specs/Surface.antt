-- The surface trees that the Rust values stand for, with the names that lie in the text.
use Rattle.std.specs.Prelude.{ℕ, List, [], ◌∷◌, map}
use Rattle.element_lang.specs.Surface as surface
use Rattle.element_tokens.specs.Tokens.{span_text}
use Rattle.element_grammar.specs.declared.surface.At.{At}
use Rattle.element_grammar.specs.declared.surface.SurfaceExpr.{SurfaceExpr, fold-SurfaceExpr}
use Rattle.element_grammar.specs.declared.surface.SurfaceExpr.TheOpen.{SurfaceExpr-F}
use Rattle.element_grammar.specs.declared.surface.SurfaceStmt.{SurfaceStmt, fold-SurfaceStmt}
use Rattle.element_grammar.specs.declared.surface.SurfaceStmt.TheOpen.{SurfaceStmt-F}
use Rattle.element_grammar.specs.declared.surface.Literal.{Literal}
use Rattle.element_grammar.specs.declared.surface.SurfaceRow.{SurfaceRow}
use Rattle.element_grammar.specs.declared.surface.SurfaceDecl.{SurfaceDecl}
use Rattle.element_grammar.specs.declared.surface.SurfaceTree.{SurfaceTree}

-- a list as the tree's own kind of list
abbrev pub exprs_of : List surface.SurfaceExpr → surface.SurfaceExprs
exprs_of [] = surface.no_expr
exprs_of (e ∷ es) = surface.expr e (exprs_of es)

abbrev pub body_of : List (At surface.SurfaceStmt) → surface.SurfaceBody
body_of [] = surface.done
body_of (s ∷ ss) = surface.stmt s.at s.item (body_of ss)

-- one level, with the tree of each child in its place
abbrev pub expr_step : List ℕ → SurfaceExpr-F surface.SurfaceExpr → surface.SurfaceExpr
expr_step text (SurfaceExpr-F.Literal value width) = surface.lit value width
expr_step text (SurfaceExpr-F.Name word) = surface.name (span_text text word)
expr_step text (SurfaceExpr-F.Field f) = surface.field f
expr_step text (SurfaceExpr-F.Byte index) = surface.byte index.value
expr_step text (SurfaceExpr-F.Shift op by arg) = surface.shift op by arg.value
expr_step text (SurfaceExpr-F.Apply op width args) = surface.apply op width (exprs_of args.items)

abbrev pub surface_expr : List ℕ → SurfaceExpr → surface.SurfaceExpr
surface_expr text = fold-SurfaceExpr surface.SurfaceExpr (expr_step text)

abbrev pub surface_exprs : List ℕ → List SurfaceExpr → surface.SurfaceExprs
surface_exprs text es = exprs_of (map (surface_expr text) es)

abbrev pub stmt_step : List ℕ → SurfaceStmt-F surface.SurfaceStmt → surface.SurfaceStmt
stmt_step text (SurfaceStmt-F.Let local value) = surface.let_local (span_text text local) (surface_expr text value)
stmt_step text (SurfaceStmt-F.Assign local value) = surface.assign (span_text text local) (surface_expr text value)
stmt_step text (SurfaceStmt-F.SetField f value) = surface.set_field f (surface_expr text value)
stmt_step text (SurfaceStmt-F.Look found into object keys) =
    surface.look (span_text text found) (map (span_text text) into.items) (span_text text object)
    (surface_exprs text keys.items)
stmt_step text (SurfaceStmt-F.Put ok object keys values) =
    surface.put (span_text text ok) (span_text text object) (surface_exprs text keys.items)
    (surface_exprs text values.items)
stmt_step text (SurfaceStmt-F.Del was object keys) =
    surface.del (span_text text was) (span_text text object) (surface_exprs text keys.items)
stmt_step text (SurfaceStmt-F.If cond first second) =
    surface.choose (surface_expr text cond) (body_of first.items) (body_of second.items)
stmt_step text (SurfaceStmt-F.Repeat index count body) =
    surface.repeat (span_text text index) count (body_of body.items)
stmt_step text (SurfaceStmt-F.Send port) = surface.send (surface_expr text port)
stmt_step text SurfaceStmt-F.Drop = surface.drop

abbrev pub surface_stmt : List ℕ → SurfaceStmt → surface.SurfaceStmt
surface_stmt text = fold-SurfaceStmt surface.SurfaceStmt (stmt_step text)

abbrev pub placed_stmt : List ℕ → At SurfaceStmt → At surface.SurfaceStmt
placed_stmt text s = record { at = s.at; item = surface_stmt text s.item }

abbrev pub surface_body : List ℕ → List (At SurfaceStmt) → surface.SurfaceBody
surface_body text ss = body_of (map (placed_stmt text) ss)

abbrev pub surface_literal : Literal → surface.Literal
surface_literal l = record { value = l.value; width = l.width }

abbrev pub surface_row : SurfaceRow → surface.SurfaceRow
surface_row row = record { keys = map surface_literal row.keys.items; values = map surface_literal row.values.items }

abbrev pub surface_decl : List ℕ → SurfaceDecl → surface.SurfaceDecl
surface_decl text (SurfaceDecl.Table name keys values rows) =
    surface.table_decl (span_text text name) keys.items values.items (map surface_row rows.items)
surface_decl text (SurfaceDecl.Map name keys values capacity) =
    surface.map_decl (span_text text name) keys.items values.items capacity
surface_decl text (SurfaceDecl.Vector name length values) =
    surface.vector_decl (span_text text name) length values.items
surface_decl text (SurfaceDecl.Int name width start) = surface.int_decl (span_text text name) width start

abbrev pub surface_object : List ℕ → At SurfaceDecl → surface.Declared
surface_object text d = record { at = d.at; decl = surface_decl text d.item }

abbrev pub surface_tree : List ℕ → SurfaceTree → surface.Surface
surface_tree text m = record {
  objects = map (surface_object text) m.objects.items;
  body = surface_body text m.body.items;
}
