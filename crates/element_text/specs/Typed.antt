-- What the Rust values of typed expressions stand for.
use Rattle.std.specs.Prelude.{ℕ, ◌^◌, ◌&&◌, nat_lt, Option, Some}
use Rattle.element_lang.specs.Tree.ExprTree.{lit}
use Rattle.element_lang.specs.Rules.{is_width}
use Rattle.element_lang.specs.View.{expr_tree, expr_trees}
use Rattle.element_text.specs.declared.expressions.TypedExpr.{TypedExpr}
use Rattle.element_text.specs.declared.expressions.TypedExprs.{TypedExprs}
use Rattle.element_text.specs.Resolve.{when, Typed, TypedList}

abbrev pub typed_of : TypedExpr → Typed
typed_of t = record { tree = expr_tree t.expr; width = t.width }

abbrev pub typed_list_of : TypedExprs → TypedList
typed_list_of ts = record { trees = expr_trees ts.exprs.items; widths = ts.widths.items }

-- a literal, where its value fits its width
abbrev pub literal_of : ℕ → ℕ → Option Typed
literal_of value width = when (is_width width && nat_lt value (2 ^ width))
    (Some (record { tree = lit value width; width = width }))
