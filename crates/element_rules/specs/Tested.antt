-- How wide the values of expressions are, and what is wrong in them, all at once.
use Rattle.std.specs.Prelude.{ℕ, false, ◌||◌, List}
use Rattle.element_lang.specs.declared.tree.Local.{Local}
use Rattle.element_lang.specs.Surface.{SurfaceExpr, SurfaceExprs}
use Rattle.element_lang.specs.Broken.{width_in, widths_in, in_expr, in_exprs, is_bad_width, is_too_large, is_unknown}
use Rattle.element_lang.specs.Broken.{is_misfit, is_far_shift}
use Rattle.element_rules.specs.declared.expressions.Faults.{Faults}
use Rattle.element_rules.specs.declared.expressions.Tested.{Tested}
use Rattle.element_rules.specs.declared.expressions.TestedList.{TestedList}

abbrev pub no_faults : Faults
no_faults = record { bad_width = false; too_large = false; unknown = false; misfit = false; far_shift = false }

abbrev pub both_faults : Faults → Faults → Faults
both_faults a b = record {
  bad_width = a.bad_width || b.bad_width;
  too_large = a.too_large || b.too_large;
  unknown = a.unknown || b.unknown;
  misfit = a.misfit || b.misfit;
  far_shift = a.far_shift || b.far_shift;
}

-- what the tests of the rules say of an expression, and of several
abbrev pub faults_of : List Local → SurfaceExpr → Faults
faults_of locals e = record {
  bad_width = in_expr is_bad_width e;
  too_large = in_expr is_too_large e;
  unknown = in_expr (is_unknown locals) e;
  misfit = in_expr (is_misfit locals) e;
  far_shift = in_expr is_far_shift e;
}

abbrev pub list_faults : List Local → SurfaceExprs → Faults
list_faults locals es = record {
  bad_width = in_exprs is_bad_width es;
  too_large = in_exprs is_too_large es;
  unknown = in_exprs (is_unknown locals) es;
  misfit = in_exprs (is_misfit locals) es;
  far_shift = in_exprs is_far_shift es;
}

abbrev pub tested : List Local → SurfaceExpr → Tested
tested locals e = record { width = width_in locals e; faults = faults_of locals e }

-- the widths and faults of several expressions
pub record Several : Type 0 where
  pub widths : List ℕ
  pub faults : Faults

abbrev pub tested_list : List Local → SurfaceExprs → Several
tested_list locals es = record { widths = widths_in locals es; faults = list_faults locals es }

abbrev pub list_of : TestedList → Several
list_of ts = record { widths = ts.widths.items; faults = ts.faults }
