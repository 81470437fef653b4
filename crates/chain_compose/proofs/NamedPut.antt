-- Steps are put one after the other.
use Rattle.std.proofs.Common.{◌≡◌, ◌<◌, ℕ, suc, ◌+◌, List, [], ◌∷◌, ◌++◌, length, drop, slice_index_or, refl, sym, ap, ◌∙◌, arith, append_assoc, drop-cons}
use Rattle.element_lang.specs.declared.tree.Expr.{Expr}
use Rattle.element_lang.specs.View.{expr_tree, expr_trees}
use Rattle.chain_compose.specs.declared.name_steps.Step.{Step}
use Rattle.chain_compose.specs.declared.name_steps.Step.TheVariants.{Name, Declare}
use Rattle.chain_compose.specs.Counts.{used_by_expr, used_by_exprs}
use Rattle.chain_compose.specs.NamedFrom.{named, all_declared_steps}

named_append : (xs ys : List ℕ) → named (xs ++ ys) ≡ named xs ++ named ys
named_append [] ys = refl
named_append (x ∷ xs) ys = ap (λ (ss : List Step). Name x ∷ ss) (named_append xs ys)

pub exprs_more : (es : List Expr) (i : ℕ) (e : Expr) (out more all : List Step) → i < length es → e ≡ slice_index_or es i e → more ≡ out ++ named (used_by_expr (expr_tree e))
    → out ++ named (used_by_exprs (expr_trees (drop i es))) ≡ all → more ++ named (used_by_exprs (expr_trees (drop (i + 1) es))) ≡ all
exprs_more es i e out more all lt is more_is so_far =
    let rest = used_by_exprs (expr_trees (drop (i + 1) es)) in
    let next : suc i ≡ i + 1 = omega arith in
    let here : drop i es ≡ e ∷ drop (i + 1) es =
    drop-cons es i e lt ∙ ap (λ (d : Expr). d ∷ drop (suc i) es) (sym is) ∙ ap (λ (k : ℕ). e ∷ drop k es) next in
    ap (λ (ss : List Step). ss ++ named rest) more_is
    ∙ append_assoc out (named (used_by_expr (expr_tree e))) (named rest)
    ∙ ap (λ (ss : List Step). out ++ ss) (sym (named_append (used_by_expr (expr_tree e)) rest))
    ∙ sym (ap (λ (ds : List Expr). out ++ named (used_by_exprs (expr_trees ds))) here)
    ∙ so_far

pub declares_more : (xs : List ℕ) (i : ℕ) (out more all : List Step) → i < length xs → more ≡ out ++ Declare ∷ []
    → out ++ all_declared_steps (drop i xs) ≡ all → more ++ all_declared_steps (drop (i + 1) xs) ≡ all
declares_more xs i out more all lt more_is so_far =
    let next : suc i ≡ i + 1 = omega arith in
    let here : drop i xs ≡ slice_index_or xs i 0 ∷ drop (i + 1) xs =
    drop-cons xs i 0 lt ∙ ap (λ (k : ℕ). slice_index_or xs i 0 ∷ drop k xs) next in
    ap (λ (ss : List Step). ss ++ all_declared_steps (drop (i + 1) xs)) more_is
    ∙ append_assoc out (Declare ∷ []) (all_declared_steps (drop (i + 1) xs))
    ∙ sym (ap (λ (ds : List ℕ). out ++ all_declared_steps ds) here)
    ∙ so_far
