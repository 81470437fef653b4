-- What is wrong in one expression alone, and in those of a key and of a value.
use Rattle.std.proofs.Common.{Vec, Global, ◌≡◌, ℕ, Bool, List, map, refl, sym, ap, ◌∙◌}
use Rattle.element_lang.specs.declared.tree.Local.{Local}
use Rattle.element_lang.specs.Surface.{SurfaceExpr, SurfaceExprs, no_expr, expr}
use Rattle.element_lang.specs.Broken.{appended}
use Rattle.element_rules.specs.declared.expressions.Faults.{Faults}
use Rattle.element_rules.specs.declared.expressions.Tested.{Tested}
use Rattle.element_rules.specs.declared.expressions.TestedList.{TestedList}
use Rattle.element_rules.specs.Seen.{local_of}
use Rattle.element_rules.specs.Tested.{both_faults, no_faults, Several, faults_of, list_faults, tested, tested_list, list_of}
use Rattle.element_rules.specs.Faulty.{alone}
use Rattle.element_rules.proofs.ExprFaults.{both_assoc}
use Rattle.lemmas.proofs.Tests.{or_false}

both_none : (a : Faults) → both_faults a no_faults ≡ a
both_none a =
    let P : Bool → Bool → Bool → Bool → Bool → Faults = λ v w x y z. record { bad_width = v; too_large = w; unknown = x; misfit = y; far_shift = z } in
    let l = both_faults a no_faults in
    ap (λ v. P v l.too_large l.unknown l.misfit l.far_shift) (or_false a.bad_width)
    ∙ ap (λ v. P a.bad_width v l.unknown l.misfit l.far_shift) (or_false a.too_large)
    ∙ ap (λ v. P a.bad_width a.too_large v l.misfit l.far_shift) (or_false a.unknown)
    ∙ ap (λ v. P a.bad_width a.too_large a.unknown v l.far_shift) (or_false a.misfit)
    ∙ ap (P a.bad_width a.too_large a.unknown a.misfit) (or_false a.far_shift)

faults_alone : (locals : List Local) (e : SurfaceExpr) → list_faults locals (alone e) ≡ faults_of locals e
faults_alone locals e = both_none (faults_of locals e)

-- the expression was tested over the locals in scope
pub only_faults : (text : List ℕ) {known locals : List (Vec ℕ Global × ℕ)} (e : SurfaceExpr) (made : Tested) → known ≡ locals
    → made ≡ tested (map local_of known) e → made.faults ≡ list_faults (map local_of locals) (alone e)
only_faults text {known = known} {locals = locals} e made same is =
    ap (λ (m : Tested). m.faults) is ∙ ap (λ l. faults_of (map local_of l) e) same ∙ sym (faults_alone (map local_of locals) e)

pub faults_joined : (locals : List Local) (es more : SurfaceExprs) → list_faults locals (appended es more) ≡ both_faults (list_faults locals es)
    (list_faults locals more)
faults_joined locals no_expr more = refl
faults_joined locals (expr e es) more =
    ap (both_faults (faults_of locals e)) (faults_joined locals es more) ∙ sym (both_assoc (faults_of locals e) (list_faults locals es) (list_faults locals more))

-- the same of several
pub list_found : (text : List ℕ) {known locals : List (Vec ℕ Global × ℕ)} (es : SurfaceExprs) (made : TestedList) → known ≡ locals
    → list_of made ≡ tested_list (map local_of known) es → made.faults ≡ list_faults (map local_of locals) es
list_found text es made same is = ap (λ (m : Several). m.faults) is ∙ ap (λ l. list_faults (map local_of l) es) same
