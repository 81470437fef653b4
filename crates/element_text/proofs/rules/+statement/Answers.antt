use Rattle.std.proofs.Common.{◌≡◌, length, Option, Some, rules, refl, sym, ap, ◌∙◌}
use Rattle.element_lang.specs.Tree as trees
use Rattle.element_lang.specs.Tree.{StmtTree}
use Rattle.element_lang.specs.View.{stmt_tree, body_tree}
use Rattle.element_grammar.specs.Surface.{surface_expr, surface_stmt, surface_body}
use Rattle.element_tokens.specs.Tokens.{span_text}
use Rattle.element_text.specs.Scopes.{env_of}
use Rattle.element_text.specs.Resolve.{Env, Made, MadeBody, declared, with_locals, made_stmt}
use Rattle.element_text.proofs.NamesInScope.{Within, within_to, within_locals}
use Rattle.element_text.proofs.SoundStmts.{declared_within}
use Rattle.element_text.proofs.BodyNumbers.{numbering_more, numbering_end}
use Rattle.element_text.proofs.ChoiceNumbers.{choice_read, choice_made}
use Rattle.element_text.proofs.RepeatNumbers.{cut_env, repeat_made}
use Rattle.element_text.proofs.rules.+statement.Goals as goal

pub block-loop-next-preserved : goal.block-loop-next-preserved
block-loop-next-preserved t c =
    numbering_more c.loop-next.next-index c.next-item.result c.loop-next-test.true c.next-item.is c.loop-next.invariant c.requires c.in_ok-made.made _
    c.in_ok-made.ensures c.in_ok-push.ensures.items

pub block-returns-clause-body : goal.block-returns-clause-body
block-returns-clause-body t c = numbering_end c.loop-next.next-index c.loop-next-test.false c.loop-next.invariant

pub block-returns-clause-env : goal.block-returns-clause-env
block-returns-clause-env t c =
    let outer = c.args.scope.now.known.entries in
    let count : c.len-outer.result ≡ length outer = search rules in
    cut_env (env_of c.args.scope.now) c.loop-next.scope.objects c.loop-next.scope.locals outer c.loop-next.scope.known.entries
    c.truncate.new.self.entries c.len-outer.result refl c.loop-next.invariant.within count c.truncate.ensures.entries

pub statement-returns-in_ok-no-in-If : goal.statement-returns-in_ok-no-in-If
statement-returns-in_ok-no-in-If t c =
    let text = c.args.text.now in
    let env = env_of c.args.scope.now in
    let same = ap (surface_stmt text) c.in-If.is
    ∙ choice_read text c.in-If.cond c.in-If.yes c.in-If.no c.deref-in-If.ensures.value c.deref-in-If-2.ensures.value in
    let next = env_of c.block.new.scope in
    let last = env_of c.block-in-If.new.scope in
    let cond = surface_expr text c.in-If.cond in
    let first = surface_body text c.deref-in-If.result.now in
    let second = surface_body text c.deref-in-If-2.result.now in
    let a : MadeBody = record { tree = body_tree c.in_ok-yes-in-If.yes.items; locals = c.block.new.scope.locals } in
    let b : MadeBody = record { tree = body_tree c.in_ok-no-in-If.no.items; locals = c.block-in-If.new.scope.locals } in
    ap (made_stmt env) same
    ∙ choice_made env cond first second _ c.in_ok-cond-in-If.ensures next last a b _ c.in_ok-yes-in-If.ensures.body c.in_ok-yes-in-If.ensures.env
    c.in_ok-no-in-If.ensures.body c.in_ok-no-in-If.ensures.env c.choice.ensures

pub repeat-returns : goal.repeat-returns
repeat-returns t c =
    let text = c.args.text.now in
    let env = env_of c.args.scope.now in
    let inside = env_of c.declare.new.self in
    let index = span_text text c.args.index in
    let body = surface_body text c.args.source.now in
    let outer = c.args.scope.now.known.entries in
    let scope = c.block.new.scope in
    let cut = c.truncate.new.self.entries in
    let b : MadeBody = record { tree = body_tree c.in_ok-body.body.items; locals = scope.locals } in
    let known : declared env index 32 ≡ Some inside = ap (declared env index) (sym c.width_of.ensures) ∙ c.in_ok-index.ensures.declared in
    let made = repeat_made env index c.args.count body c.requires inside known b c.in_ok-body.ensures.body in
    let tree : trees.repeat (length env.locals) c.args.count b.tree ≡ stmt_tree c.repeated.result = ap (λ i. trees.repeat i c.args.count b.tree)
    (sym c.in_ok-index.ensures.number) ∙ sym c.repeated.ensures in
    let within : Within env (env_of scope) = within_to (within_locals scope.locals (declared_within env inside index 32 known))
    (sym c.in_ok-body.ensures.env) in
    let count : c.len-before.result ≡ length outer = search rules in
    let left = cut_env env scope.objects scope.locals outer scope.known.entries cut c.len-before.result refl within count c.truncate.ensures.entries in
    let P : StmtTree → Env → Option Made = λ x y. Some (record { tree = x; env = y }) in
    made ∙ ap (λ x. P x (with_locals env scope.locals)) tree ∙ ap (P (stmt_tree c.repeated.result)) (sym left)
