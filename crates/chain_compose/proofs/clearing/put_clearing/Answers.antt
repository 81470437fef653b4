use Rattle.std.proofs.Common.{◌≡◌, ◌∙◌, suc, ◌+◌, ◌∷◌, drop, slice_index_or, sym, ap, arith, drop-cons}
use Rattle.std.proofs.Math.ListN.{drop_of_length-le}
use Rattle.packet_fields.specs.declared.field.Field.{Field}
use Rattle.packet_fields.specs.declared.field.Field.TheVariants.{MetaPort}
use Rattle.element_lang.specs.View.{body_tree}
use Rattle.element_lang.specs.Tree.{ExprTree}
use Rattle.element_lang.specs.Tree.StmtTree.{set_field}
use Rattle.element_chain.specs.Compose.{followed, one, clearing}
use Rattle.chain_compose.proofs.Levels.{push_set_field}
use Rattle.chain_compose.proofs.Steps.{cleared_more}
use Rattle.element_chain.proofs.GoodBodies.{followed_done}
use Rattle.chain_compose.proofs.clearing.put_clearing.Goals as goal

pub loop-field-preserved : goal.loop-field-preserved
loop-field-preserved c =
    let i = c.loop-field.field-index in
    let fields = c.args.written.now in
    let out = body_tree c.loop-field.out.items in
    let f : Field = slice_index_or fields i MetaPort in
    let next : suc i ≡ i + 1 = omega arith in
    let from : drop i fields ≡ f ∷ drop (i + 1) fields = drop-cons fields i MetaPort c.loop-field-test.true ∙ ap (λ k. f ∷ drop k fields) next in
    cleared_more out _ f (drop (i + 1) fields) _
    (ap body_tree c.in_ok-push.ensures.items ∙ push_set_field _ f c.in_ok-kept_where.field-0 ∙ ap (λ (e : ExprTree). followed out (one (set_field f e))) c.in_ok-kept_where.ensures)
    (ap (λ fs. followed out (clearing fs)) (sym from) ∙ c.loop-field.invariant)

pub returns : goal.returns
returns c =
    let none : drop c.loop-field.field-index c.args.written.now ≡ _ = drop_of_length-le c.args.written.now c.loop-field-test.false in
    sym (followed_done (body_tree c.loop-field.out.items)) ∙ sym (ap (λ fs. followed (body_tree c.loop-field.out.items) (clearing fs)) none) ∙ c.loop-field.invariant
