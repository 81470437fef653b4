use Rattle.std.proofs.Common.{◌∙◌, map, sym, ap, arith}
use Rattle.element_lang.specs.declared.tree.Middlebox.{Middlebox}
use Rattle.element_lang.specs.View.{tree}
use Rattle.chain_compose.specs.Refusals.{ReadsBehind}
use Rattle.chain_compose.proofs.Firsts.{none_more, no_reader, a_reader, no_readers}
use Rattle.chain_compose.proofs.refusals.first_reader.Goals as goal

pub loop-element-init : goal.loop-element-init
loop-element-init c = λ e lt behind. omega (arith, lt, behind.behind)

pub loop-element-preserved : goal.loop-element-preserved
loop-element-preserved c =
    let ms = c.args.classes.now in
    none_more (ReadsBehind (map tree ms)) c.loop-element.element c.loop-element.invariant
    (no_reader ms c.loop-element.element c.index-classes-element.result c.deref.result.now c.any_uses_bytes.result c.loop-element-test.true c.index-classes-element.is
    (c.deref.ensures.value ∙ ap (λ (k : Middlebox). k.body.items) (sym c.index-classes-element.is)) c.any_uses_bytes.ensures c.if-any_uses_bytes.false)

pub returns-then-any_uses_bytes : goal.returns-then-any_uses_bytes
returns-then-any_uses_bytes c =
    a_reader c.args.classes.now c.loop-element.element c.index-classes-element.result c.deref.result.now c.any_uses_bytes.result c.loop-element-test.true c.index-classes-element.is
    (c.deref.ensures.value ∙ ap (λ (k : Middlebox). k.body.items) (sym c.index-classes-element.is)) c.any_uses_bytes.ensures c.if-any_uses_bytes.true (omega (arith, c.loop-element.auto.element)) c.loop-element.invariant

pub returns : goal.returns
returns c = no_readers c.args.classes.now c.loop-element.element c.loop-element-test.false c.loop-element.invariant
