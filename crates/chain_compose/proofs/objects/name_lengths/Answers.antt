use Rattle.std.proofs.Common.{◌∙◌, ◌++◌, List, sym, ap}
use Rattle.state_store.specs.declared.object.ObjectDecl.{ObjectDecl}
use Rattle.element_lang.specs.declared.tree.Middlebox.{Middlebox}
use Rattle.element_chain.specs.Compose.{named_objects}
use Rattle.chain_compose.proofs.AllObjects.{names_told, lengths_of_names}
use Rattle.chain_compose.proofs.objects.name_lengths.Goals as goal

pub loop-element-preserved : goal.loop-element-preserved
loop-element-preserved c =
    let i = c.loop-element.element in
    let m = c.index-classes-element.result in
    let had = c.loop-element.names.items in
    names_told c.args.classes.now i m had _ _ c.loop-element-test.true c.index-classes-element.is
    (c.in_ok-put_name_lengths.ensures
    ∙ ap (λ (os : List ObjectDecl). had ++ lengths_of_names (named_objects i os)) (c.as_slice.ensures ∙ ap (λ (k : Middlebox). k.objects) (sym c.index-classes-element.is)))
    c.loop-element.invariant
