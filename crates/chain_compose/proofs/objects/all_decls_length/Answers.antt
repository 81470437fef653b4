use Rattle.std.proofs.Common.{◌∙◌, ◌≡◌, ◌+◌, List, map, drop, sym, ap, arith}
use Rattle.state_store.specs.declared.object.ObjectDecl.{ObjectDecl}
use Rattle.element_lang.specs.declared.tree.Middlebox.{Middlebox}
use Rattle.element_lang.specs.View.{tree}
use Rattle.element_print.specs.Lengths.{capped, decls_length}
use Rattle.element_chain.specs.Compose.{named_objects, objects_from}
use Rattle.chain_compose.proofs.AllObjects.{objects_at, decls_append}
use Rattle.chain_compose.proofs.objects.all_decls_length.Goals as goal

pub loop-element-preserved : goal.loop-element-preserved
loop-element-preserved c =
    let i = c.loop-element.element in
    let ms = c.args.classes.now in
    let m = c.index-classes-element.result in
    let own = named_objects i m.objects in
    let rest = objects_from (i + 1) (map tree (drop (i + 1) ms)) in
    let from : decls_length (objects_from i (map tree (drop i ms))) ≡ decls_length own + decls_length rest =
    ap decls_length (objects_at ms i m c.loop-element-test.true c.index-classes-element.is) ∙ decls_append own rest in
    let told : c.own_decls_length-own.result ≡ capped (decls_length own) =
    c.own_decls_length-own.ensures
    ∙ ap (λ (os : List ObjectDecl). capped (decls_length (named_objects i os))) (c.as_slice.ensures ∙ ap (λ (k : Middlebox). k.objects) (sym c.index-classes-element.is)) in
    (omega arith, omega (arith, from, told, c.loop-element.invariant.0, c.loop-element.invariant.1))
