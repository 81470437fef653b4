use Rattle.std.proofs.Common.{length, subst, sym}
use Rattle.std.proofs.lemmas.List.Elements.{All-get_or}
use Rattle.element_lang.specs.Accepted.{HasNames}
use Rattle.element_lang.specs.View.{tree}
use Rattle.gallium_cli.proofs.Classes.{is_next, next_known, next_known_files, next_new, next_new_files, next_new_refused, next_new_read, next_new_few}
use Rattle.gallium_cli.proofs.Classes.{placed_within}
use Rattle.gallium_cli.proofs.chain.next_class.Goals as goal

pub returns-in-Ok-clause-ok : goal.returns-in-Ok-clause-ok
returns-in-Ok-clause-ok g c =
    let next = is_next c.args.elements.now _ c.index-elements-known.result c.as_slice-class.result.now c.requires.next
    c.as_slice-class.ensures in
    next_known _ c.args.elements.now c.args.known.now c.as_slice-class.result.now c.index-known-place.result _ c.in-Some.place
    next c.requires.known c.in-Some.ensures c.index-known-place.is c.in-Ok.ensures

pub returns-in-Ok-clause-names : goal.returns-in-Ok-clause-names
returns-in-Ok-clause-names g c =
    let known = c.args.known.now in
    let found = c.index-known-place.result in
    let within = placed_within c.args.elements.now (length known) c.as_slice-class.result.now c.in-Some.place c.in-Some.ensures in
    let named = All-get_or (λ m. HasNames (tree m)) known c.in-Some.place found within c.requires.names in
    subst HasNames (sym c.in-Ok.ensures) (subst (λ m. HasNames (tree m)) (sym c.index-known-place.is) named)

pub returns-in-Ok-clause-read : goal.returns-in-Ok-clause-read
returns-in-Ok-clause-read g c =
    let next = is_next c.args.elements.now _ c.index-elements-known.result c.as_slice-class.result.now c.requires.next
    c.as_slice-class.ensures in
    next_known_files c.args.elements.now _ c.as_slice-class.result.now c.in-Some.place _ next c.in-Some.ensures

pub returns-in-None-clause-ok : goal.returns-in-None-clause-ok
returns-in-None-clause-ok g c =
    let next = is_next c.args.elements.now _ c.index-elements-known.result c.as_slice-class.result.now c.requires.next
    c.as_slice-class.ensures in
    next_new c.load_class.result _ c.args.elements.now _ _ c.as_slice-class.result.now next c.requires.known c.in-None.ensures
    c.load_class.ensures.ok

pub returns-in-None-clause-err : goal.returns-in-None-clause-err
returns-in-None-clause-err g c =
    let next = is_next c.args.elements.now _ c.index-elements-known.result c.as_slice-class.result.now c.requires.next
    c.as_slice-class.ensures in
    next_new_refused c.load_class.result _ _ _ _ _
    (next_new_files c.args.elements.now _ c.as_slice-class.result.now next c.in-None.ensures) c.load_class.ensures.err

pub returns-in-None-clause-read : goal.returns-in-None-clause-read
returns-in-None-clause-read g c =
    let next = is_next c.args.elements.now _ c.index-elements-known.result c.as_slice-class.result.now c.requires.next
    c.as_slice-class.ensures in
    next_new_read c.load_class.result _ _ _ _ _
    (next_new_files c.args.elements.now _ c.as_slice-class.result.now next c.in-None.ensures) c.load_class.ensures.read

pub returns-in-None-clause-few_reads : goal.returns-in-None-clause-few_reads
returns-in-None-clause-few_reads g c =
    let next = is_next c.args.elements.now _ c.index-elements-known.result c.as_slice-class.result.now c.requires.next
    c.as_slice-class.ensures in
    next_new_few _ _ _ _ _
    (next_new_files c.args.elements.now _ c.as_slice-class.result.now next c.in-None.ensures) c.load_class.ensures.few_reads
