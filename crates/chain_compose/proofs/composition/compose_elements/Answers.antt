use Rattle.std.proofs.Common.{◌<◌, ◌^◌, IsTrue, List, sym, subst}
use Rattle.std.specs.List.{All}
use Rattle.element_chain.specs.declared.chain.Wire.{Wire}
use Rattle.element_lang.specs.Accepted.{HasNames}
use Rattle.element_lang.specs.Rules.{is_good}
use Rattle.element_lang.specs.Tree.{Tree}
use Rattle.chain_compose.specs.Parts.{connected}
use Rattle.chain_compose.proofs.Fits.{fits, all_good, at_each, is_small}
use Rattle.element_chain.proofs.Laws.{composition_keeps_the_rules-names, composition_keeps_the_rules-rules}
use Rattle.chain_compose.proofs.composition.compose_elements.Goals as goal

pub whole-requires-clause-good : goal.whole-requires-clause-good
whole-requires-clause-good c = all_good c.args.classes.now c.requires.good

pub returns-clause-fits : goal.returns-clause-fits
returns-clause-fits c =
    let ms = c.args.classes.now in
    let wires = c.args.chain.now.wires in
    let placed = c.in_ok-refuse_elements.ensures.ok in
    let inputs = subst (λ (ws : List Wire). All (λ (w : Wire). w.input < 2 ^ 8) ws) c.as_slice.ensures c.inputs_are_bytes.ensures in
    fits ms wires c.requires.nonempty c.requires.good placed.reads inputs c.requires.within c.requires.acyclic

pub returns-clause-rules : goal.returns-clause-rules
returns-clause-rules c =
    let ms = c.args.classes.now in
    let wires = c.args.chain.now.wires in
    let placed = c.in_ok-refuse_elements.ensures.ok in
    let m = c.in_ok-middlebox.middlebox in
    let inputs = subst (λ (ws : List Wire). All (λ (w : Wire). w.input < 2 ^ 8) ws) c.as_slice.ensures c.inputs_are_bytes.ensures in
    subst (λ (t : Tree). IsTrue (is_good t)) (sym c.in_ok-middlebox.ensures.made)
    (composition_keeps_the_rules-rules (connected ms wires) (fits ms wires c.requires.nonempty c.requires.good placed.reads inputs c.requires.within c.requires.acyclic) placed.repeats
    (is_small ms wires m c.requires.few_classes c.in_ok-middlebox.ensures.made c.in_ok-middlebox.ensures.small))

pub returns-clause-names : goal.returns-clause-names
returns-clause-names c =
    let ms = c.args.classes.now in
    let wires = c.args.chain.now.wires in
    let m = c.in_ok-middlebox.middlebox in
    subst (λ (t : Tree). HasNames t) (sym c.in_ok-middlebox.ensures.made)
    (composition_keeps_the_rules-names (connected ms wires) (is_small ms wires m c.requires.few_classes c.in_ok-middlebox.ensures.made c.in_ok-middlebox.ensures.small) (at_each HasNames ms c.requires.names))
