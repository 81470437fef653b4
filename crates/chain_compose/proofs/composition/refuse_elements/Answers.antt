use Rattle.std.proofs.Common.{List, length, subst}
use Rattle.element_chain.specs.declared.chain.Wire.{Wire}
use Rattle.chain_compose.specs.Reach.{ShowsBy, is_shown}
use Rattle.chain_compose.proofs.Repeats.{none_behind, first_behind, shown_leads}
use Rattle.element_chain.proofs.Laws.{wires_lead}
use Rattle.chain_compose.proofs.composition.refuse_elements.Goals as goal

pub returns-in-Some-first_repeater-clause-err : goal.returns-in-Some-first_repeater-clause-err
returns-in-Some-first_repeater-clause-err c =
    let ms = c.args.classes.now in
    let wires = c.args.chain.now.wires in
    let n = length ms in
    let reach = c.in_ok-reach.reach in
    let shows : ShowsBy wires n n reach = subst (λ (ws : List Wire). ShowsBy ws n n reach) c.as_slice.ensures c.in_ok-reach.ensures in
    let found = c.in-Some-first_repeater.ensures in (
      c.in_default.ensures,
      first_behind ms wires (is_shown reach) (shown_leads wires n reach shows (λ count e f within. wires_lead wires count e f within) c.requires.within) c.in-Some-first_repeater.element found.0 found.1 found.2,
    )

pub returns-clause-ok : goal.returns-clause-ok
returns-clause-ok c =
    let ms = c.args.classes.now in
    let wires = c.args.chain.now.wires in
    let n = length ms in
    let reach = c.in_ok-reach.reach in
    let shows : ShowsBy wires n n reach = subst (λ (ws : List Wire). ShowsBy ws n n reach) c.as_slice.ensures c.in_ok-reach.ensures in
    record {
      reads = c.in_default.ensures;
      repeats = none_behind ms wires (is_shown reach) (shown_leads wires n reach shows (λ count e f within. wires_lead wires count e f within) c.requires.within) c.in-None.ensures;
    }
