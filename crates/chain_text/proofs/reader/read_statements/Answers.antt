use Rattle.std.proofs.Common.{◌≤◌, ℕ, List, length, ap, subst, ◌∙◌, arith, rules}
use Rattle.std.proofs.lemmas.Bool.{MatchBool-at_true, MatchBool-at_false}
use Rattle.element_chain.specs.declared.chain.Wire.{Wire}
use Rattle.element_chain.specs.Wiring.{Leads, HasNoCycle}
use Rattle.chain_text.specs.Reads.{elements_of, most_elements, IsRefused}
use Rattle.chain_text.specs.Statements.{statements_of}
use Rattle.chain_text.proofs.Declared.{declared_count}
use Rattle.chain_text.proofs.ReaderAnswers.{many_elements, take_error, has_a_cycle, chain_text, composable}
use Rattle.chain_text.proofs.reader.read_statements.Goals as goal
use Rattle.chain_text.proofs.reader.read_statements.Goals.{Else-branch}

pub returns-then-count-gt-MAX_ELEMENTS-clause-err : goal.returns-then-count-gt-MAX_ELEMENTS-clause-err
returns-then-count-gt-MAX_ELEMENTS-clause-err c =
    many_elements (statements_of c.args.text.now c.args.statements.now) c.declarations-count.result c.told.result c.requires
    (c.declarations-count.ensures ∙ declared_count c.args.text.now c.args.statements.now) c.if-count-gt-MAX_ELEMENTS.true c.told.ensures

pub take_all-requires : goal.take_all-requires
take_all-requires c = omega (arith, c.declarations-count.ensures, declared_count c.args.text.now c.args.statements.now)

pub returns-in_err-chain-clause-err : goal.returns-in_err-chain-clause-err
returns-in_err-chain-clause-err c =
    let text = c.args.text.now in
    let ss = statements_of text c.args.statements.now in
    let few : length (elements_of ss) ≤ most_elements = omega (arith, c.declarations-count.ensures, declared_count text c.args.statements.now) in
    let refused : IsRefused text c.in_err-chain.field-0.0 = take_error ss c.in_err-chain.field-0.0 c.requires few c.in_err-chain.ensures.err in
    search (rules, refused)

-- how many elements there are
pub has_cycle-requires-clause-few_elements : goal.has_cycle-requires-clause-few_elements
has_cycle-requires-clause-few_elements c =
    omega (arith, c.declarations-count.ensures, declared_count c.args.text.now c.args.statements.now, ap length c.in_ok-chain.ensures.ok.elements)

pub returns-then-branch-clause-err : goal.returns-then-branch-clause-err
returns-then-branch-clause-err c =
    let text = c.args.text.now in
    let ss = statements_of text c.args.statements.now in
    let few : length (elements_of ss) ≤ most_elements = omega (arith, c.declarations-count.ensures, declared_count text c.args.statements.now) in
    let P : List Wire → Type 0 = λ ws. (e : ℕ) × Leads ws e e in
    let cycle = MatchBool-at_true _ _ c.if-branch.true c.in_ok-has_cycle.ensures in
    has_a_cycle ss c.in_ok-chain.chain c.requires few c.in_ok-chain.ensures.ok (omega arith) (subst P c.as_slice.ensures cycle)

-- no wires lead from an element back to it
none : (c : Else-branch) → HasNoCycle c.in_ok-chain.chain.wires
none c = let P : List Wire → Type 0 = HasNoCycle in subst P c.as_slice.ensures (MatchBool-at_false _ _ c.if-branch.false c.in_ok-has_cycle.ensures)

few : (c : Else-branch) → length (elements_of (statements_of c.args.text.now c.args.statements.now)) ≤ most_elements
few c = omega (arith, c.declarations-count.ensures, declared_count c.args.text.now c.args.statements.now)

pub returns-clause-ok : goal.returns-clause-ok
returns-clause-ok c =
    chain_text (statements_of c.args.text.now c.args.statements.now) c.in_ok-chain.chain c.requires (few c) c.in_ok-chain.ensures.ok (omega arith) (none c)

pub returns-clause-composable : goal.returns-clause-composable
returns-clause-composable c =
    composable (statements_of c.args.text.now c.args.statements.now) c.in_ok-chain.chain (few c) c.in_ok-chain.ensures.ok (omega arith) (none c)
