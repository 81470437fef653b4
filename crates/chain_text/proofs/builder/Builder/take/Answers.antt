use Rattle.std.proofs.Common.{◌≡◌, IfOk, sym, ap, ap₂, subst, ◌∙◌}
use Rattle.chain_text.specs.Grammar.{Statement, declares, wires}
use Rattle.chain_text.specs.Statements.{statement_of}
use Rattle.chain_text.proofs.StatementsTaken.{Taken, taken_declaration, taken_wire}
use Rattle.chain_text.proofs.builder.Builder.take.Goals as goal

pub returns-in-Declares : goal.returns-in-Declares
returns-in-Declares c =
    λ before h.
    let text = c.args.text.now in
    let P : Statement → Type 0 = λ s. IfOk c.declare.result (Taken before s c.declare.new.self) in
    let same : declares c.word_of.result.now c.word_of-in-Declares.result.now ≡ statement_of text c.args.statement =
    ap₂ declares c.word_of.ensures c.word_of-in-Declares.ensures ∙ ap (statement_of text) (sym c.in-Declares.is) in
    subst P same
    (taken_declaration before c.args.self.now c.declare.new.self c.word_of.result.now c.word_of-in-Declares.result.now c.declare.result h
    c.declare.ensures.taken c.declare.ensures.elements c.declare.ensures.wires c.declare.ensures.outputs)

pub returns-in-Wires : goal.returns-in-Wires
returns-in-Wires c =
    λ before h.
    let text = c.args.text.now in
    let w = c.in-Wires in
    let P : Statement → Type 0 = λ s. IfOk c.wire.result (Taken before s c.wire.new.self) in
    let same : wires c.word_of-in-Wires.result.now w.output w.input c.word_of-in-Wires-2.result.now ≡ statement_of text c.args.statement =
    ap₂ (λ x y. wires x w.output w.input y) c.word_of-in-Wires.ensures c.word_of-in-Wires-2.ensures ∙ ap (statement_of text) (sym w.is) in
    subst P same
    (taken_wire before c.args.self.now c.wire.new.self c.word_of-in-Wires.result.now c.word_of-in-Wires-2.result.now w.output w.input c.wire.result h
    c.wire.ensures.taken c.wire.ensures.elements c.wire.ensures.wires c.wire.ensures.outputs)
