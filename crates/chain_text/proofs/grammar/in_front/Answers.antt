use Rattle.std.proofs.Common.{◌≡◌, ◌++◌, ℕ, List, drop, max, sym, ap₂, subst, ◌∙◌, arith}
use Rattle.std.proofs.lemmas.List.{length-map}
use Rattle.chain_text.specs.Token.{Token}
use Rattle.lexer.specs.Tokens.{span_text}
use Rattle.chain_text.specs.Tokens.{token_of, tokens_of}
use Rattle.lexer.specs.declared.token.Span.{Span}
use Rattle.chain_text.specs.declared.shape.TheConstants.{DECLARATION, WIRE}
use Rattle.chain_text.specs.Grammar.{declares, wires, statement_tokens, IsFirstWrong}
use Rattle.chain_text.specs.Statements.{span_at, value_at}
use Rattle.chain_text.specs.Shapes.{fit_of}
use Rattle.chain_text.proofs.FitOfShapes.{declaration_found, wire_found}
use Rattle.chain_text.proofs.FirstWrong.{first_wrong}
use Rattle.chain_text.proofs.grammar.in_front.Goals as goal

pub returns-then-declaration-eq4-clause-ok : goal.returns-then-declaration-eq4-clause-ok
returns-then-declaration-eq4-clause-ok c =
    λ text.
    let ps = c.args.tokens.now in
    let F = λ (a b : Span). statement_tokens (declares (span_text text a) (span_text text b)) ++ drop 4 (tokens_of text ps) in
    declaration_found text ps (sym (c.fit-declaration.ensures.value text) ∙ c.if-declaration-eq4.true)
    ∙ ap₂ F (sym c.name_at.ensures) (sym c.name_at-then-declaration-eq4.ensures)

pub returns-then-wire-eq10-clause-ok : goal.returns-then-wire-eq10-clause-ok
returns-then-wire-eq10-clause-ok c =
    λ text.
    let ps = c.args.tokens.now in
    let rest : List Token = drop 10 (tokens_of text ps) in
    let from = λ (a : Span) (k : ℕ). statement_tokens (wires (span_text text a) k (value_at ps 6) (span_text text (span_at ps 8))) ++ rest in
    let to = λ (j : ℕ) (b : Span).
    statement_tokens (wires (span_text text c.name_at-then-wire-eq10.result) c.number_at.result j (span_text text b)) ++ rest in
    wire_found text ps (sym (c.fit-wire.ensures.value text) ∙ c.if-wire-eq10.true)
    ∙ ap₂ from (sym c.name_at-then-wire-eq10.ensures) (sym c.number_at.ensures)
    ∙ ap₂ to (sym c.number_at-then-wire-eq10.ensures) (sym c.name_at-then-wire-eq10-2.ensures)

pub returns-clause-err : goal.returns-clause-err
returns-clause-err c =
    λ text.
    let ts : List Token = tokens_of text c.args.tokens.now in
    let P : ℕ → Type 0 = IsFirstWrong ts in
    let some = length-map c.args.tokens.now (λ p. token_of text p.token) in
    let d = c.fit-declaration.ensures.value text in
    let w = c.fit-wire.ensures.value text in
    let far : c.max.result ≡ max (fit_of DECLARATION ts) (fit_of WIRE ts) = c.max.ensures ∙ ap₂ max d w in
    subst P (sym far) (first_wrong ts (omega (arith, some)) (λ e. c.if-declaration-eq4.false (d ∙ e)) (λ e. c.if-wire-eq10.false (w ∙ e)))
