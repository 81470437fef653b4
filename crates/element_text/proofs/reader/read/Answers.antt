use Rattle.std.proofs.Common.{◌≡◌, ◌⊎◌, IsUtf8, inr, rules}
use Rattle.std.specs.Str.{valid_up_to}
use Rattle.element_text.specs.declared.error.TextError.TheVariants.{NotUtf8, NoMemory}
use Rattle.element_text.specs.Errors.{token_error}
use Rattle.element_text.specs.Reads.{IsAnswer, IsOnlyRefused}
use Rattle.element_text.proofs.Refusals.{not_utf8, token_answer, answer_refused, answer_exact, answer_found}
use Rattle.element_text.proofs.reader.read.Goals as goal
use Rattle.element_text.proofs.reader.read.Goals.{After-from_residual, After-from_residual-in_err-found}

-- the text is no UTF-8
no_utf8 : (c : After-from_residual) → IsAnswer c.args.text.now c.from_residual.result
no_utf8 c =
    let text = c.args.text.now in
    let n = valid_up_to c.in_err-from_utf8.field-0.0 in
    let here : IsOnlyRefused text (NotUtf8 n) = not_utf8 text n c.in_err-from_utf8.ensures.cases.0 c.in_err-from_utf8.ensures.cases.1 in
    let answer : (NotUtf8 n ≡ NoMemory) ⊎ IsOnlyRefused text (NotUtf8 n) = inr here in
    search (rules, answer)

pub returns-in_err-from_utf8-clause-refused : goal.returns-in_err-from_utf8-clause-refused
returns-in_err-from_utf8-clause-refused c = answer_refused _ c.from_residual.result (no_utf8 c)

pub returns-in_err-from_utf8-clause-exact : goal.returns-in_err-from_utf8-clause-exact
returns-in_err-from_utf8-clause-exact c = answer_exact _ c.from_residual.result (no_utf8 c)

-- it has no tokens
no_tokens : (c : After-from_residual-in_err-found) → IsAnswer c.args.text.now c.from_residual-in_err-found.result
no_tokens c =
    let text = c.args.text.now in
    let e = c.in_err-found.field-0.0 in
    let utf8 : IsUtf8 text = search rules in
    let answer : (token_error e ≡ NoMemory) ⊎ IsOnlyRefused text (token_error e) = token_answer text utf8 e c.in_err-found.ensures.err in
    search (rules, answer)

pub returns-in_err-found-clause-exact : goal.returns-in_err-found-clause-exact
returns-in_err-found-clause-exact c = answer_exact _ c.from_residual-in_err-found.result (no_tokens c)

pub returns-clause-found : goal.returns-clause-found
returns-clause-found c = answer_found _ c.read_tokens.result c.read_tokens.ensures
