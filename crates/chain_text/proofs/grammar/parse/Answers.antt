use Rattle.std.proofs.Common.{◌≤◌, ◌+◌, [], length, drop, arith}
use Rattle.chain_text.specs.Tokens.{tokens_of}
use Rattle.chain_text.specs.Grammar.{statement_tokens}
use Rattle.chain_text.specs.Statements.{statement_of}
use Rattle.chain_text.proofs.StatementsFound.{left_at, one_more, wrong_at, wrong_fits, front_fits}
use Rattle.chain_text.proofs.grammar.parse.Goals as goal
use Rattle.chain_text.proofs.grammar.parse.Goals.{In_ok-push-in-Ok}

pub overflow_add-place : goal.overflow_add-place
overflow_add-place c =
    let front = statement_tokens (statement_of [] c.in-Ok.statement) in
    let here = left_at c.args.tokens.now c.loop-place.place in
    let fits = front_fits [] c.args.tokens.now c.loop-place.place front (drop (length front) (tokens_of [] here)) (c.in-Ok.ensures.ok []) in
    omega (arith, fits, c.tokens-place.ensures.count [])

-- the statement's tokens lie within the list
room : (c : In_ok-push-in-Ok) → c.loop-place.place + c.tokens-place.result ≤ length c.args.tokens.now
room c =
    let front = statement_tokens (statement_of [] c.in-Ok.statement) in
    let here = left_at c.args.tokens.now c.loop-place.place in
    let fits = front_fits [] c.args.tokens.now c.loop-place.place front (drop (length front) (tokens_of [] here)) (c.in-Ok.ensures.ok []) in
    omega (arith, fits, c.tokens-place.ensures.count [])

pub loop-place-smaller : goal.loop-place-smaller
loop-place-smaller c = omega (arith, room c)

pub loop-place-preserved : goal.loop-place-preserved
loop-place-preserved c = record {
  within = room c;
  so_far = λ text. one_more text c.args.tokens.now c.loop-place.found.items c.push.new.self.items c.in-Ok.statement c.loop-place.place c.tokens-place.result
      (c.loop-place.invariant.so_far text) (c.in-Ok.ensures.ok text) (c.tokens-place.ensures.count text) c.in_ok-push-in-Ok.ensures.items;
}

pub overflow_add-result : goal.overflow_add-result
overflow_add-result c = omega (arith, wrong_fits [] c.args.tokens.now c.loop-place.place c.in-Err.right (c.in-Err.ensures.err []))

pub returns-in-Err-clause-err : goal.returns-in-Err-clause-err
returns-in-Err-clause-err c =
    λ text. wrong_at text c.args.tokens.now c.loop-place.found.items c.loop-place.place c.in-Err.right (c.loop-place.invariant.so_far text)
    c.loop-place.invariant.within (c.in-Err.ensures.err text)
