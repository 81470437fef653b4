use Rattle.std.proofs.Common.{arith}
use Rattle.output_commit.proofs.NextPlace.{at_batch, one_within, pass_here, pass_next, pass_there}
use Rattle.output_commit.proofs.place.Place.pass.Goals as goal

pub commands-requires : goal.commands-requires
commands-requires c =
    let spans = c.args.spans.now in
    let p = c.args.self.now in
    let w = one_within spans p.batch (record { first = 0; changes = 0; versions = 0 }) (at_batch spans p c.requires.at c.requires.within) in
    let few = c.requires.few_commands in
    omega arith

pub returns-then-self-commands-clause-stands : goal.returns-then-self-commands-clause-stands
returns-then-self-commands-clause-stands c =
    let lt = c.if-self-commands.true in
    let len = c.commands.ensures in
    (pass_here c.args.spans.now c.args.self.now (record { first = 0; changes = 0; versions = 0 }) c.requires.at c.requires.within (omega arith)).there

pub bounds-spans-self-2 : goal.bounds-spans-self-2
bounds-spans-self-2 c =
    let le = c.if-self-commands.false in
    let len = c.commands.ensures in
    pass_there c.args.spans.now c.args.self.now (record { first = 0; changes = 0; versions = 0 }) c.requires.at c.requires.within (omega arith)

pub returns : goal.returns
returns c =
    let le = c.if-self-commands.false in
    let len = c.commands.ensures in
    let on = pass_next c.args.spans.now c.args.self.now (record { first = 0; changes = 0; versions = 0 }) c.requires.at c.requires.within (omega arith) in
    record { at = on.inside; passed = on.one; stands = on.there }
