use Rattle.std.proofs.Common.{◌≡◌, ◌≤◌, length, arith}
use Rattle.std.proofs.lemmas.List.{length-map}
use Rattle.flat_ir.specs.Program.{program_of, step_of}
use Rattle.resource_limits.proofs.Tallies.{tally_low, tally_done, tally_count, tally_few}
use Rattle.resource_limits.proofs.uses.tally.Goals as goal

pub add_one-requires : goal.add_one-requires
add_one-requires c =
    let few : c.loop-i.i ≤ 4096 = omega (arith, c.len-i-end.ensures) in
    tally_low c.args.how (program_of c.args.f.now) c.args.s.now c.loop-i.i c.loop-i.tally.items few c.loop-i.invariant

pub returns : goal.returns
returns c =
    let f = c.args.f.now in
    let how = c.args.how in
    let split = c.args.s.now in
    let tally = c.loop-i.tally.items in
    let same : length (program_of f).code ≡ length f.code = length-map f.code step_of in
    let all : c.loop-i.i ≡ length (program_of f).code = omega (arith, c.len-i-end.ensures) in
    let few : length (program_of f).code ≤ 4096 = omega (arith, c.requires) in
    let exact = tally_done how (program_of f) split c.loop-i.i tally all c.loop-i.invariant in
    record {
      exact = exact;
      count = tally_count how (program_of f) split tally exact;
      bounded = tally_few how (program_of f) split tally few exact;
    }
