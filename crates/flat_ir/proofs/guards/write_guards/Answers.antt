use Rattle.std.proofs.Common.{◌≡◌, [], sym, subst, arith, length}
use Rattle.std.proofs.lemmas.List.{length-map}
use Rattle.flat_ir.specs.Program.{program_of, step_of}
use Rattle.flat_ir.specs.Guarding.{AreWriteBlocks, AreGuardsFrom}
use Rattle.flat_ir.proofs.GuardValues.{from_last, all_found}
use Rattle.flat_ir.proofs.guards.write_guards.Goals as goal

pub loop-b-init : goal.loop-b-init
loop-b-init c =
    let f = program_of c.args.f.now in
    let count = length-map c.args.f.now.code step_of in
    let covering = c.in_ok-covering.covering.items in
    let writes : AreWriteBlocks f (length f.code) covering = subst (λ n. AreWriteBlocks f n covering) (sym count) c.in_ok-covering.ensures in
    record {
      inside = omega (arith, c.len-b.ensures);
      from = subst (AreGuardsFrom f c.len-b.result covering) (sym c.new-found.ensures.items) (subst (λ b. AreGuardsFrom f b covering []) (sym c.len-b.ensures) (from_last f covering c.requires.blocks writes));
    }

pub returns-clause-exact : goal.returns-clause-exact
returns-clause-exact c =
    let f = program_of c.args.f.now in
    let done : c.loop-b.b ≡ 0 = omega arith in
    let from = subst (λ b. AreGuardsFrom f b c.loop-b.covering.items c.loop-b.found.items) done c.loop-b.invariant.from in
    all_found f c.loop-b.covering.items c.loop-b.found.items c.requires.parents from
