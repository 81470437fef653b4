use Rattle.std.proofs.Common.{◌∙◌, sym, ap, subst, arith, IsTrue}
use Rattle.flat_ir.specs.Fits.{fits}
use Rattle.flat_ir.specs.Operands.{CanRun}
use Rattle.flat_ir.specs.Program.{program_of, work_of, Step}
use Rattle.flat_ir.specs.Renamed.{renamed_can}
use Rattle.flat_ir.specs.Renaming.{renamed}
use Rattle.server_runtime.specs.Resolved.{place_name}
use Rattle.server_runtime.proofs.Steps.{code_length}
use Rattle.flat_ir.proofs.Steps.{step_is}
use Rattle.server_runtime.proofs.resolved.planned_step.Goals as goal

pub what_fits_can_run-requires : goal.what_fits_can_run-requires
what_fits_can_run-requires c =
    let flat = c.args.whole.now.flat in
    let i = c.args.instruction in
    let here = step_is flat i c.index-as_slice-instruction.result c.as_slice.result.now c.as_slice.ensures c.requires.within c.index-as_slice-instruction.is in
    subst (λ (s : Step). IsTrue (fits (program_of flat) s.work)) (sym here)
    (c.requires.prepared.bounded.formed.fit i (omega (arith, c.requires.within, code_length flat)))

pub returns-clause-resolved : goal.returns-clause-resolved
returns-clause-resolved c =
    let flat = c.args.whole.now.flat in
    let f = program_of flat in
    let i = c.args.instruction in
    let instr = c.index-as_slice-instruction.result in
    let names = place_name f c.args.values.now in
    let here = step_is flat i instr c.as_slice.result.now c.as_slice.ensures c.requires.within c.index-as_slice-instruction.is in
    record {
      work = c.in_ok-kind.ensures ∙ ap (λ (s : Step). renamed names s.work) here;
      can = subst CanRun (sym c.in_ok-kind.ensures) (renamed_can names (work_of instr.kind) c.what_fits_can_run.ensures);
      places = c.in_ok-places.ensures;
    }
