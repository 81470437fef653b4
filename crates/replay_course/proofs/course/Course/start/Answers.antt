use Rattle.std.proofs.Common.{subst, ap, refl, ◌∙◌}
use Rattle.std.proofs.lemmas.Result.{err_from_is_err_and}
use Rattle.flat_ir.specs.Program.{program_of}
use Rattle.server_runtime.specs.Views.{server_of}
use Rattle.std.proofs.lemmas.List.Elements.{recursion_from_All}
use Rattle.flat_ir.specs.Arrivals.{IsArrival}
use Rattle.std.specs.Prelude.{Ok, if◌then◌else◌}
use Rattle.switch_ir.specs.Code.{Code}
use Rattle.switch_ir.specs.Port.{Loads}
use Rattle.replay_contracts.specs.Replayer.{inputs_of}
use Rattle.replay_course.proofs.LeftByErrors.{broken_off, not_begun, not_loaded}
use Rattle.replay_course.proofs.NextEvent.{is_prepared, started}
use Rattle.replay_course.proofs.course.Course.start.Goals as goal

pub returns-clause-loads : goal.returns-clause-loads
returns-clause-loads g c =
    subst (λ code. Loads (Ok tt) code (g.S.SwitchPort.seen c.args.port.now) (g.S.SwitchPort.seen c.load.new.self)) c.in_ok-code.ensures.code
    c.in_ok-load.ensures

pub returns-in_err-code-clause-fails : goal.returns-in_err-code-clause-fails
returns-in_err-code-clause-fails g c =
    let p = err_from_is_err_and c.from_residual.result c.from_residual.ensures.1 in
    rw (p.1, p.2) (not_begun (inputs_of c.args.job.now) (g.S.SwitchPort.seen c.args.port.now))

pub returns-in_err-load-clause-fails : goal.returns-in_err-load-clause-fails
returns-in_err-load-clause-fails g c =
    let p = err_from_is_err_and c.from_residual-in_err-load.result c.from_residual-in_err-load.ensures.1 in
    rw (p.1, p.2) (not_loaded (inputs_of c.args.job.now) c.in_err-load.field-0.0 _ _ _ c.in_err-load.ensures)

pub returns-in_err-store-clause-fails : goal.returns-in_err-store-clause-fails
returns-in_err-store-clause-fails g c =
    let p = err_from_is_err_and c.from_residual-in_err-store.result c.from_residual-in_err-store.ensures.1 in
    let loads = subst (λ code. Loads (Ok tt) code (g.S.SwitchPort.seen c.args.port.now) (g.S.SwitchPort.seen c.load.new.self)) c.in_ok-code.ensures.code
    c.in_ok-load.ensures in
    rw (p.1, p.2) (broken_off (inputs_of c.args.job.now) _ _ loads)

pub returns-in_err-server-clause-fails : goal.returns-in_err-server-clause-fails
returns-in_err-server-clause-fails g c =
    let p = err_from_is_err_and c.from_residual-in_err-server.result c.from_residual-in_err-server.ensures.1 in
    let loads = subst (λ code. Loads (Ok tt) code (g.S.SwitchPort.seen c.args.port.now) (g.S.SwitchPort.seen c.load.new.self)) c.in_ok-code.ensures.code
    c.in_ok-load.ensures in
    rw (p.1, p.2) (broken_off (inputs_of c.args.job.now) _ _ loads)

pub returns-clause-started : goal.returns-clause-started
returns-clause-started g c =
    let x = inputs_of c.args.job.now in
    let loads = subst (λ code. Loads (Ok tt) code (g.S.SwitchPort.seen c.args.port.now) (g.S.SwitchPort.seen c.load.new.self)) c.in_ok-code.ensures.code
    c.in_ok-load.ensures in
    let pre = c.stages_in-pre_stages.ensures.pre ∙ ap (λ (k : Code). if x.manner.fine then k.pre.highest else 0) c.in_ok-code.ensures.code in
    let post = c.stages_in-pre_stages.ensures.post ∙ ap (λ (k : Code). if x.manner.fine then k.post.highest else 0) c.in_ok-code.ensures.code in
    started x c.new-3.result (server_of c.in_ok-server.server) _ _ c.stages_in-pre_stages.result.0 c.stages_in-pre_stages.result.1
    (is_prepared x c.requires.split c.requires.stages (recursion_from_All IsArrival c.args.job.now.packets c.as_slice.ensures.arrivals) refl c.requires.few_commands)
    loads pre post
    (c.in_ok-server.ensures ∙ ap (λ st. record {
      program = program_of c.args.job.now.flat;
      split = c.args.job.now.split;
      store = st;
      version = 0;
      evaluated = 0;
    }) c.in_ok-store.ensures)
    c.new-3.ensures.shown c.new-3.ensures.sound c.new-3.ensures.unapplied
