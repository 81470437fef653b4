use Rattle.std.proofs.Common.{◌≡◌, ◌+◌, suc, List, length, refl, sym, ap, subst, arith, add-one}
use Rattle.std.proofs.lemmas.List.{get_or_past}
use Rattle.flat_ir.specs.Program.{program_of}
use Rattle.flat_ir.specs.Registers.{packet_of}
use Rattle.server_runtime.specs.declared.plan.PlannedStep.{PlannedStep}
use Rattle.server_runtime.specs.Registers.{handed}
use Rattle.server_runtime.specs.Resolved.{instructions_of}
use Rattle.server_runtime.specs.StepsTaken.{IsServing}
use Rattle.server_runtime.specs.Walks.{is_due}
use Rattle.server_runtime.proofs.Begun.{begun_of}
use Rattle.server_runtime.proofs.Steps.{code_length}
use Rattle.server_runtime.proofs.ByPlaces.{next_turn, still_resolved, turn_of_list, turns_count}
use Rattle.server_runtime.proofs.Walked.{at_or, before_first, due_turn, first_within}
use Rattle.server_runtime.proofs.Laws.{a_server_takes_turns-has, a_server_takes_turns-idle, a_server_takes_turns-kept, a_server_takes_turns-next, a_server_takes_turns-room}
use Rattle.server_runtime.proofs.run.take_steps.Goals as goal

pub loop-step-init : goal.loop-step-init
loop-step-init c =
    let whole = c.args.whole.now in
    let f = program_of whole.flat in
    let up = handed f whole.split c.args.values.now in
    let packet = packet_of c.args.arrival.now in
    let begun = begun_of whole up c.args.store.now packet c.requires.prepared c.requires.kept c.requires.fit c.requires.arrives in
    let steps = instructions_of whole.steps.items in
    let end = length f.code in
    let due = is_due f whole.split in
    record {
      serving = a_server_takes_turns-idle _ _ _ _ _ 0 (at_or steps 0 end) _ _ _ begun
          (record { ready = c.requires.ready; store = refl; told = c.requires.empty }) (omega arith)
          (first_within due 0 end steps (omega arith) c.requires.steps).1 (before_first due 0 end steps c.requires.steps);
      resolved = c.requires.resolved;
      room = omega arith;
    }

pub take_step-requires : goal.take_step-requires
take_step-requires c =
    let whole = c.args.whole.now in
    let f = program_of whole.flat in
    let up = handed f whole.split c.args.values.now in
    let packet = packet_of c.args.arrival.now in
    let begun = begun_of whole up c.args.store.now packet c.requires.prepared c.requires.kept c.requires.fit c.requires.arrives in
    let l = c.loop-step in
    let t = c.step-item in
    let i = t.result.instruction in
    let items = c.deref-step-items in
    let h = next_turn (is_due f whole.split) (length f.code) items.result.now whole.steps.items l.step-index t.result
    items.ensures.value c.requires.steps c.loop-step-test.true t.is in
    let so = subst (λ n. IsServing f whole.split up c.args.store.now packet n l.values l.store l.updates.items) h.1 l.invariant.serving in
    let mine = due_turn f whole.split i h.0.passes in
    let fits = a_server_takes_turns-room _ _ _ _ _ i _ _ _ begun so h.0.within mine in
    record {
      at = record {
        prepared = c.requires.prepared;
        within = omega (arith, h.0.within, code_length whole.flat);
        size = c.requires.arrives.size;
        shape = c.requires.shape;
      };
      resolved = turn_of_list f l.values items.result.now whole.steps.items l.step-index t.result
          items.ensures.value l.invariant.resolved.steps c.loop-step-test.true t.is;
      has = a_server_takes_turns-has _ _ _ _ _ i _ _ _ begun so h.0.within mine;
      seats = l.invariant.resolved.seats;
      room = omega (arith, fits, l.updates.ok, l.invariant.room, c.requires.room);
    }

pub loop-step-preserved : goal.loop-step-preserved
loop-step-preserved c =
    let whole = c.args.whole.now in
    let f = program_of whole.flat in
    let up = handed f whole.split c.args.values.now in
    let packet = packet_of c.args.arrival.now in
    let begun = begun_of whole up c.args.store.now packet c.requires.prepared c.requires.kept c.requires.fit c.requires.arrives in
    let l = c.loop-step in
    let i = c.step-item.result.instruction in
    let items = c.deref-step-items in
    let h = next_turn (is_due f whole.split) (length f.code) items.result.now whole.steps.items l.step-index c.step-item.result
    items.ensures.value c.requires.steps c.loop-step-test.true c.step-item.is in
    let so = subst (λ n. IsServing f whole.split up c.args.store.now packet n l.values l.store l.updates.items) h.1 l.invariant.serving in
    let t = c.take_step.new in
    let next = a_server_takes_turns-next _ _ _ _ _ i _ _ _ t.values t.store t.updates.items begun so h.0.within
    (due_turn f whole.split i h.0.passes) c.take_step.ensures.taken in
    let to = at_or (instructions_of whole.steps.items) (l.step-index + 1) (length f.code) in
    let same : at_or (instructions_of whole.steps.items) (suc l.step-index) (length f.code) ≡ to =
    ap (λ n. at_or (instructions_of whole.steps.items) n (length f.code)) (sym (add-one l.step-index))
    in
    record {
      serving = a_server_takes_turns-idle _ _ _ _ _ (i + 1) to _ _ _ begun next
          (omega (arith, h.0.later, same)) (omega (arith, h.0.ends, same)) (λ j low high. h.0.between j (omega (arith, low)) (omega (arith, high, same)));
      resolved = still_resolved f l.values t.values c.take_step.ensures.places whole.seats.items whole.steps.items l.invariant.resolved;
      room = omega (arith, c.take_step.ensures.room, l.invariant.room);
    }

pub returns-clause-kept : goal.returns-clause-kept
returns-clause-kept c =
    let whole = c.args.whole.now in
    let f = program_of whole.flat in
    let up = handed f whole.split c.args.values.now in
    let packet = packet_of c.args.arrival.now in
    let begun = begun_of whole up c.args.store.now packet c.requires.prepared c.requires.kept c.requires.fit c.requires.arrives in
    let l = c.loop-step in
    let end = length f.code in
    let past : at_or (instructions_of whole.steps.items) l.step-index end ≡ end =
    get_or_past (instructions_of whole.steps.items) l.step-index end (omega (arith, c.loop-step-test.false, ap (λ (ts : List PlannedStep). length ts) c.deref-step-items.ensures.value, turns_count whole.steps.items))
    in
    let so = subst (λ n. IsServing f whole.split up c.args.store.now packet n l.values l.store l.updates.items) past l.invariant.serving in
    a_server_takes_turns-kept _ _ _ _ _ end _ _ _ begun so (omega arith)
