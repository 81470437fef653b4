-- What an error leaves of a port.
use Rattle.std.proofs.Common.{◌≡◌, ℕ, Bool, true, false, List, [], ◌∷◌, ◌++◌, inl, inr, refl, sym, ap, subst, ◌∙◌, arith}
use Rattle.std.specs.Prelude.{is_some, Result, Ok, Err}
use Rattle.std.proofs.lemmas.List.{append_assoc, append-nil}
use Rattle.std.proofs.lemmas.List.Elements.{filter-append}
use Rattle.gal_io.specs.Count.{IsCountedIf, count_after}
use Rattle.packet_fields.specs.declared.packet.Packet.{Packet}
use Rattle.run_model.specs.declared.event.Event.{Event}
use Rattle.switch_ir.specs.Code.{Code}
use Rattle.switch_ir.specs.Port.{PortState, Loads, has_failed}
use Rattle.switch_ir.specs.declared.journal.Entry.{Entry}
use Rattle.switch_ir.specs.declared.journal.Entry.TheVariants as entry
use Rattle.switch_ir.specs.declared.port.DownEnd.{DownEnd}
use Rattle.switch_ir.specs.declared.port.PortError.{PortError}
use Rattle.switch_ir.specs.declared.port.PortError.TheVariants as port
use Rattle.switch_ir.specs.declared.port.UpEnd.{UpEnd}
use Rattle.replay_state.specs.Journal.{Call}
use Rattle.replay_contracts.specs.Called.{HasCalls, KeepsCalls, calls_in, is_of_replay, journal_of}
use Rattle.replay_contracts.specs.Inputs.{Inputs, code_for}
use Rattle.replay_contracts.specs.Replayer.{Fails, HasBroken, StaysTold, error_of, is_port_fault}
use Rattle.replay_contracts.specs.declared.job.ReplayError.{ReplayError}
use Rattle.replay_contracts.specs.declared.job.ReplayError.TheVariants as errors
use Rattle.replay_course.specs.declared.course.Course.{Course}
use Rattle.replay_course.specs.Going.{TakesDown, TakesUp}
use Rattle.replay_course.specs.UnderWay.{HasReplayedFrom, IsDraining, HasReplayedSome, HasReplayed}
use Rattle.replay_course.proofs.ToldByCalls.{keeps_all, kept_stays}
use Rattle.replay_course.proofs.NextEvent.{counts_behind}
use Rattle.replay_contracts.proofs.Asked.{none_asked}
use Rattle.replay_contracts.proofs.CallsOfEvent.{journal_append}

pub keeps_more : (old mid new : PortState) → KeepsCalls old mid → KeepsCalls mid new → KeepsCalls old new
keeps_more old mid new one two = record {
  code = two.code ∙ one.code;
  told = two.told ∙ one.told;
  passes = two.passes ∙ one.passes;
  journal = two.journal ∙ one.journal;
  spare = let a = one.spare in let b = two.spare in omega arith;
  faults = two.faults ∙ one.faults;
}

-- ## Calls that didn't fail

-- the port kept its code and may have been called more, and no call of it failed
pub record PortAdvances (old new : PortState) : Type 0 where
  pub code : new.code ≡ old.code
  pub journal : (more : List Entry) × (calls_in new.journal ≡ calls_in old.journal ++ more)
  pub stays : StaysTold old new

pub goes_kept : (old new : PortState) → KeepsCalls old new → PortAdvances old new
goes_kept old new kept = record {
  code = kept.code;
  journal = ([], kept.journal ∙ sym (append-nil (calls_in old.journal)));
  stays = kept_stays old new kept;
}

-- so it is from the calls of one moment to those of a later one
pub goes_by : (code : Code) (calls more : List Call) (old new : PortState) → HasCalls code calls old → HasCalls code (calls ++ more) new
    → StaysTold old new → PortAdvances old new
goes_by code calls more old new before after stays = record {
  code = after.loaded ∙ sym before.loaded;
  journal = (
    journal_of more,
    after.journal ∙ ap (λ l. entry.Load ∷ l) (journal_append calls more) ∙ ap (λ l. l ++ journal_of more) (sym before.journal),
  );
  stays = stays;
}

pub goes_gone : (x : Inputs) (events : List Event) (c after : Course) (first port : PortState) → HasReplayed x [] c first
    → HasReplayedFrom x events after first port → PortAdvances first port
goes_gone x events c after first port start gone =
    goes_by (code_for x) [] gone.under_way.calls first port
    (subst (λ cs. HasCalls (code_for x) cs first) (none_asked start.calls start.replay.answered.asked) start.replay.called)
    gone.under_way.replay.called gone.stays

pub goes_draining : (x : Inputs) (count : ℕ) (c mid : Course) (first port : PortState) → HasReplayedSome x c first
    → IsDraining x count c first mid port → PortAdvances first port
goes_draining x count c mid first port way draining =
    let before = way.under_way in
    let on = draining.turns way.events before.calls before.st before.replay before.shown in
    goes_by (code_for x) before.calls on.others first port before.replay.called on.picked.replay.called draining.stays

-- ## Errors

-- there was no memory behind them
pub fails_there : (old new : PortState) → PortAdvances old new → Fails errors.NoMemory old new
fails_there old new goes = record {
  code = goes.code;
  told = goes.stays.told;
  journal = goes.journal;
  fault = goes.stays.faults;
}

pub fails_behind : (e : ReplayError) (first old new : PortState) → PortAdvances first old → Fails e old new → Fails e first new
fails_behind e first old new goes fails = record {
  code = fails.code ∙ goes.code;
  told = fails.told ∙ goes.stays.told;
  journal = (
    goes.journal.0 ++ fails.journal.0,
    fails.journal.1 ∙ ap (λ l. l ++ fails.journal.0) goes.journal.1 ∙ append_assoc (calls_in first.journal) goes.journal.0 fails.journal.0,
  );
  fault = fails.fault ∙ ap (count_after (is_port_fault e)) goes.stays.faults;
}

-- it counts as the call of the port that it comes from
pub counts_as : (A : Type 0) (cause : PortError) → is_port_fault (error_of cause) ≡ has_failed {A = A} (Err cause)
counts_as A port.Failed = refl
counts_as A port.NoMemory = refl

-- a call that keeps code and tables, and adds these entries
pub fails_with : (e : ReplayError) (failed : Bool) (entries : List Entry) (old new : PortState) → is_port_fault e ≡ failed → new.code ≡ old.code
    → new.told ≡ old.told → new.journal ≡ old.journal ++ entries → IsCountedIf failed old.faults new.faults → Fails e old new
fails_with e failed entries old new same code told journal counted = record {
  code = code;
  told = ap is_some told;
  journal = (calls_in entries, ap calls_in journal ∙ filter-append is_of_replay old.journal entries);
  fault = subst (λ b. IsCountedIf b old.faults new.faults) (sym same) counted;
}

pub fails_up : (e : ReplayError) (fine : Bool) (end : Result UpEnd PortError) (number : ℕ) (packet : Packet) (old new : PortState)
    → is_port_fault e ≡ has_failed end → TakesUp fine end number packet old new → Fails e old new
fails_up e false end number packet old new same passes =
    fails_with e (has_failed end) _ old new same passes.kept.code passes.kept.told passes.journal passes.faults
fails_up e true end number packet old new same begins =
    fails_with e (has_failed end) _ old new same begins.1.kept.code begins.1.kept.told begins.1.journal begins.1.faults

pub fails_down : (e : ReplayError) (fine : Bool) (end : Result DownEnd PortError) (frame : List ℕ) (old new : PortState)
    → is_port_fault e ≡ has_failed end → TakesDown fine end frame old new → Fails e old new
fails_down e false end frame old new same passes =
    fails_with e (has_failed end) _ old new same passes.kept.code passes.kept.told passes.journal passes.faults
fails_down e true end frame old new same begins =
    fails_with e (has_failed end) _ old new same begins.1.kept.code begins.1.kept.told begins.1.journal begins.1.faults

-- ## The start

-- there was no memory before the port was called
pub not_begun : (x : Inputs) (first : PortState) → HasBroken x errors.NoMemory first first
not_begun x first = inl (record {
  port = record {
    kept = record { code = refl; told = refl; passes = refl; spare = omega arith };
    journal = refl;
  };
  fault = refl;
})

-- the load failed, or found no memory
pub not_loaded : (x : Inputs) (cause : PortError) (code : Code) (first new : PortState) → Loads (Err cause) code first new → HasBroken x (error_of cause) first new
not_loaded x cause code first new loads = inl (record {
  port = loads.state;
  fault = subst (λ b. IsCountedIf b first.faults new.faults) (sym (counts_as (Unit {0}) cause)) loads.faults;
})

-- there was none behind the load
pub broken_off : (x : Inputs) (first begun : PortState) → Loads (Ok tt) (code_for x) first begun → HasBroken x errors.NoMemory first begun
broken_off x first begun loads = inr (record {
  begun = begun;
  loads = loads;
  fails = fails_there begun begun (goes_kept begun begun (keeps_all begun));
})

-- what an error leaves behind the calls of a replay, it leaves behind the load
pub broken_behind : (x : Inputs) (e : ReplayError) (calls : List Call) (first begun old new : PortState) → Loads (Ok tt) (code_for x) first begun
    → HasCalls (code_for x) calls old → StaysTold begun old → Fails e old new → HasBroken x e first new
broken_behind x e calls first begun old new loads called stays fails =
    let more = fails.journal.0 in
    inr (record {
      begun = begun;
      loads = loads;
      fails = record {
        code = fails.code ∙ called.loaded ∙ sym loads.state.code;
        told = fails.told ∙ stays.told;
        journal = (
          journal_of calls ++ more,
          fails.journal.1 ∙ ap (λ l. l ++ more) called.journal
              ∙ sym (ap (λ l. l ++ (journal_of calls ++ more)) (ap calls_in loads.state.journal)),
        );
        fault = counts_behind e begun.faults old.faults new.faults stays.faults fails.fault;
      };
    })
