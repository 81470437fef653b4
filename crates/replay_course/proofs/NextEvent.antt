-- How a replay begins, and how each event of its schedule takes it on.
use Rattle.std.proofs.Common.{◌≡◌, ◌<◌, ◌≤◌, ◌+◌, ◌*◌, ◌^◌, ◌-◌, ℕ, List, [], ◌∷◌, ◌++◌, Option, Some, None, refl, sym, ap, subst, ◌∙◌, arith, length}
use Rattle.std.specs.Prelude.{is_some, Ok}
use Rattle.std.specs.List.{AllByRecursion as Each}
use Rattle.std.proofs.Math.Nat.{mul-le-mul}
use Rattle.std.proofs.lemmas.Option.{none-some, same_Some}
use Rattle.state_store.specs.Store.{start_store}
use Rattle.flat_ir.specs.Arrivals.{IsArrival}
use Rattle.gal_io.specs.Count.{IsCountedIf, count_after}
use Rattle.run_model.specs.declared.event.Event.{Event}
use Rattle.server_runtime.specs.Serving.{Server}
use Rattle.split_model.specs.Bounds.{HasFewStages}
use Rattle.split_answers.specs.Whole.{IsSplit}
use Rattle.switch_ir.specs.Code.{Code}
use Rattle.switch_ir.specs.Port.{PortState, Loads, StartsTold}
use Rattle.switch_ir.specs.Tables.{IsStart, Told}
use Rattle.replay_state.specs.Journal.{Call}
use Rattle.replay_state.specs.Program.{SplitProgram, manner_of}
use Rattle.replay_state.specs.State.{first_state}
use Rattle.replay_contracts.specs.Called.{calls_in}
use Rattle.replay_contracts.specs.Inputs.{Inputs, code_for, setup_for, whole}
use Rattle.replay_contracts.specs.Replayer.{is_port_fault}
use Rattle.replay_contracts.specs.declared.job.ReplayError.{ReplayError}
use Rattle.replay_contracts.specs.declared.job.Stepped.{Stepped}
use Rattle.replay_course.specs.declared.course.Course.{Course}
use Rattle.replay_course.specs.Going.{HasAdvanced, IsPrepared, IsSound, MayCall, most_commands, unapplied}
use Rattle.replay_course.specs.Shown.{IsShown}
use Rattle.replay_course.specs.UnderWay.{HasReplayedFrom}
use Rattle.replay_course.proofs.ToldByCalls.{stays_more}
use Rattle.replay_contracts.proofs.Laws.{a_replay_begins, a_replay_goes_on}
use Rattle.replay_course.proofs.Room.{may_call}
use Rattle.std.proofs.lemmas.List.{length_push}

-- ## One event more

pub gone_on : (x : Inputs) (events : List Event) (event : Event) (stepped : Stepped) (c after : Course) (first old new : PortState)
    → HasReplayedFrom x events c first old → HasAdvanced x event stepped c old after new → HasReplayedFrom x (events ++ event ∷ []) after first new
gone_on x events event stepped c after first old new gone turned =
    let u = gone.under_way in
    let t = turned.turns events u.calls u.st u.replay u.shown in record {
      under_way = record {
        calls = u.calls ++ t.one;
        st = _;
        replay = a_replay_goes_on x events event u.calls t.one u.st old new u.going.prepared.ready u.replay t.asks t.called;
        shown = t.shown;
        going = turned.going;
        counted = turned.counted ∙ ap (λ n. n + 1) u.counted ∙ sym (length_push events event);
      };
      stays = stays_more first old new gone.stays turned.stays;
    }

pub room_by : (x : Inputs) (events : List Event) (c : Course) (first port : PortState) → HasReplayedFrom x events c first port → MayCall x c port
room_by x events c first port gone = let u = gone.under_way in may_call x events u.calls u.st c port u.replay u.shown u.going

-- An error counts as many faults since a first moment as since a later one, if no call failed in between.
pub counts_behind : (e : ReplayError) (first old new : ℕ) → old ≡ first → IsCountedIf (is_port_fault e) old new
    → IsCountedIf (is_port_fault e) first new
counts_behind e first old new same counts = counts ∙ ap (count_after (is_port_fault e)) same

-- ## The start

few_packets : (n k : ℕ) → n * k < 2 ^ 32 → 2 ≤ k → n ≤ 2 ^ 32
few_packets n k few two = let same : n ≤ n = omega arith in let twice = mul-le-mul same two in omega arith

pub is_prepared : (x : Inputs) → IsSplit x.program x.split x.writeback → HasFewStages x.split → Each IsArrival x.packets → x.manner ≡ manner_of x.manner.fine
    → length x.packets * most_commands x < 2 ^ 32 → IsPrepared x
is_prepared x split stages arrivals manner few = record {
  stages = stages;
  ready = record { split = split; arrivals = arrivals; few = few_packets _ (most_commands x) few (omega arith) };
  manner = manner;
  few = few;
}

told_first : (code : Code) (old new : Option Told) → StartsTold code old new → is_some new ≡ is_some old
told_first code None new starts = ap is_some starts
told_first code (Some told) new starts = ap is_some starts.1

starts_with : (code : Code) (old new : Option Told) (told : Told) → StartsTold code old new → new ≡ Some told → IsStart code told
starts_with code None new told starts is = absurd (none-some told (sym starts ∙ is))
starts_with code (Some before) new told starts is = subst (IsStart code) (same_Some _ _ (sym starts.1 ∙ is)) starts.2

pub started : (x : Inputs) (c : Course) (server : Server) (old new : PortState) (p q : ℕ) → IsPrepared x → Loads (Ok tt) (code_for x) old new
    → p ≡ (setup_for x).pre_stages → q ≡ (setup_for x).post_stages
    → server ≡ record { program = x.program; split = x.split; store = start_store x.program.objects; version = 0; evaluated = 0 }
    → ((s : SplitProgram) (calls : List Call) → IsShown s calls (first_state server.store) c)
    → ((y : Inputs) → server.program ≡ y.program → server.split ≡ y.split → x.writeback ≡ y.writeback → p ≡ (setup_for y).pre_stages
    → q ≡ (setup_for y).post_stages → IsSound y c) → unapplied c ≡ 0 → HasReplayedFrom x [] c old new
started x c server old new p q plain loads pre post is shown sound none = record {
  under_way = record {
    calls = [];
    st = first_state (start_store x.program.objects);
    replay = a_replay_begins x new plain.ready (record {
      called = record { loaded = loads.state.code; journal = ap calls_in loads.state.journal };
      passes = loads.state.passes;
      start = λ told told_is. starts_with (code_for x) old.told new.told told loads.state.told told_is;
    });
    shown = subst (λ (z : Server). IsShown (whole x) [] (first_state z.store) c) is (shown (whole x) []);
    going = record {
      prepared = plain;
      sound = sound x (ap (λ z. z.program) is) (ap (λ z. z.split) is) refl pre post;
      loaded = loads.state.code;
      spare = subst (λ n. n ≤ new.spare) (sym none) (omega arith);
    };
    counted = (shown (whole x) []).events;
  };
  stays = record { told = told_first (code_for x) old.told new.told loads.state.told; faults = loads.faults };
}
