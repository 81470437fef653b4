-- What the events do, one effect at a time.
use Rattle.std.proofs.Common.{◌≡◌, ◌∙◌, refl, ℕ, ◌+◌, ◌-◌, ◌<◌, Bool, true, false, List, [], ◌∷◌, ◌++◌, Option, Some, None, inl, inr, arith, length}
use Rattle.std.specs.Prelude.{slice_get, slice_set, remove}
use Rattle.std.proofs.lemmas.Bool.{cases_Bool}
use Rattle.std.proofs.lemmas.List.{length_push}
use Rattle.packet_fields.specs.declared.verdict.Verdict.{Verdict}
use Rattle.state_store.specs.Store.{Store}
use Rattle.writeback_table.specs.declared.command.Update.{Update}
use Rattle.run_model.specs.declared.event.Event.{Event}
use Rattle.replay_state.specs.Answers.{Answers, Setup}
use Rattle.output_commit.specs.Batches.{Batch, commands_in, merged}
use Rattle.replay_state.specs.State.{Entered, Pass, Progress, State, seen, store_at}
use Rattle.replay_state.specs.Step.{came_in, decided, ended, finished, pass_of, released, step, steps, went_up}
use Rattle.replay_state.proofs.Counts.{AreCounted, length_more}
use Rattle.output_commit.proofs.MergedBatches.{is_merged, push_versions}

-- the pass before the server enters, and the one behind it
abbrev pub let_in : State → ℕ → State
let_in w stages =
    record w {
      passes = w.passes ++ pass_of w true (length w.progress) stages ∷ [];
      progress = w.progress ++ Entered w.events (seen w) ∷ [];
    }

abbrev pub let_down : State → ℕ → ℕ → ℕ → State
let_down w j p stages = record w { down = remove w.down j; passes = w.passes ++ pass_of w false p stages ∷ [] }

-- the pass at place j ends with a verdict, or without, or behind the server
abbrev pub finished_at : State → ℕ → Pass → Verdict → State
finished_at w j x y =
    record w { passes = remove w.passes j; progress = slice_set w.progress x.number (finished w.events y (slice_get w.progress x.number)) }

abbrev pub up_at : State → ℕ → Pass → State
up_at w j x =
    record w { passes = remove w.passes j; up = w.up ++ x.number ∷ []; progress = slice_set w.progress x.number (went_up (slice_get w.progress x.number)) }

abbrev pub out_at : Answers → State → ℕ → Pass → State
out_at a w j x =
    record w { passes = remove w.passes j; progress = slice_set w.progress x.number (released (λ over. a.post over x.number) w.events (slice_get w.progress x.number)) }

-- it takes a stage, and doesn't end
abbrev pub moved_at : State → ℕ → Pass → State
moved_at w j x = record w { passes = slice_set w.passes j (record x { left = x.left - 1 }) }

-- the server runs packet p, and has this version, these stores and these batches then
abbrev pub run_at : Answers → State → ℕ → ℕ → ℕ → List Store → List Batch → State
run_at a w j p v stores batches =
    record {
      passes = w.passes;
      up = remove w.up j;
      store = a.after w.store p;
      version = v;
      stores = stores;
      held = w.held ++ (p, v) ∷ [];
      down = w.down;
      batches = batches;
      sent = w.sent;
      done = w.done;
      acked = w.acked;
      events = w.events;
      idle = w.idle;
      progress = slice_set w.progress p (decided w.events v w.store (slice_get w.progress p));
    }

abbrev pub go_at : State → ℕ → ℕ → State
go_at w j p = record w { held = remove w.held j; down = w.down ++ p ∷ [] }

abbrev pub sent_one : State → (List Update → Bool) → State
sent_one w fits = record w { batches = merged fits w.sent w.batches; sent = w.sent + 1 }

abbrev pub applied_one : State → State
applied_one w = record w { done = w.done + 1 }

abbrev pub acked_one : State → State
acked_one w = record w { acked = w.acked + 1 }

-- the end of a pass changes nothing but who goes up and how far packets have come
pub ended_leaves : {X : Type 0} (f : State → X) (a : Answers)
    → ((w : State) (up : List ℕ) (progress : List Progress) → f (record w { up = up; progress = progress }) ≡ f w)
    → (w : State) (x : Pass) → f (ended a w x) ≡ f w
ended_leaves f a same w x = elim (cases_Bool x.pre) [
  | inl t ↦ rw t (comes_in (a.pre (store_at w.stores x.version) x.number))
  | inr t ↦ rw t (same w w.up _)
]
  where
    comes_in : (o : Option Verdict) → f (came_in w x.number o) ≡ f w
    comes_in None = same w _ _
    comes_in (Some y) = same w w.up _

pub counts_sent : (w : State) (fits : List Update → Bool) → w.sent < length (commands_in w.batches) → AreCounted w → AreCounted (sent_one w fits)
counts_sent w fits h k =
    let m = is_merged fits w.sent w.batches in
    record {
      versions = m.versions ∙ k.versions;
      all = k.all;
      sent_in = let on = m.goes_on h in omega arith;
      done_in = let g = k.done_in in omega arith;
      acked_in = k.acked_in;
    }

-- the server's run of packet p begins a version, with a batch of it
pub counts_seen : (a : Answers) (w : State) (j p : ℕ) (b : Batch) → b.versions ≡ 1 → AreCounted w → AreCounted (run_at a w j p (w.version + 1) (w.stores ++ a.after w.store p ∷ []) (w.batches ++ b ∷ []))
counts_seen a w j p b one k = record {
  versions = let s = push_versions w.batches (b ∷ []) in let v = k.versions in omega arith;
  all = let x = length_push w.stores (a.after w.store p) in let y = k.all in omega arith;
  sent_in = let l = length_more w.batches b in let s = k.sent_in in omega arith;
  done_in = k.done_in;
  acked_in = k.acked_in;
}

pub steps_append : (setup : Setup) (a : Answers) (w : State) (es more : List Event) → steps setup a w (es ++ more) ≡ steps setup a (steps setup a w es) more
steps_append setup a w [] more = refl
steps_append setup a w (e ∷ es) more = steps_append setup a (step setup a w e) es more
