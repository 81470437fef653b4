-- Runs that are known from outside, event by event.
use Rattle.std.specs.Prelude.{ℕ, ◌==◌, Bool, true, false, if◌then◌else◌, List, [], ◌∷◌, None}
use Rattle.packet_fields.specs.declared.verdict.Verdict.TheVariants as verdict
use Rattle.writeback_table.specs.declared.command.To.TheVariants.{Gone}
use Rattle.writeback_table.specs.declared.command.Update.{Update}
use Rattle.replay_state.specs.Answers.{Answers, Setup}
use Rattle.replay_state.specs.State.{State, first_state}
use Rattle.run_model.specs.declared.event.Event.TheVariants.{Admit, Stage, Serve, Send, Apply, Ack, Hold, Down}
use Rattle.replay_state.specs.Step.{steps}
use Rattle.replay_state.specs.Drain.{drain_events}

abbrev pub one : Update
one = record { object = 0; key = []; to = Gone }

-- none, one or two changes
abbrev pub some_updates : ℕ → List Update
some_updates n = if n == 0 then [] else (if n == 1 then one ∷ [] else one ∷ (one ∷ []))

-- every packet goes up, and makes so many changes
abbrev pub toy : ℕ → ℕ → Answers
toy first second = record {
  pre = λ store n. None;
  after = λ store n. store;
  changes = λ store n. some_updates (if n == 0 then first else second);
  post = λ over n. verdict.Drop;
}

abbrev pub toy_setup : ℕ → ℕ → Bool → Setup
toy_setup pre post merges = record {
  objects = [];
  replicated = λ o. true;
  writeback = 16;
  total = 2;
  fine = true;
  pre_stages = pre;
  post_stages = post;
  writes = 2;
  fits = λ updates. merges;
}

-- The second packet enters before the first one's change is made: Main waits for its pass.
abbrev pub main_waits : State
main_waits = steps (toy_setup 3 2 false) (toy 1 0) (first_state [])
    (Admit ∷ (Stage 0 ∷ (Stage 0 ∷ (Stage 0 ∷ (Admit ∷ (Serve 0 ∷ (Send ∷ (Send ∷ (Send ∷ (Apply ∷ (Apply ∷ (Apply
    ∷ (Stage 0 ∷ (Stage 0 ∷ (Stage 0 ∷ (Apply ∷ (Serve 0 ∷ (Ack ∷ (Ack ∷ (Hold 0 ∷ (Down 0 ∷ (Stage 0 ∷ (Stage 0
    ∷ [])))))))))))))))))))))))

-- Two packets with two changes each: their batches go as one, or not.
abbrev pub two_batches : Bool → State
two_batches merges = steps (toy_setup 0 0 merges) (toy 2 2) (first_state [])
    (Admit ∷ (Admit ∷ (Serve 0 ∷ (Serve 0 ∷ (Send ∷ (Apply ∷ (Ack ∷ (Send ∷ (Apply ∷ (Ack ∷ (Send ∷ (Apply ∷ (Ack
    ∷ (Send ∷ (Apply ∷ (Ack ∷ (Send ∷ (Apply ∷ (Ack ∷ (Hold 0 ∷ (Hold 0 ∷ (Down 0 ∷ (Down 0
    ∷ [])))))))))))))))))))))))

-- Both packets change two rows. The second enters while the first one's batch is seen where it is staged, so that the
-- first change of its own batch waits for the pass of a third until that ends.
abbrev pub stage_waits : State
stage_waits = steps (record (toy_setup 1 0 false) { total = 3 }) (toy 1 1) (first_state [])
    (Admit ∷ (Stage 0 ∷ (Admit ∷ (Stage 0 ∷ (Serve 0 ∷ (Serve 0 ∷ (Send ∷ (Send ∷ (Send ∷ (Send ∷ (Send ∷ (Send
    ∷ (Apply ∷ (Apply ∷ (Admit ∷ (Apply ∷ (Apply ∷ (Apply ∷ (Apply ∷ (Stage 0 ∷ (Apply ∷ [])))))))))))))))))))))

-- the first command of the first batch was sent before the second batch came, which goes by itself then, and takes up
-- a third
abbrev pub half_sent : State
half_sent = steps (record (toy_setup 0 0 true) { total = 3 }) (toy 2 1) (first_state [])
    (Admit ∷ (Admit ∷ (Admit ∷ (Serve 0 ∷ (Send ∷ (Serve 0 ∷ (Serve 0 ∷ (Send ∷ (Send ∷ (Send ∷ (Send ∷ (Send ∷ (Send
    ∷ (Send ∷ (Send ∷ [])))))))))))))))

-- Drain from the start, each pass in its stages: one packet that makes no change; and two, of which the second comes in
-- when nothing of the first is left to do.
abbrev pub drained : Setup → Answers → State
drained setup a = let first = first_state [] in steps setup a first (drain_events setup a first)

abbrev pub one_drained : State
one_drained = drained (record (toy_setup 3 1 false) { total = 1 }) (toy 0 0)

abbrev pub two_drained : State
two_drained = drained (toy_setup 3 1 false) (toy 1 0)
