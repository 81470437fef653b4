-- What a course shows of a state, by calls of the switch. The stores of versions, and those over which packets were run,
-- stand in no code.
use Rattle.std.specs.Prelude.{◌≡◌, ◌≤◌, ℕ, List, [], ◌∷◌, map, length, Option, Some, None, slice_get}
use Rattle.writeback_table.specs.declared.command.Command.{Command}
use Rattle.output_commit.specs.Commit.{commands}
use Rattle.output_commit.specs.declared.output.Output.{Output}
use Rattle.replay_state.specs.Journal.{Call, CalledCommand, SentUp, down_frame, up_answer}
use Rattle.replay_state.specs.Program.{SplitProgram}
use Rattle.replay_state.specs.State.{State, fate_of}
use Rattle.replay_course.specs.declared.course.Course.{Course}

pub record IsShown (s : SplitProgram) (calls : List Call) (st : State) (c : Course) : Type 0 where
  pub passes : c.passes ≡ st.passes
  -- the packets on their way up, each in the frame which its pass answered
  pub up : map (λ item. item.0) c.up.items ≡ st.up
  pub up_frames : (j : ℕ) (item : ℕ × List ℕ) → slice_get c.up.items j ≡ Some item
      → up_answer calls item.0 ≡ Some (SentUp item.1)
  pub store : c.server.store ≡ st.store
  pub version : c.server.version ≡ st.version
  -- the batches, and how far their commands have come
  pub batches : c.commit.batches ≡ st.batches
  pub sent : c.commit.sent ≡ st.sent
  pub done : c.commit.done ≡ st.done
  pub acked : c.commit.acked ≡ st.acked
  pub sent_within : c.commit.sent ≤ length (commands c.commit)
  -- the outputs that wait, and those on their way down, each in the frame that goes down for its packet
  pub held : map (λ o. (o.number, o.need)) c.commit.held ≡ st.held
  pub held_frames : (j : ℕ) (o : Output) → slice_get c.commit.held j ≡ Some o
      → o.frame ≡ down_frame s calls st o.number
  pub down : map (λ item. item.0) c.down.items ≡ st.down
  pub down_frames : (j : ℕ) (item : ℕ × List ℕ) → slice_get c.down.items j ≡ Some item
      → item.1 ≡ down_frame s calls st item.0
  pub fates : c.fates.items ≡ map fate_of st.progress
  pub events : c.events ≡ st.events
  pub idle : c.idle ≡ st.idle

-- the calls in which the switch is given a command
abbrev pub called : Option Command → List Call
called None = []
called (Some command) = CalledCommand command ∷ []
