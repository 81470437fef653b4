-- The passes under way on a switch, and those of the state.
use Rattle.std.specs.Prelude.{◌≡◌, ◌<◌, ℕ, ◌+◌, Bool, true, false, if◌then◌else◌, List, length, Some, slice_get}
use Rattle.packet_fields.specs.declared.packet.Packet.{Packet}
use Rattle.state_store.specs.Store.{Store, object_at}
use Rattle.flat_ir.specs.Blocks.{Reading, nothing}
use Rattle.flat_ir.specs.Program.{Program}
use Rattle.split_model.specs.declared.split.Part.{Part}
use Rattle.split_model.specs.Shown.{is_replicated}
use Rattle.transfer_header.specs.Frames.{IsFrame}
use Rattle.writeback_table.specs.Batches.{LookupsSee}
use Rattle.writeback_table.specs.Commands.{pair_through}
use Rattle.writeback_table.specs.Pair.{visible, first_pair}
use Rattle.writeback_table.specs.declared.command.Command.{Command}
use Rattle.switch_ir.specs.Emitted.{emitted}
use Rattle.switch_ir.specs.Meaning.{down_given}
use Rattle.switch_ir.specs.Port.{OfItsParts}
use Rattle.switch_ir.specs.Staged.{HasNoMore, IsOver, staging}
use Rattle.switch_ir.specs.Tables.{Told, pair_at, seen_tables}
use Rattle.switch_ir.specs.UnderWay.{Passes, PassState, ToldPass, UnderWay}
use Rattle.replay_state.specs.Answers.{Setup}
use Rattle.replay_state.specs.Journal.{Call, down_frame}
use Rattle.replay_state.specs.Program.{packet_at}
use Rattle.replay_state.specs.declared.pass.Pass.{Pass}
use Rattle.replay_state.specs.State.{State, store_at}
use Rattle.split_answers.specs.Through.{IsThrough}
use Rattle.split_answers.specs.Whole.{whole_of}

-- ## On every switch

-- the passes of a kind, and their highest stage
abbrev pub passes_of : Bool → UnderWay → Passes
passes_of pre passes = if pre then passes.pre else passes.post

abbrev pub highest_of : Bool → Setup → ℕ
highest_of pre setup = if pre then setup.pre_stages else setup.post_stages

-- a pass of the state is under way on the switch, and has so many stages left there; before the server it is over the
-- packet of its number
pub record IsOnSwitch (setup : Setup) (packets : List Packet) (passes : UnderWay) (pass : Pass) : Type 0 where
  pub own : PassState
  pub there : passes_of pass.pre passes pass.number ≡ Some own
  pub packet : pass.pre ≡ true → own.packet ≡ packet_at packets pass.number
  -- where it is told, it goes by the bit that stood at its entry
  pub bit : (told : ToldPass) → own.told ≡ Some told → told.bit ≡ pass.bit
  pub left : own.stage + pass.left ≡ highest_of pass.pre setup
  pub some : 0 < pass.left

-- those of the state are under way on the switch, and no others
pub record AreOnSwitch (setup : Setup) (packets : List Packet) (st : State) (passes : UnderWay) : Type 0 where
  pub each : (j : ℕ) (pass : Pass) → slice_get st.passes j ≡ Some pass → IsOnSwitch setup packets passes pass
  pub only : (pre : Bool) (n : ℕ) (own : PassState) → passes_of pre passes n ≡ Some own
      → (j : ℕ) × (pass : Pass) × (slice_get st.passes j ≡ Some pass) × (pass.pre ≡ pre) × (pass.number ≡ n)

-- ## On one that tells its tables

-- lookups after these commands see the replicated objects of a store
abbrev pub AreShown : Program → List Part → ℕ → List Command → Store → Type 0
AreShown f split writeback commands store = LookupsSee (is_replicated f split) f.objects writeback commands (length commands) store

-- so do those that go by this bit
abbrev pub Views : Program → List Part → ℕ → Bool → List Command → Store → Type 0
Views f split writeback bit commands store = (o : ℕ) → is_replicated f split o ≡ true
    → visible bit (pair_through o (first_pair f.objects writeback o) commands) ≡ (object_at store o).contents

-- What a pass knows that entered with this bit, over a packet and with what it was given: numbers that the whole pass
-- computes over the tables of its entry, which show the replicated objects of this store.
pub record Knows (f : Program) (split : List Part) (writeback : ℕ) (pre : Bool) (given : Reading) (packet : Packet)
    (bit : Bool) (store : Store) (own : PassState) : Type 0 where
  pub pass : ToldPass
  pub told : own.told ≡ Some pass
  pub bit_is : pass.bit ≡ bit
  pub packet_is : own.packet ≡ packet
  -- the tables of its entry, and the commands that had been applied then
  pub first : Told
  pub commands : List Command
  pub through : IsThrough (emitted f split writeback) commands first
  pub first_bit : first.bit ≡ bit
  pub shows : AreShown f split writeback commands store
  -- what it knows; and what it has not counts as 0
  pub over : IsOver (staging pre (emitted f split writeback)) given (seen_tables first) packet own.stage pass.numbers
  pub no_more : HasNoMore (staging pre (emitted f split writeback)) given (seen_tables first) packet

-- What a pass knows before the server, where it is over this packet and given nothing, and behind it, where it is over
-- what this frame says and given that.
abbrev pub KnowsOver : Bool → Program → List Part → ℕ → Packet → List ℕ → Store → Bool → PassState → Type 0
KnowsOver true f split writeback packet frame store bit own = Knows f split writeback true nothing packet bit store own
KnowsOver false f split writeback packet frame store bit own =
    let code = emitted f split writeback in
    IsFrame 2 code.down frame
    × OfItsParts code frame (λ number packet values.
    Knows f split writeback false (down_given code values packet) packet bit store own)

-- what a pass of the state knows: before the server it is over the packet of its number, and behind it over the frame
-- that came down
abbrev pub KnowsItsOwn : Program → List Part → ℕ → List Packet → List Call → State → Pass → PassState → Type 0
KnowsItsOwn f split writeback packets calls st pass own =
    KnowsOver pass.pre f split writeback (packet_at packets pass.number)
    (down_frame (whole_of f split writeback) calls st pass.number) (store_at st.stores pass.version) pass.bit own

abbrev pub KnowTheirOwn : Program → List Part → ℕ → List Packet → List Call → State → UnderWay → Type 0
KnowTheirOwn f split writeback packets calls st passes =
    (j : ℕ) (pass : Pass) (own : PassState) → slice_get st.passes j ≡ Some pass
    → passes_of pass.pre passes pass.number ≡ Some own → KnowsItsOwn f split writeback packets calls st pass own

-- by the bit that stood at its entry, each pass of the state sees in these tables the replicated objects of the version
-- with which it entered
abbrev pub SeeTheirOwn : Program → List Part → State → Told → Type 0
SeeTheirOwn f split st tables =
    (j o : ℕ) (pass : Pass) → slice_get st.passes j ≡ Some pass → is_replicated f split o ≡ true
    → visible pass.bit (pair_at tables.pairs o) ≡ (object_at (store_at st.stores pass.version) o).contents
