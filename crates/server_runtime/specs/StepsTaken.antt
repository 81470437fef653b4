-- The server's steps.
use Rattle.std.specs.Prelude.{◌≡◌, ◌<◌, ◌≤◌, ◌+◌, ℕ, true, ◌==◌, List, [], ◌∷◌, ◌++◌, map, length, drop}
use Rattle.std.specs.Prelude.{Option, Some, None, if◌then◌else◌}
use Rattle.std.specs.List.{AllByRecursion as Each}
use Rattle.packet_fields.specs.declared.packet.Packet.{Packet}
use Rattle.packet_fields.specs.Shape.{shape_of}
use Rattle.packet_fields.specs.Sizes.{largest_packet}
use Rattle.state_store.specs.Kept.{IsKept}
use Rattle.state_store.specs.Store.{Store}
use Rattle.flat_ir.specs.declared.work.Arrival.{Arrival}
use Rattle.flat_ir.specs.Arrivals.{IsArrival}
use Rattle.flat_ir.specs.Laws.{AllFit}
use Rattle.flat_ir.specs.Program.{Program, Work}
use Rattle.flat_ir.specs.Program.Work.{put, del}
use Rattle.flat_ir.specs.Blocks.{Reading}
use Rattle.flat_ir.specs.Run.{made, with_writes, Change}
use Rattle.flat_ir.specs.Turns.{turn}
use Rattle.flat_ir.specs.WellFormed.{IsWellFormed}
use Rattle.split_model.specs.declared.split.Part.{Part}
use Rattle.split_model.specs.Layouts.{down_layout, up_layout}
use Rattle.split_model.specs.Legal.{IsLegal}
use Rattle.split_model.specs.Passes.{sent_down, served, server_fields, server_run}
use Rattle.split_model.specs.Shown.{is_replicated}
use Rattle.transfer_header.specs.declared.frame.Head.{Head}
use Rattle.transfer_header.specs.Frames.{down_frame, IsFrame}
use Rattle.transfer_header.specs.Registers.{Registers}
use Rattle.transfer_header.specs.Steps.{IsReady}
use Rattle.transfer_header.specs.Told.{number_in, packet_in, reads_in}
use Rattle.writeback_table.specs.declared.command.Update.{Update}
use Rattle.server_runtime.specs.declared.plan.PreparedProgram.{PreparedProgram}
use Rattle.server_runtime.specs.declared.run.Ran.{Ran}
use Rattle.server_runtime.specs.Plans.{IsPrepared}
use Rattle.server_runtime.specs.Registers.{contents_of, handed, register_reads, with_row}
use Rattle.server_runtime.specs.Running.{contents_at, row_of}
use Rattle.server_runtime.specs.Serving.{evaluated_steps, followed_writes, updates_of, IsUpdateIn}
use Rattle.server_runtime.specs.Spans.{server_spans}

-- What a server has after the first n instructions of a run from these numbers: in registers the numbers that are
-- still to be read, and the store and what the switch is told of the run.
pub record IsServing (f : Program) (split : List Part) (up : Reading) (start : Store) (packet : Packet) (n : ℕ)
    (registers : Registers) (st : Store) (updates : List Update) : Type 0 where
  pub ready : IsReady (server_spans f split) registers (contents_at f split up start packet n) (n + 1)
  pub store : st ≡ (served f split up start packet n).store
  pub told : updates ≡ updates_of f split (served f split up start packet n).changes

-- the registers behind the server's turn at instruction i, from these registers and this store
abbrev pub registers_behind : Program → Packet → ℕ → Registers → Store → Registers
registers_behind f packet i registers st = with_row f i (row_of f packet i (register_reads f registers) st) registers

-- what a put or a del changes where it takes effect
abbrev pub wanted : Reading → Work → Option Change
wanted reads (put object keys values) =
    Some (record { object = object; key = map reads keys; values = Some (map reads values) })
wanted reads (del object keys) = Some (record { object = object; key = map reads keys; values = None })
wanted reads _ = None

-- what the switch is told of a change: nothing, where the object isn't replicated
abbrev pub told_of : Program → List Part → Update → List Update
told_of f split update = if is_replicated f split update.object then update ∷ [] else []

-- what an instruction that gave this number changes
abbrev pub changed_by : Reading → ℕ → Work → List Change
changed_by reads number work = if number == 1 then made true (wanted reads work) else []

-- a turn is taken of a prepared program, at an instruction that it has, and at a packet whose headers were found
pub record IsAtStep (whole : PreparedProgram) (arrival : Arrival) (i : ℕ) : Type 0 where
  pub prepared : IsPrepared whole
  pub within : i < length whole.flat.code
  pub size : length arrival.bytes.now ≤ largest_packet
  pub shape : arrival.shape ≡ shape_of arrival.bytes.now

-- a turn was taken: of what it read it left registers and a store, and the switch was told of its changes
pub record IsStepTaken (f : Program) (split : List Part) (packet : Packet) (i : ℕ)
    (before : Registers) (st : Store) (after : Registers) (st' : Store) (updates updates' : List Update) : Type 0 where
  pub registers : after ≡ registers_behind f packet i before st
  pub store : st' ≡ (turn f packet i (register_reads f before) st).store
  pub told : updates' ≡ updates ++ updates_of f split (turn f packet i (register_reads f before) st).changes

-- the updates have room for what a turn tells the switch
abbrev pub HasRoomFor : Program → List Part → Packet → ℕ → Registers → Store → ℕ → ℕ → Type 0
HasRoomFor f split packet i registers st told room =
    told + length (updates_of f split (turn f packet i (register_reads f registers) st).changes) ≤ room

-- What is read of a frame that came up: its number and packet, and its numbers in registers, which fit.
pub record IsRead (f : Program) (split : List Part) (frame : List ℕ) (registers : Registers) (head : Head)
    : Type 0 where
  pub number : head.number ≡ number_in frame
  pub packet : record { port = head.port; bytes = drop head.packet_at frame } ≡ packet_in (up_layout f split) frame
  pub within : head.packet_at ≤ length frame
  pub reads : handed f split registers ≡ reads_in (up_layout f split) frame
  pub ready : IsReady (server_spans f split) registers (contents_of f (handed f split registers)) 1
  pub fit : AllFit f (handed f split registers)
  pub arrives : IsArrival (packet_in (up_layout f split) frame)

-- What comes of a packet of number `n` that went up with these numbers: a store, a frame that goes down, and changes
-- that the switch is told of.
pub record IsOutcome (f : Program) (split : List Part) (st : Store) (n : ℕ) (packet : Packet) (up : Reading)
    (after : Store) (ran : Ran) : Type 0 where
  pub store : after ≡ (server_run f split up st packet).store
  pub number : ran.number ≡ n
  pub down : ran.down ≡ down_frame (down_layout f split) n packet.port (server_run f split up st packet).reads
      (sent_down f split (server_run f split up st packet).reads packet).bytes
  pub is_frame : IsFrame 2 (down_layout f split) ran.down
  pub updates : ran.updates ≡ updates_of f split (server_run f split up st packet).changes
  pub fit : Each (IsUpdateIn f split) ran.updates
  pub few : length ran.updates ≤ followed_writes f split
  pub evaluated : ran.evaluated ≡ evaluated_steps f split

-- A server's run begins: of a well-formed program that is split legally, over a store that keeps what was declared, with
-- numbers that fit, at a packet that arrives.
pub record IsBegun (f : Program) (split : List Part) (up : Reading) (st : Store) (packet : Packet) : Type 0 where
  pub formed : IsWellFormed f
  pub legal : IsLegal f split
  pub kept : IsKept f.objects st
  pub fit : AllFit f up
  pub arrives : IsArrival packet

-- a packet with the fields set that the server sets, by the numbers in registers
abbrev pub sent_by : Program → List Part → Registers → List ℕ → List ℕ
sent_by f split registers bytes = with_writes (server_fields f split) (register_reads f registers) bytes
