-- A server as contracts see it, and what it makes of the frames that come up.
use Rattle.std.specs.Prelude.{◌≡◌, ◌≤◌, ℕ, ◌+◌, Bool, true, false, ◌&&◌, not, List, [], ◌∷◌, map, length}
use Rattle.std.specs.Prelude.{Option, Some, None, IsTrue, slice_get}
use Rattle.std.specs.List.{AllByRecursion as Each}
use Rattle.packet_fields.specs.declared.packet.Packet.{Packet}
use Rattle.packet_fields.specs.declared.verdict.Verdict.{Verdict}
use Rattle.state_store.specs.declared.object.ObjectDecl.{ObjectDecl}
use Rattle.state_store.specs.Store.{Store}
use Rattle.flat_ir.specs.Kinds.{is_input}
use Rattle.flat_ir.specs.Program.{Program, Work, step_at}
use Rattle.flat_ir.specs.Program.Work.{put, del}
use Rattle.flat_ir.specs.Run.{Change, Machine, flat_changes, flat_store, flat_verdict}
use Rattle.split_model.specs.declared.split.Part.{Part}
use Rattle.split_model.specs.Counts.{count_steps}
use Rattle.split_model.specs.Layouts.{down_layout, up_layout}
use Rattle.split_model.specs.Passes.{down_verdict, pre_values, replicated_changes, sent_down, server_run}
use Rattle.split_model.specs.Shown.{is_replicated}
use Rattle.split_model.specs.Split.{is_server}
use Rattle.transfer_header.specs.Frames.{down_frame, up_frame, IsFrame}
use Rattle.transfer_header.specs.Told.{number_in, packet_in, port_in, reads_in}
use Rattle.writeback_table.specs.declared.command.To.{To}
use Rattle.writeback_table.specs.declared.command.To.TheVariants.{Value, Gone}
use Rattle.writeback_table.specs.declared.command.Update.{Update}
use Rattle.writeback_table.specs.Widths.{fits_update}
use Rattle.server_runtime.specs.declared.served.Served.{Served}

-- a split program, the store, how many versions of its replicated objects there were, and how many instructions other
-- than consts and fields the last frame took
pub record Server : Type 0 where
  pub program : Program
  pub split : List Part
  pub store : Store
  pub version : ℕ
  pub evaluated : ℕ

-- ## What the switch is told

abbrev pub to_of : Option (List ℕ) → To
to_of (Some values) = Value values
to_of None = Gone

-- a change as the switch is told of it
abbrev pub update_of : Change → Update
update_of c = record { object = c.object; key = c.key; to = to_of c.values }

-- of some changes those that the switch is told of: of replicated objects, in order
abbrev pub updates_of : Program → List Part → List Change → List Update
updates_of f split changes = map update_of (replicated_changes f split changes)

-- Updates make one version more, and none make no version.
abbrev pub version_after : ℕ → List Update → ℕ
version_after version [] = version
version_after version (update ∷ updates) = version + 1

-- it writes to a replicated object
abbrev pub is_followed : Program → List Part → Work → Bool
is_followed f split (put object keys values) = is_replicated f split object
is_followed f split (del object keys) = is_replicated f split object
is_followed f split _ = false

-- how many instructions write to replicated objects
abbrev pub followed_writes : Program → List Part → ℕ
followed_writes f split = count_steps f (λ i. is_followed f split (step_at f i).work)

-- it is the server's, and no const or field
abbrev pub is_evaluated : Program → List Part → ℕ → Bool
is_evaluated f split i = is_server split i && not (is_input (step_at f i).work)

-- how many of these the server has
abbrev pub evaluated_steps : Program → List Part → ℕ
evaluated_steps f split = count_steps f (is_evaluated f split)

-- a change of a replicated object, in count and widths
pub record IsUpdateIn (f : Program) (split : List Part) (u : Update) : Type 0 where
  pub declared : ObjectDecl
  pub is : slice_get f.objects u.object ≡ Some declared
  pub replicated : is_replicated f split u.object ≡ true
  pub widths : IsTrue (fits_update declared u)

-- ## What a frame gives

-- the server's run of a frame that came up, from a store, with the numbers that the frame hands up, whatever they are
abbrev pub frame_run : Program → List Part → Store → List ℕ → Machine
frame_run f split st frame =
    let layout = up_layout f split in server_run f split (reads_in layout frame) st (packet_in layout frame)

-- the store that it leaves, what the switch is told of it, and the frame that goes down
abbrev pub served_store : Program → List Part → Store → List ℕ → Store
served_store f split st frame = (frame_run f split st frame).store

abbrev pub served_updates : Program → List Part → Store → List ℕ → List Update
served_updates f split st frame = updates_of f split (frame_run f split st frame).changes

abbrev pub served_frame : Program → List Part → Store → List ℕ → List ℕ
served_frame f split st frame =
    let reads = (frame_run f split st frame).reads in
    down_frame (down_layout f split) (number_in frame) (port_in frame) reads
    (sent_down f split reads (packet_in (up_layout f split) frame)).bytes

-- What a server makes of a frame that came up.
pub record IsServed (before : Server) (frame : List ℕ) (served : Served) (after : Server) : Type 0 where
  pub program : after.program ≡ before.program
  pub split : after.split ≡ before.split
  pub store : after.store ≡ served_store before.program before.split before.store frame
  pub number : served.number ≡ number_in frame
  pub down : served.down ≡ served_frame before.program before.split before.store frame
  -- what goes down is a frame of the layout
  pub is_frame : IsFrame 2 (down_layout before.program before.split) served.down
  pub updates : served.updates ≡ served_updates before.program before.split before.store frame
  pub fit : Each (IsUpdateIn before.program before.split) served.updates
  pub few : length served.updates ≤ followed_writes before.program before.split
  pub version : after.version ≡ version_after before.version served.updates
  pub told : served.version ≡ after.version
  pub evaluated : after.evaluated ≡ evaluated_steps before.program before.split

-- ## Beside the whole program

-- the verdict of postprocessing on a frame that comes down, over tables
abbrev pub frame_verdict : Program → List Part → Store → List ℕ → Verdict
frame_verdict f split tables frame =
    let layout = down_layout f split in down_verdict f split (reads_in layout frame) tables (packet_in layout frame)

-- the frame in which a packet goes up, with the numbers of preprocessing over tables
abbrev pub packet_frame : Program → List Part → Store → ℕ → Packet → List ℕ
packet_frame f split tables number packet =
    up_frame (up_layout f split) number packet.port (pre_values f split tables packet) packet.bytes

-- The frame of a packet has its number. From the server's store it leaves the store and the changes of the whole
-- program's run, and what postprocessing makes of what goes down, over these tables, is that run's verdict.
pub record IsWholeRun (f : Program) (split : List Part) (st tables : Store) (number : ℕ) (packet : Packet)
    (frame : List ℕ) : Type 0 where
  pub is_frame : IsFrame 1 (up_layout f split) frame
  pub numbered : number_in frame ≡ number
  pub store : served_store f split st frame ≡ flat_store f st packet
  pub updates : served_updates f split st frame ≡ updates_of f split (flat_changes f st packet)
  pub verdict : frame_verdict f split tables (served_frame f split st frame) ≡ flat_verdict f st packet
