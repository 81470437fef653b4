-- What the parts of a split program compute.
use Rattle.std.specs.Prelude.{◌≡◌, ℕ, zero, suc, ◌==◌, ◌%◌, ◌^◌, Bool, true, false, not, ◌&&◌, ◌||◌, List, [], length}
use Rattle.std.specs.Prelude.{Option, Some, None, if◌then◌else◌, slice_index}
use Rattle.packet_fields.specs.declared.packet.Packet.{Packet}
use Rattle.packet_fields.specs.declared.verdict.Verdict.{Verdict}
use Rattle.packet_fields.specs.declared.verdict.Verdict.TheVariants.{Drop, Send}
use Rattle.state_store.specs.Store.{Store, object_at}
use Rattle.std.specs.List.{filter}
use Rattle.flat_ir.specs.declared.program.ValueId.{ValueId}
use Rattle.flat_ir.specs.declared.program.FieldValue.{FieldValue}
use Rattle.flat_ir.specs.Program.{Program, step_at}
use Rattle.flat_ir.specs.Blocks.{Reading, nothing, is_live}
use Rattle.flat_ir.specs.Run.{Machine, Change, do_step, results, verdict, flat_run, with_writes}
use Rattle.split_model.specs.declared.split.Part.{Part}
use Rattle.split_model.specs.Split.{pre_stage, post_stage, is_pre, is_server, is_post, any_step}
use Rattle.flat_ir.specs.Kinds.{is_input}
use Rattle.split_model.specs.Shown.{is_shown, is_replicated}
use Rattle.split_model.specs.Crossing.{is_at_hand, is_server_write, crosses_down}

-- ## A pass in stages

abbrev pub is_stage : Option ℕ → ℕ → Bool
is_stage None t = false
is_stage (Some own) t = own == t

-- the values of a pass once the stages below t are done; an instruction of stage t reads these
abbrev pub done_below : Program → (ℕ → Option ℕ) → Reading → Store → Packet → ℕ → Reading
done_below f stage given tables packet zero v = given v
done_below f stage given tables packet (suc t) v =
    let reads = done_below f stage given tables packet t in
    if is_stage (stage v.instruction) t
    then slice_index (results reads false tables packet (step_at f v.instruction).work) v.result
    else reads v

-- a value that the pass computes at a stage, or was given
abbrev pub value_from : Option ℕ → Program → (ℕ → Option ℕ) → Reading → Store → Packet → Reading
value_from None f stage given tables packet v = given v
value_from (Some own) f stage given tables packet v =
    let reads = done_below f stage given tables packet own in
    slice_index (results reads false tables packet (step_at f v.instruction).work) v.result

abbrev pub pass : Program → (ℕ → Option ℕ) → Reading → Store → Packet → Reading
pass f stage given tables packet v = value_from (stage v.instruction) f stage given tables packet v

-- ## Preprocessing

abbrev pub pre_values : Program → List Part → Store → Packet → Reading
pre_values f split tables packet = pass f (pre_stage split) nothing tables packet

-- a block that holds an instruction outside `pre` is live by these numbers
abbrev pub meets_rest : Program → List Part → Reading → Bool
meets_rest f split reads = any_step f (λ i. not (is_pre split i) && is_live f.blocks reads (step_at f i).block)

-- the verdict of a packet that preprocessing finishes; none where it is sent up
abbrev pub pre_verdict : Program → List Part → Store → Packet → Option Verdict
pre_verdict f split tables packet =
    if meets_rest f split (pre_values f split tables packet) then None
    else Some (verdict f packet (pre_values f split tables packet))

-- in the run of the whole program no instruction outside `pre` is live
abbrev pub is_fast : Program → List Part → Store → Packet → Bool
is_fast f split st packet = not (meets_rest f split (flat_run f st packet).reads)

-- the switch's tables are the store's, as far as preprocessing reads them
abbrev pub AgreeOnShown : Program → List Part → Store → Store → Type 0
AgreeOnShown f split tables st = (o : ℕ) → is_shown f split o ≡ true → object_at tables o ≡ object_at st o

-- ## The server

-- The server's machine after the first n instructions. It begins with the numbers that it was handed, of any values.
abbrev pub served : Program → List Part → Reading → Store → Packet → ℕ → Machine
served f split up st packet zero = record { reads = up; store = st; changes = [] }
served f split up st packet (suc n) =
    let m = served f split up st packet n in
    if is_input (step_at f n).work || is_server split n
    then do_step (is_live f.blocks m.reads (step_at f n).block) packet n (step_at f n).work m
    else m

abbrev pub server_run : Program → List Part → Reading → Store → Packet → Machine
server_run f split up st packet = served f split up st packet (length f.code)

-- the changes that the switch has to hear of
abbrev pub replicated_changes : Program → List Part → List Change → List Change
replicated_changes f split changes = filter (λ (c : Change). is_replicated f split c.object) changes

-- these numbers were handed on from those, as far as values cross
abbrev pub IsHanded : (ValueId → Bool) → Reading → Reading → Type 0
IsHanded crosses from to = (v : ValueId) → crosses v ≡ true → to v ≡ from v

-- ## Postprocessing

-- what postprocessing was handed, or has at hand
abbrev pub given_down : Program → List Part → Reading → Packet → Reading
given_down f split down packet v =
    if crosses_down f split v then down v
    else (if is_at_hand f split (step_at f v.instruction).work
    then slice_index (results nothing false [] packet (step_at f v.instruction).work) v.result else 0)

abbrev pub post_values : Program → List Part → Reading → Store → Packet → Reading
post_values f split down tables packet = pass f (post_stage split) (given_down f split down packet) tables packet

-- the numbers that the packet leaves with: those of postprocessing, and for a field that the server set, the server's
abbrev pub leaving : List Part → Reading → Reading → Reading
leaving split served post v = if is_post split v.instruction then post v else served v

-- the verdict of postprocessing, where the server set fields to its own numbers
abbrev pub post_verdict : Program → List Part → Reading → Reading → Store → Packet → Verdict
post_verdict f split server down tables packet =
    let post = post_values f split down tables packet in
    if post f.send == 0 then Drop
    else Send (post f.port % 2 ^ 8) (with_writes f.fields (leaving split server post) packet.bytes)

-- ## The packet that comes down

-- the fields that the server sets, and those that it leaves to postprocessing
abbrev pub server_fields : Program → List Part → List FieldValue
server_fields f split = filter (is_server_write split) f.fields

abbrev pub post_fields : Program → List Part → List FieldValue
post_fields f split = filter (λ (w : FieldValue). is_post split w.value.instruction) f.fields

-- the packet as the server sends it down
abbrev pub sent_down : Program → List Part → Reading → Packet → Packet
sent_down f split server packet = record {
  port = packet.port;
  bytes = with_writes (server_fields f split) server packet.bytes;
}

-- the verdict of postprocessing from the packet that came down, where it sets its own fields alone
abbrev pub down_verdict : Program → List Part → Reading → Store → Packet → Verdict
down_verdict f split down tables packet =
    let post = post_values f split down tables packet in
    if post f.send == 0 then Drop
    else Send (post f.port % 2 ^ 8) (with_writes (post_fields f split) post packet.bytes)
