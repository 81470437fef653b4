-- What holds of every frame that is served, as the definitions give it. What holds of a server's run in registers, turn
-- by turn and at its end.
use Rattle.std.proofs.Common.{ap, arith, drop, subst, sym, ◌∙◌}
use Rattle.std.specs.List.{AllByRecursion as Each}
use Rattle.std.specs.Prelude.{List, false, length, slice_index, suc, true, ℕ, ◌+◌, ◌<◌, ◌^◌, ◌≡◌, ◌≤◌}
use Rattle.flat_ir.specs.Arrivals.{IsArrival}
use Rattle.flat_ir.specs.Blocks.{Reading}
use Rattle.flat_ir.specs.Program.{Program, step_at}
use Rattle.flat_ir.specs.Spans.{AreWrittenFirst, ValuesDiffer}
use Rattle.flat_ir.specs.WellFormed.{IsWellFormed}
use Rattle.packet_fields.specs.declared.packet.Packet.{Packet}
use Rattle.split_model.proofs.Laws.{a_server_keeps_widths-runs, a_server_keeps_widths-turns, a_server_reads_what_crosses, a_split_is_the_whole, kept_stores_have_tables, what_comes_down_serves, what_is_handed_up_fits}
use Rattle.split_model.specs.Counts.{count_below}
use Rattle.split_model.specs.Crossing.{crosses_up}
use Rattle.split_model.specs.Laws.{FitAcross, HasDeclaredTables}
use Rattle.split_model.specs.Layouts.{down_layout, up_layout}
use Rattle.split_model.specs.Legal.{IsLegal}
use Rattle.split_model.specs.Passes.{pre_values, sent_down, served, server_fields, server_run}
use Rattle.split_model.specs.declared.split.Part.{Part}
use Rattle.state_store.specs.Kept.{IsKept}
use Rattle.state_store.specs.Store.{Store}
use Rattle.transfer_header.proofs.Laws.{frames_are_told_by_place-down, frames_are_told_by_place-parts, frames_are_told_by_place-unpacked, frames_are_told_by_place-up, frames_of_low_bits-frame, layouts_fit-rising, needed_values_fit, what_crosses_is_held-down, what_crosses_is_narrow-down, what_crosses_is_narrow-up}
use Rattle.transfer_header.specs.Frames.{IsFrameOf, IsUnpacked, down_frame, frame_of}
use Rattle.transfer_header.specs.Registers.{FitsLayout, Holds, Registers, value_in}
use Rattle.transfer_header.specs.Steps.{AreSpansOf, LooksAtReadsAlone, reading_after}
use Rattle.transfer_header.specs.Told.{reads_in}
use Rattle.transfer_header.specs.Values.{low_bits, value_by}
use Rattle.transfer_header.specs.declared.frame.Head.{Head}
use Rattle.writeback_table.specs.declared.command.Update.{Update}
use Rattle.server_runtime.proofs.Contents.{contents_after, looks_at_reads}
use Rattle.server_runtime.proofs.Handed.{is_read}
use Rattle.server_runtime.proofs.Needed.{down_needed, up_needed}
use Rattle.server_runtime.proofs.Lengths.{length_with_writes}
use Rattle.server_runtime.proofs.Outcomes.{handed_on, sets_fields}
use Rattle.server_runtime.proofs.NextTurn.{done_alike, have_registers, room_for_turn, serving_more}
use Rattle.server_runtime.proofs.Spanned.{are_spans, values_differ, written_first}
use Rattle.server_runtime.proofs.Told.{all_told_fit, told_few}
use Rattle.server_runtime.proofs.Walked.{serving_later}
use Rattle.server_runtime.proofs.Wholes.{down_is_frame, up_is_frame, verdict_is}
use Rattle.server_runtime.specs.Registers.{AreServing, HaveRegisters}
use Rattle.server_runtime.specs.Running.{contents_at, number_at, server_steps}
use Rattle.server_runtime.specs.Serving.{IsUpdateIn, IsWholeRun, evaluated_steps, followed_writes, is_followed, packet_frame, updates_of}
use Rattle.server_runtime.specs.Spans.{is_turn, server_spans}
use Rattle.server_runtime.specs.StepsTaken.{HasRoomFor, IsStepTaken, IsBegun, IsOutcome, IsRead, IsServing, sent_by}
use Rattle.server_runtime.specs.Walks.{is_due}
use Rattle.server_runtime.specs.declared.run.Ran.{Ran}
use Rattle.split_model.proofs.Fitness.{alone_fits, alone_handed, crossing_alone}

-- A server's run goes by steps, which look at no value but those that they read, and whose numbers are those of the
-- run. Its spans are spans of what they write and read, and registers may be used again by them.
pub a_server_run_goes_by_steps-looks : (f : Program) (split : List Part) (up : Reading) (st : Store) (packet : Packet)
    → IsWellFormed f → LooksAtReadsAlone (server_steps f split up st packet)
a_server_run_goes_by_steps-looks f split up st packet well = looks_at_reads f well split up st packet

pub a_server_run_goes_by_steps-numbers : (f : Program) (split : List Part) (up : Reading) (st : Store) (packet : Packet) (i : ℕ)
    → IsWellFormed f → i < length f.code
    → reading_after (server_steps f split up st packet) (contents_at f split up st packet i) (suc i)
    ≡ contents_at f split up st packet (suc i)
a_server_run_goes_by_steps-numbers f split up st packet i well lt = contents_after f well split up st packet i lt

pub a_server_run_goes_by_steps-spans : (f : Program) (split : List Part) (up : Reading) (st : Store) (packet : Packet)
    → IsWellFormed f → AreSpansOf (server_steps f split up st packet) (server_spans f split)
a_server_run_goes_by_steps-spans f split up st packet well = are_spans f split well (number_at f split up st packet)

pub a_server_run_goes_by_steps-differ : (f : Program) (split : List Part) → IsWellFormed f → ValuesDiffer (server_spans f split)
a_server_run_goes_by_steps-differ = values_differ

pub a_server_run_goes_by_steps-ordered : (f : Program) (split : List Part) → AreWrittenFirst (server_spans f split)
a_server_run_goes_by_steps-ordered = written_first

-- What the switch is told has the widths of the replicated objects that it changes, from numbers that fit. After so
-- many instructions, it has no more changes than there are writes to replicated objects among them.
pub what_the_switch_is_told_fits-fit : (f : Program) (split : List Part) (st : Store) (packet : Packet) (up : Reading)
    → IsWellFormed f → IsLegal f split → IsArrival packet → IsKept f.objects st
    → FitAcross f (crosses_up f split) up
    → Each (IsUpdateIn f split) (updates_of f split (server_run f split up st packet).changes)
what_the_switch_is_told_fits-fit f split st packet up well legal arrives kept fit =
    let other = crossing_alone f split up in
    let alike = a_server_reads_what_crosses f split st packet other up well legal (alone_handed f split up) in
    subst (λ cs. Each (IsUpdateIn f split) (updates_of f split cs)) (sym alike.changes)
    (all_told_fit f split st packet other well arrives kept (alone_fits f split up fit) (length f.code) (omega arith))

pub what_the_switch_is_told_fits-few : (f : Program) (split : List Part) (st : Store) (packet : Packet) (up : Reading) (n : ℕ)
    → length (updates_of f split (served f split up st packet n).changes)
    ≤ count_below n (λ i. is_followed f split (step_at f i).work)
what_the_switch_is_told_fits-few = told_few

-- A packet that goes up with the numbers of preprocessing, over any tables that have the declared constant ones, is
-- served as the whole program would run it from the server's store.
pub a_served_packet_is_the_whole_run : (f : Program) (split : List Part) (st tables_up tables : Store) (number : ℕ) (packet : Packet)
    → IsWellFormed f → IsLegal f split → IsArrival packet → IsKept f.objects st → number < 2 ^ 32
    → HasDeclaredTables f split tables_up → HasDeclaredTables f split tables
    → IsWholeRun f split st tables number packet (packet_frame f split tables_up number packet)
a_served_packet_is_the_whole_run f split st tables_up tables number packet well legal arrives kept few loaded_up loaded =
    let pre = pre_values f split tables_up packet in
    let frame = packet_frame f split tables_up number packet in
    let up = reads_in (up_layout f split) frame in
    let server = (server_run f split up st packet).reads in
    let sent = down_frame (down_layout f split) number packet.port server (sent_down f split server packet).bytes in
    let narrow = (what_crosses_is_narrow-up f split pre).1 (what_is_handed_up_fits f split st tables_up packet well legal arrives kept loaded_up) in
    let is = up_is_frame f split number packet pre few arrives narrow in
    let told = frames_are_told_by_place-parts 1 (up_layout f split) number packet.port (value_by pre) packet.bytes frame is in
    let reads = frames_are_told_by_place-up f split 1 number packet.port (value_by pre) packet.bytes frame is in
    let within = a_server_keeps_widths-runs f split st packet up well legal arrives kept reads.narrow in
    let goes = down_is_frame f split number packet server few arrives.port arrives.size ((what_crosses_is_narrow-down f split server).1 within.down) in
    let came = frames_are_told_by_place-parts 2 (down_layout f split) number packet.port (value_by server) (sent_down f split server packet).bytes sent goes in
    let reads_down = frames_are_told_by_place-down f split 2 number packet.port (value_by server) (sent_down f split server packet).bytes sent goes in
    let whole = a_split_is_the_whole f split st tables_up tables packet up (reads_in (down_layout f split) sent) well legal
    (kept_stores_have_tables f st kept) loaded_up loaded reads.numbers in
    let down = what_comes_down_serves f split tables packet server (reads_in (down_layout f split) sent) well legal in
    record {
      is_frame = record { number = number; port = packet.port; values = value_by pre; packet = packet.bytes; is = is };
      numbered = told.numbered;
      store = ap (λ p. (server_run f split up st p).store) told.carries ∙ whole.store;
      updates = ap (λ p. updates_of f split (server_run f split up st p).changes) told.carries ∙ ap (updates_of f split) whole.changes;
      verdict = verdict_is f split st tables_up tables number packet told came ∙ down.verdict ∙ whole.verdict reads_down.numbers;
    }

-- Registers for a run serve for what comes up, and once a frame was read into them they hold what stands in it.
pub a_frame_is_read-fits : (f : Program) (split : List Part) (registers : Registers)
    → IsWellFormed f → AreServing f split registers → FitsLayout (up_layout f split) registers
a_frame_is_read-fits f split registers well serving =
    needed_values_fit (up_layout f split) (server_spans f split) registers 0 serving.apart (layouts_fit-rising f split).0
    (up_needed f split well)

pub a_frame_is_read-read : (f : Program) (split : List Part) (frame : List ℕ) (before after : Registers) (head : Head)
    → IsWellFormed f → AreServing f split after → ((i : ℕ) → slice_index frame i < 2 ^ 8)
    → IsUnpacked 1 (up_layout f split) frame before after head → IsRead f split frame after head
a_frame_is_read-read f split frame before after head well serving bytes here =
    is_read f split well frame after serving
    (frames_are_told_by_place-up f split 1 head.number head.port (value_in after) (drop head.packet_at frame) frame here.is)
    before head here (frames_are_told_by_place-unpacked 1 (up_layout f split) frame before after head here) bytes

-- A run that goes on has registers for its next step, a store that keeps what was declared, and room for what the
-- switch is told. The turn that is taken then is that of the run. Where none is due, the run goes on with what it has.
pub a_server_takes_turns-has : (f : Program) (split : List Part) (up : Reading) (st : Store) (packet : Packet) (i : ℕ)
    (registers : Registers) (now : Store) (updates : List Update)
    → IsBegun f split up st packet → IsServing f split up st packet i registers now updates
    → i < length f.code → is_turn f split i ≡ true → HaveRegisters f i registers
a_server_takes_turns-has f split up st packet i registers now updates begun so lt mine =
    have_registers f split i registers lt (are_spans f split begun.formed (number_at f split up st packet)).written so.ready.apart mine

pub a_server_takes_turns-kept : (f : Program) (split : List Part) (up : Reading) (st : Store) (packet : Packet) (i : ℕ)
    (registers : Registers) (now : Store) (updates : List Update)
    → IsBegun f split up st packet → IsServing f split up st packet i registers now updates
    → i ≤ length f.code → IsKept f.objects now
a_server_takes_turns-kept f split up st packet i registers now updates begun so le =
    subst (IsKept f.objects) (sym so.store) (a_server_keeps_widths-turns f split st packet up i begun.formed begun.arrives begun.kept begun.fit le).kept

pub a_server_takes_turns-room : (f : Program) (split : List Part) (up : Reading) (st : Store) (packet : Packet) (i : ℕ)
    (registers : Registers) (now : Store) (updates : List Update)
    → IsBegun f split up st packet → IsServing f split up st packet i registers now updates
    → i < length f.code → is_turn f split i ≡ true → HasRoomFor f split packet i registers now (length updates)
    (followed_writes f split)
a_server_takes_turns-room f split up st packet i registers now updates begun so lt mine =
    room_for_turn f begun.formed split up st packet i lt registers now updates so mine

pub a_server_takes_turns-next : (f : Program) (split : List Part) (up : Reading) (st : Store) (packet : Packet) (i : ℕ)
    (registers : Registers) (now : Store) (updates : List Update)
    (after : Registers) (later : Store) (told : List Update)
    → IsBegun f split up st packet → IsServing f split up st packet i registers now updates
    → i < length f.code → is_turn f split i ≡ true
    → IsStepTaken f split packet i registers now after later updates told
    → IsServing f split up st packet (i + 1) after later told
a_server_takes_turns-next f split up st packet i registers now updates after later told begun so lt mine turned =
    serving_more f begun.formed split up st packet i lt registers now updates so mine after later told turned

pub a_server_takes_turns-idle : (f : Program) (split : List Part) (up : Reading) (st : Store) (packet : Packet) (i n : ℕ)
    (registers : Registers) (now : Store) (updates : List Update)
    → IsBegun f split up st packet → IsServing f split up st packet i registers now updates
    → i ≤ n → n ≤ length f.code → ((j : ℕ) → i ≤ j → j < n → is_due f split j ≡ false)
    → IsServing f split up st packet n registers now updates
a_server_takes_turns-idle f split up st packet i n registers now updates begun so le within idle =
    serving_later f split up st packet registers now updates begun.formed i n le within idle so

-- Once all steps are taken, the registers serve for what goes down, and the outcome is that of the run.
pub a_server_run_has_an_outcome-fits : (f : Program) (split : List Part) (up : Reading) (st : Store) (packet : Packet)
    (registers : Registers) (now : Store) (updates : List Update)
    → IsBegun f split up st packet → IsServing f split up st packet (length f.code) registers now updates
    → FitsLayout (down_layout f split) registers
a_server_run_has_an_outcome-fits f split up st packet registers now updates begun so =
    needed_values_fit (down_layout f split) (server_spans f split) registers (length f.code) so.ready.apart (layouts_fit-rising f split).1
    (down_needed f split begun.formed)

pub a_server_run_has_an_outcome-outcome : (f : Program) (split : List Part) (up : Reading) (st : Store) (packet : Packet)
    (registers : Registers) (now : Store) (updates : List Update) (number : ℕ) (ran : Ran)
    → IsBegun f split up st packet → IsServing f split up st packet (length f.code) registers now updates
    → number < 2 ^ 32 → ran.number ≡ number → ran.updates ≡ updates
    → ran.evaluated ≡ evaluated_steps f split
    → ran.down ≡ frame_of 2 (down_layout f split) number packet.port (value_in registers)
    (sent_by f split registers packet.bytes)
    → ((reads : Reading) → Holds (down_layout f split) registers reads
    → ran.down ≡ down_frame (down_layout f split) number packet.port reads (sent_by f split registers packet.bytes))
    → IsOutcome f split st number packet up now ran
a_server_run_has_an_outcome-outcome f split up st packet registers now updates number ran begun so four_bytes numbered told evaluated bytes reading =
    let well = begun.formed in
    let layout = down_layout f split in
    let m = server_run f split up st packet in
    let sent = sent_by f split registers packet.bytes in
    let alike = done_alike f split up st packet (length f.code) registers now updates well so in
    let sets : sent ≡ (sent_down f split m.reads packet).bytes = sets_fields f split well up st packet registers alike packet.bytes in
    let held = (what_crosses_is_held-down f split registers m.reads).1 (handed_on f split well up st packet registers alike) in
    let tells : ran.updates ≡ updates_of f split m.changes = told ∙ so.told in
    let fits : Each (IsUpdateIn f split) (updates_of f split m.changes) =
    what_the_switch_is_told_fits-fit f split st packet up well begun.legal begun.arrives begun.kept (λ v e. begun.fit v)
    in
    record {
      store = so.store;
      number = numbered;
      down = reading m.reads held ∙ ap (λ l. down_frame layout number packet.port m.reads l) sets;
      is_frame = record {
        number = number;
        port = packet.port;
        values = low_bits (value_in registers);
        packet = sent;
        is = subst (IsFrameOf 2 layout number packet.port (low_bits (value_in registers)) sent) (sym bytes)
            (frames_of_low_bits-frame 2 layout number packet.port (value_in registers) sent four_bytes (omega (arith, begun.arrives.port))
            (omega (arith, begun.arrives.size, ap length sets, length_with_writes (server_fields f split) m.reads packet.bytes)));
      };
      updates = tells;
      fit = subst (Each (IsUpdateIn f split)) (sym tells) fits;
      few = subst (λ us. length us ≤ followed_writes f split) (sym tells) (told_few f split st packet up (length f.code));
      evaluated = evaluated;
    }
