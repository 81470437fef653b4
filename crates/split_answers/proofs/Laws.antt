-- What holds of a legally split flat program, of the tables that its switch tells, and of the answers over them.
use Rattle.std.specs.FinMap as map
use Rattle.std.specs.Prelude as prelude
use Rattle.switch_ir.specs.declared.port.DownEnd.TheVariants as down
use Rattle.std.proofs.Common.{subst, sym, ◌∙◌, ap, arith, refl}
use Rattle.std.specs.List.{AllByRecursion as Each}
use Rattle.std.specs.Prelude.{Bool, List, Some, [], false, length, suc, true, ℕ, ◌++◌, ◌^◌, ◌∷◌, ◌≡◌, ◌≤◌, ◌<◌}
use Rattle.flat_ir.specs.Arrivals.{IsArrival}
use Rattle.flat_ir.specs.Blocks.{Reading, nothing}
use Rattle.flat_ir.specs.Program.{Program}
use Rattle.packet_fields.specs.declared.packet.Packet.{Packet}
use Rattle.packet_fields.specs.declared.verdict.Verdict.{Verdict}
use Rattle.replay_state.proofs.Laws.{a_run_is_answered_by_its_calls-once, lookups_see_one_version, packets_are_where_they_are_told, stores_keep_what_was_declared-seen, whole_runs_are_sound-sound}
use Rattle.replay_state.specs.Journal.{Call, IsAnswered, UpAnswer, asked, is_up_end, journal, question_of}
use Rattle.replay_state.specs.Places.{HavePlaces}
use Rattle.replay_state.specs.Program.{IsSplitProgram, Manner, plain, setup_of}
use Rattle.replay_state.specs.State.{State, applied_commands, seen, store_at}
use Rattle.replay_state.specs.Step.{applies}
use Rattle.replay_state.specs.Tables.{LookupsShow}
use Rattle.replay_state.specs.Tied.{HasFrames, IsRight, IsTied, Tells}
use Rattle.run_model.specs.declared.event.Event.{Event}
use Rattle.run_model.specs.declared.event.Event.TheVariants.{Stage}
use Rattle.server_runtime.proofs.Laws.{a_served_packet_is_the_whole_run, what_the_switch_is_told_fits-few}
use Rattle.server_runtime.specs.Serving.{IsUpdateIn}
use Rattle.split_model.specs.Layouts.{down_layout, up_layout}
use Rattle.split_model.specs.Shown.{is_replicated}
use Rattle.split_model.specs.declared.split.Part.{Part}
use Rattle.state_store.specs.Kept.{IsKept}
use Rattle.state_store.specs.Store.{Store, object_at, rows_of, Contents, rows_from, start_store}
use Rattle.state_store.specs.declared.object.ObjectDecl.{ObjectDecl}
use Rattle.state_store.specs.declared.object.Row.{Row}
use Rattle.switch_ir.specs.Code.{Code}
use Rattle.switch_ir.specs.Emitted.{emitted}
use Rattle.switch_ir.specs.Meaning.{down_given}
use Rattle.switch_ir.specs.Port.{AreSeen, EndsDown, EndsUp, IsCommandOf, IsHandedDown, IsNothing, IsReplicatedIn, IsUpdateOf, OfItsParts}
use Rattle.switch_ir.specs.Staged.{EndsBy, EndsDownBy, post_staging, pre_staging, last_numbers, staging}
use Rattle.switch_ir.specs.Tables.{IsStart, Told, has_room_in, pair_at, told_after, view_of, start_pair}
use Rattle.switch_ir.specs.UnderWay.{EndsWith, HasEntered, HasGoneOn, PassState}
use Rattle.transfer_header.specs.Frames.{IsFrame}
use Rattle.writeback_table.specs.Batches.{seen_after}
use Rattle.writeback_table.specs.Commands.{bit_through, pair_through, room_for, bit_after, names, pair_after}
use Rattle.writeback_table.specs.Pair.{first_pair, Pair, applied}
use Rattle.writeback_table.specs.declared.command.Command.{Command}
use Rattle.writeback_table.specs.declared.command.Update.{Update}
use Rattle.split_model.proofs.Laws.{kept_stores_have_tables}
use Rattle.transfer_header.specs.Told.{packet_in, reads_in}
use Rattle.transfer_header.specs.Values.{value_by}
use Rattle.state_store.proofs.Constants.{constant_at}
use Rattle.lemmas.proofs.Lists.{each_got}
use Rattle.std.proofs.lemmas.Option.{slice_get_within}
use Rattle.switch_ir.proofs.Declared.{declared_there, replicated_parts}
use Rattle.split_answers.proofs.Few.{run_few}
use Rattle.switch_ir.proofs.InStages.{ends_down, ends_up}
use Rattle.std.proofs.lemmas.Bool.{cond-false}
use Rattle.split_answers.proofs.Commanded.{as_many, bit_more, one_more, pair_goes, unnamed}
use Rattle.split_answers.proofs.KnownByPass.{ends_alike, enters, goes_on, over_up}
use Rattle.switch_ir.proofs.ZeroValues.{down_given_none}
use Rattle.split_answers.proofs.Passed.{own_frame, passes_down, passes_up, reads, verdict_down}
use Rattle.split_answers.proofs.Seen.{contents_seen, is_declared, is_replicated_there, pair_is, room_found}
use Rattle.split_answers.proofs.Tells.{asked_where, tells}
use Rattle.split_answers.proofs.Wholes.{is_framed, is_split_run, kept_there, loaded, number_down}
use Rattle.split_answers.specs.Over.{AreAnswersOver, IsGiven}
use Rattle.split_answers.specs.Through.{HasTables, IsThrough, end_of}
use Rattle.split_answers.specs.UnderWay.{AreShown, Knows, Views}
use Rattle.split_answers.specs.Whole.{IsSplit, whole_of}

-- A legally split program has the laws that the state of a replay asks for, over any packets that can arrive.
pub split_programs_have_their_laws : (f : Program) (split : List Part) (writeback : ℕ) (packets : List Packet)
    → IsSplit f split writeback → Each IsArrival packets → IsSplitProgram (whole_of f split writeback) packets
split_programs_have_their_laws f split writeback packets is arrive = record {
  start = is.kept;
  within = λ o shown. kept_there f split o is.bounded.formed shown;
  few = λ store packet. run_few f split store packet (length f.code);
  few_served = λ store frame.
      let layout = up_layout f split in
      what_the_switch_is_told_fits-few f split store (packet_in layout frame) (reads_in layout frame) (length f.code);
  runs = λ n packet store at kept. is_split_run f split writeback is packet (each_got IsArrival packets n packet arrive at) store kept;
}

-- A packet that goes up in a frame, is served and comes down has the whole program's run.
pub frames_do_what_packets_do : (f : Program) (split : List Part) (writeback : ℕ) (packets : List Packet)
    → IsSplit f split writeback → Each IsArrival packets → length packets ≤ 2 ^ 32
    → HasFrames (whole_of f split writeback) packets
frames_do_what_packets_do f split writeback packets is arrive few = record {
  each = λ n packet store at kept.
      let start = start_store f.objects in
      let ready = loaded f split start (kept_stores_have_tables f start is.kept) in
      let low : n < 2 ^ 32 = omega (arith, few, slice_get_within packets n packet at) in
      is_framed f split writeback n store packet
      (a_served_packet_is_the_whole_run f split store start start n packet is.bounded.formed is.legal (each_got IsArrival packets n packet arrive at)
      kept low ready ready);
  numbered = λ n frame store within is_n. number_down f split store frame (omega (arith, few, within, is_n)) ∙ is_n;
}

-- Before any command the tables are those that no command has gone through.
pub told_tables_start : (code : Code) (told : Told) → IsStart code told → IsThrough code [] told
told_tables_start code told start = record {
  there = start.there;
  pairs = λ o d is. start.pairs o ∙ ap (start_pair code.writeback) is.declared;
  constant = λ o d is table. start.pairs o ∙ ap (start_pair code.writeback) is;
  bit = start.bit;
}

-- A command of the code goes through the tables of its object.
pub a_told_command_goes_through : (code : Code) (commands : List Command) (command : Command) (told : Told)
    → IsThrough code commands told → IsCommandOf code command
    → IsThrough code (commands ++ command ∷ []) (told_after command told)
a_told_command_goes_through code commands command told through own = record {
  there = λ o d is. omega (arith, as_many told.pairs command, through.there o d is);
  pairs = λ o d is.
      let start : Pair = start_pair code.writeback (Some d) in
      pair_goes told.pairs o command (through.there o d is.declared) ∙ ap (λ p. pair_after o p command) (through.pairs o d is)
      ∙ sym (one_more o start commands command);
  constant = λ o d is table.
      let pair : Pair = pair_at told.pairs o in
      pair_goes told.pairs o command (through.there o d is)
      ∙ cond-false (names o command) (applied pair command) pair (unnamed code o d command is table own)
      ∙ through.constant o d is table;
  bit = ap (λ b. bit_after b command) through.bit ∙ sym (bit_more false commands command);
}

-- The tables of a replicated object are those that the commands make of its start tables, one after the other.
pub told_tables_are_those_of_the_commands : (f : Program) (split : List Part) (writeback o : ℕ) (commands : List Command) (told : Told)
    → IsSplit f split writeback → IsThrough (emitted f split writeback) commands told
    → is_replicated f split o ≡ true
    → pair_at told.pairs o ≡ pair_through o (first_pair f.objects writeback o) commands
told_tables_are_those_of_the_commands f split writeback o commands told is through shown = pair_is f split writeback is commands told through o shown

-- The code of a split program has tables for its replicated objects, and for no other object that can change.
pub replicated_objects_are_declared-there : (f : Program) (split : List Part) (writeback o : ℕ) → IsSplit f split writeback
    → is_replicated f split o ≡ true
    → (d : ObjectDecl) × IsReplicatedIn (emitted f split writeback) o d
replicated_objects_are_declared-there = is_declared

pub replicated_objects_are_declared-only : (f : Program) (split : List Part) (writeback o : ℕ) (d : ObjectDecl) → IsSplit f split writeback
    → IsReplicatedIn (emitted f split writeback) o d → is_replicated f split o ≡ true
replicated_objects_are_declared-only = is_replicated_there

pub replicated_objects_are_declared-updates : (f : Program) (split : List Part) (writeback : ℕ) (update : Update)
    → IsUpdateIn f split update → IsUpdateOf (emitted f split writeback) update
replicated_objects_are_declared-updates f split writeback update is =
    let parts = replicated_parts f split update.object is.replicated in (
      is.declared,
      record {
        declared = declared_there f split update.object is.declared parts.2 is.is;
        changes = sym (constant_at f.objects update.object is.declared is.is) ∙ parts.0;
      },
      is.widths,
    )

-- A command has room in the tables where the replay finds room for it.
pub a_told_command_finds_room : (f : Program) (split : List Part) (writeback : ℕ) (commands : List Command) (command : Command)
    (told : Told) → IsSplit f split writeback → IsThrough (emitted f split writeback) commands told
    → IsCommandOf (emitted f split writeback) command
    → ((o : ℕ) → is_replicated f split o ≡ true
    → room_for o (pair_through o (first_pair f.objects writeback o) commands) command ≡ true)
    → has_room_in told.pairs command ≡ true
a_told_command_finds_room f split writeback commands command told is through = room_found f split writeback is commands told through command

-- Where lookups of replicated objects see those of a store after some commands, a packet that is fast over the store
-- is finished with its verdict, and any other goes up in its frame.
pub a_told_pass_up_is_right : (f : Program) (split : List Part) (writeback : ℕ) (st : Store) (commands : List Command) (told : Told)
    (number : ℕ) (packet : Packet) (answer : UpAnswer)
    → IsSplit f split writeback → IsKept f.objects st → IsArrival packet
    → IsThrough (emitted f split writeback) commands told
    → AreShown f split writeback commands st
    → EndsUp (emitted f split writeback) told number packet (end_of answer) → is_up_end answer ≡ true
    → IsRight (whole_of f split writeback) st number packet (Some answer)
a_told_pass_up_is_right f split writeback st commands told number packet answer is kept arrives through seen =
    passes_up f split writeback st commands told number packet is kept through seen answer

-- The verdict on a frame that comes down is that of postprocessing, whatever the tables that can change.
pub a_told_pass_down_is_right : (f : Program) (split : List Part) (writeback : ℕ) (commands : List Command) (told : Told)
    (frame : List ℕ) (verdict : Verdict)
    → IsSplit f split writeback → IsThrough (emitted f split writeback) commands told
    → IsFrame 2 (down_layout f split) frame
    → EndsDown (emitted f split writeback) told frame (down.Verdict verdict)
    → verdict ≡ (whole_of f split writeback).post frame
a_told_pass_down_is_right f split writeback commands told frame verdict is through framed =
    passes_down f split writeback commands told frame is through framed verdict

-- Rows that lookups see are those of the store whose replicated objects they see.
pub told_rows_are_the_visible_stores : (f : Program) (split : List Part) (writeback : ℕ) (st : Store) (commands : List Command) (told : Told)
    (o : ℕ) (list : List Row)
    → IsSplit f split writeback → IsThrough (emitted f split writeback) commands told
    → is_replicated f split o ≡ true
    → seen_after o (first_pair f.objects writeback o) commands (length commands)
    ≡ (object_at st o).contents
    → AreSeen told o list → list ≡ rows_of (object_at st o)
told_rows_are_the_visible_stores f split writeback st commands told o list is through shown seen ends =
    ends ∙ ap (λ (c : Contents). rows_from (map.entries c)) (contents_seen f split writeback is commands told through o shown ∙ seen)

-- Where the tables that the commands make are the store's, with nothing staged and the bit clear, so are those that
-- are told.
pub quiet_tables_are_the_stores : (f : Program) (split : List Part) (writeback : ℕ) (st : Store) (commands : List Command) (told : Told)
    → IsSplit f split writeback → IsThrough (emitted f split writeback) commands told
    → bit_through false commands ≡ false
    → ((o : ℕ) → is_replicated f split o ≡ true
    → pair_through o (first_pair f.objects writeback o) commands
    ≡ record { main = object_at st o; staged = map.empty; room = writeback })
    → HasTables f split writeback st told
quiet_tables_are_the_stores f split writeback st commands told is through clear quiet = record {
  bit = through.bit ∙ clear;
  each = λ o shown. pair_is f split writeback is commands told through o shown ∙ quiet o shown;
}

-- A switch that answers over the tables that it tells answers right, so that the state of its replay is that of whole
-- packets. Where a pass ends that went on stage by stage, this rests on what the pass knows.
pub a_switch_that_tells_its_tables_tells_right : (f : Program) (split : List Part) (writeback : ℕ) (packets : List Packet) (manner : Manner)
    (events : List Event) (event : Event) (calls one : List Call) (st : State) (tables : Told)
    → IsSplit f split writeback → Each IsArrival packets
    → (let s = whole_of f split writeback in
    let setup = setup_of s packets manner in
    IsAnswered setup s packets events calls st → IsTied setup s packets calls events st
    → IsThrough (emitted f split writeback) (applied_commands st) tables
    → prelude.map question_of one ≡ asked setup s packets (calls ++ one) st event
    → Each (IsGiven (emitted f split writeback)) one → AreAnswersOver (emitted f split writeback) tables one
    → ((j : ℕ) → event ≡ Stage j → Tells setup s packets (calls ++ one) st (Stage j))
    → applies setup st event ≡ true → Tells setup s packets (calls ++ one) st event)
a_switch_that_tells_its_tables_tells_right f split writeback packets manner events event calls one st tables is arrive answered tied through asks given over staged applies =
    let s = whole_of f split writeback in
    let setup = setup_of s packets manner in
    let sound = whole_runs_are_sound-sound s packets manner (split_programs_have_their_laws f split writeback packets is arrive) in
    let shows = subst (λ (w : State). LookupsShow setup w (store_at w.stores (seen w))) (sym tied.same)
    (lookups_see_one_version setup (plain s packets) events sound).shows in
    let kept = subst (λ (w : State). IsKept f.objects (store_at w.stores (seen w))) (sym tied.same) (stores_keep_what_was_declared-seen setup (plain s packets) events sound) in
    tells f split writeback packets manner calls one st tables is kept through
    (a_run_is_answered_by_its_calls-once setup s packets events calls st answered)
    (subst HavePlaces (sym answered.run) (packets_are_where_they_are_told setup (journal s calls) events))
    shows event (asks ∙ asked_where setup s packets calls one st event applies) given over staged

-- A pass that enters over tables that show a store knows what it computes over them; it goes on to know that at each
-- stage at which its view shows this store; and it ends as the whole pass over the store would.
pub a_told_pass_in_stages_is_right-enters_up : (f : Program) (split : List Part) (writeback : ℕ) (st : Store) (commands : List Command)
    (told : Told) (packet : Packet) (pass : PassState)
    → IsSplit f split writeback → IsKept f.objects st → IsArrival packet
    → IsThrough (emitted f split writeback) commands told → AreShown f split writeback commands st
    → HasEntered (pre_staging (emitted f split writeback)) IsNothing packet (Some told) pass
    → Knows f split writeback true nothing packet told.bit st pass
a_told_pass_in_stages_is_right-enters_up f split writeback st commands told packet pass is kept arrives through shows entered =
    enters f split writeback is st kept true nothing packet commands told pass through shows (λ v e. refl) entered

pub a_told_pass_in_stages_is_right-enters_down : (f : Program) (split : List Part) (writeback : ℕ) (st : Store) (commands : List Command)
    (told : Told) (frame : List ℕ) (pass : PassState)
    → (let code = emitted f split writeback in
    IsSplit f split writeback → IsKept f.objects st → IsFrame 2 code.down frame
    → IsThrough code commands told → AreShown f split writeback commands st
    → OfItsParts code frame (λ number packet values.
    HasEntered (post_staging code) (IsHandedDown code values packet) packet (Some told) pass
    → Knows f split writeback false (down_given code values packet) packet told.bit st pass))
a_told_pass_in_stages_is_right-enters_down f split writeback st commands told frame pass is kept framed through shows number port values packet parts entered =
    let arrived : Packet = record { port = port; bytes = packet } in
    let code = emitted f split writeback in
    enters f split writeback is st kept false (down_given code values arrived) arrived commands told pass through shows
    (down_given_none code values arrived) entered

pub a_told_pass_in_stages_is_right-goes_on : (f : Program) (split : List Part) (writeback : ℕ) (st : Store) (commands : List Command)
    (told : Told) (pre : Bool) (given : Reading) (packet : Packet) (bit : Bool) (old new : PassState)
    → IsSplit f split writeback → IsKept f.objects st → IsThrough (emitted f split writeback) commands told
    → Views f split writeback bit commands st → Knows f split writeback pre given packet bit st old
    → HasGoneOn (staging pre (emitted f split writeback)) (Some told) old new
    → Knows f split writeback pre given packet bit st new
a_told_pass_in_stages_is_right-goes_on f split writeback st commands told pre given packet bit old new is kept through views knows =
    goes_on f split writeback is st kept commands told through pre given packet bit old views knows new

pub a_told_pass_in_stages_is_right-up : (f : Program) (split : List Part) (writeback : ℕ) (st : Store) (commands : List Command)
    (told : Told) (packet : Packet) (bit : Bool) (old : PassState) (number : ℕ) (answer : UpAnswer)
    → (let code = emitted f split writeback in
    IsSplit f split writeback → IsKept f.objects st → IsArrival packet → IsThrough code commands told
    → Views f split writeback bit commands st → Knows f split writeback true nothing packet bit st old
    → suc old.stage ≡ code.pre.highest → is_up_end answer ≡ true
    → EndsWith (pre_staging code) (Some told) old (λ reads. EndsBy code reads number old.packet (end_of answer))
    → IsRight (whole_of f split writeback) st number packet (Some answer))
a_told_pass_in_stages_is_right-up f split writeback st commands told packet bit old number answer is kept arrives through views knows last ended ends =
    let code = emitted f split writeback in
    let view = view_of knows.pass.bit told.pairs in
    let by_own = ends told knows.pass refl knows.told in
    let by_packet = subst (λ q. EndsBy code (last_numbers (pre_staging code) (suc old.stage) knows.pass.numbers view q) number q
    (end_of answer)) knows.packet_is by_own in
    let alike = ends_alike f split writeback is st kept commands told through true nothing packet bit old views knows last in
    passes_up f split writeback st knows.commands knows.first number packet is kept knows.through knows.shows answer
    (over_up code knows.first number packet (end_of answer) (ends_up code _ _ alike number packet (end_of answer) by_packet)) ended

pub a_told_pass_in_stages_is_right-down : (f : Program) (split : List Part) (writeback : ℕ) (st : Store) (commands : List Command)
    (told : Told) (frame : List ℕ) (bit : Bool) (old : PassState) (verdict : Verdict)
    → (let code = emitted f split writeback in
    IsSplit f split writeback → IsKept f.objects st → IsFrame 2 code.down frame → IsThrough code commands told
    → Views f split writeback bit commands st
    → OfItsParts code frame (λ number packet values.
    Knows f split writeback false (down_given code values packet) packet bit st old)
    → suc old.stage ≡ code.post.highest
    → EndsWith (post_staging code) (Some told) old
    (λ reads. EndsDownBy code reads old.packet (down.Verdict verdict))
    → verdict ≡ (whole_of f split writeback).post frame)
a_told_pass_in_stages_is_right-down f split writeback st commands told frame bit old verdict is kept framed through views knows_all last ends =
    let code = emitted f split writeback in
    let numbers = value_by (reads f split writeback commands told frame is through framed) in
    let packet : Packet = record { port = framed.port; bytes = framed.packet } in
    let knows = knows_all framed.number framed.port numbers framed.packet (own_frame f split writeback commands told frame is through framed) in
    let view = view_of knows.pass.bit told.pairs in
    let by_own = ends told knows.pass refl knows.told in
    let by_packet = subst (λ q. EndsDownBy code (last_numbers (post_staging code) (suc old.stage) knows.pass.numbers view q) q
    (down.Verdict verdict)) knows.packet_is by_own in
    let alike = ends_alike f split writeback is st kept commands told through false (down_given code numbers packet) packet bit old views knows last in
    verdict_down f split writeback knows.commands knows.first frame is knows.through framed verdict
    (ends_down code _ _ alike packet (down.Verdict verdict) by_packet)
