-- What the code of a switch computes, by itself.
use Rattle.std.specs.Prelude.{ℕ, zero, suc, ◌==◌, Bool, false, ◌&&◌, List, [], ◌∷◌, Option, Some, None}
use Rattle.std.specs.Prelude.{if◌then◌else◌, slice_index}
use Rattle.std.specs.List.{list_any}
use Rattle.packet_fields.specs.declared.packet.Packet.{Packet}
use Rattle.packet_fields.specs.declared.verdict.Verdict.{Verdict}
use Rattle.state_store.specs.Store.{Store}
use Rattle.flat_ir.specs.declared.program.ValueId.{ValueId}
use Rattle.flat_ir.specs.Blocks.{Reading, nothing, is_live}
use Rattle.flat_ir.specs.Run.{results, sent}
use Rattle.split_model.specs.declared.layout.Crossing.{Crossing}
use Rattle.split_model.specs.Crossing.{is_value}
use Rattle.switch_ir.specs.Passes.{Step, PassCode, Code}

-- ## A pass in stages

abbrev pub is_step : Step → ℕ → ValueId → Bool
is_step s t v = s.stage == t && s.instruction == v.instruction

-- The values after stage t: each of its instructions gives its results of the values before it, and all else stays.
abbrev pub after_stage : List Step → ℕ → Reading → Store → Packet → Reading
after_stage [] t reads tables packet v = reads v
after_stage (s ∷ ss) t reads tables packet v =
    if is_step s t v then slice_index (results reads false tables packet s.work) v.result
    else after_stage ss t reads tables packet v

-- the values of a pass once the stages below t are done
abbrev pub after_stages : List Step → Reading → Store → Packet → ℕ → Reading
after_stages steps given tables packet zero v = given v
after_stages steps given tables packet (suc t) v =
    after_stage steps t (after_stages steps given tables packet t) tables packet v

abbrev pub pass_values : PassCode → Reading → Store → Packet → Reading
pass_values pass given tables packet = after_stages pass.steps given tables packet (suc pass.highest)

-- what becomes of the packet by a pass's values
abbrev pub leaves : PassCode → Reading → Packet → Verdict
leaves pass reads packet = sent pass.send pass.port pass.fields reads packet

-- ## A packet that arrives, over the tables that lookups see

abbrev pub up_values : Code → Store → Packet → Reading
up_values code tables packet = pass_values code.pre nothing tables packet

-- work is left for the server: a block that holds some of it is live
abbrev pub goes_up : Code → Reading → Bool
goes_up code reads = list_any (is_live code.pre.blocks reads) code.pre.rest

-- the verdict of a packet that is finished; none where it goes up
abbrev pub up_verdict : Code → Store → Packet → Option Verdict
up_verdict code tables packet =
    let reads = up_values code tables packet in
    if goes_up code reads then None else Some (leaves code.pre reads packet)

-- ## A packet that comes down, with a number for each value of its layout

abbrev pub crosses : List Crossing → ValueId → Bool
crosses layout v = list_any (λ (c : Crossing). is_value c.value v) layout

-- the numbers of a layout's values as a reading
abbrev pub handed : List Crossing → (Crossing → ℕ) → Reading
handed [] values v = 0
handed (c ∷ cs) values v = if is_value c.value v then values c else handed cs values v

-- the consts and fields that postprocessing is given, from the code and the packet
abbrev pub inputs : Code → Packet → Reading
inputs code packet = after_stage code.post.given 0 nothing [] packet

-- what postprocessing begins with: what was handed down counts before what the code and the packet give
abbrev pub down_given : Code → (Crossing → ℕ) → Packet → Reading
down_given code values packet v =
    if crosses code.down v then handed code.down values v else inputs code packet v

abbrev pub down_values : Code → (Crossing → ℕ) → Store → Packet → Reading
down_values code values tables packet = pass_values code.post (down_given code values packet) tables packet

abbrev pub down_end : Code → (Crossing → ℕ) → Store → Packet → Verdict
down_end code values tables packet = leaves code.post (down_values code values tables packet) packet
