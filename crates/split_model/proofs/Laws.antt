-- What holds of the parts of every legally split program, as the definitions give it.
use Rattle.std.proofs.Common.{ap, arith, refl, subst, sym, ◌∙◌, ◌^◌}
use Rattle.std.proofs.lemmas.Nat.{pow_pos}
use Rattle.std.specs.Prelude.{List, None, Option, Some, false, length, suc, true, unwrap_or, zero, ℕ, ◌<◌, ◌||◌, ◌≡◌, ◌≤◌}
use Rattle.std.specs.Prelude.{if◌then◌else◌}
use Rattle.flat_ir.proofs.Laws.{a_run_keeps_widths, a_turn_keeps_widths}
use Rattle.flat_ir.specs.Arrivals.{IsArrival}
use Rattle.flat_ir.specs.Blocks.{Reading, is_live, nothing}
use Rattle.flat_ir.specs.Kinds.{is_input}
use Rattle.flat_ir.specs.Laws.{AllFit, KeepsWidths}
use Rattle.flat_ir.specs.Program.{Program, step_at, width_of_value}
use Rattle.flat_ir.specs.Run.{after, do_step, flat_run, flat_verdict}
use Rattle.flat_ir.specs.WellFormed.{HasConstantTables, IsWellFormed}
use Rattle.flat_ir.specs.declared.program.ValueId.{ValueId}
use Rattle.packet_fields.specs.declared.packet.Packet.{Packet}
use Rattle.state_store.specs.Kept.{IsKept}
use Rattle.state_store.specs.Store.{Store}
use Rattle.split_model.proofs.CarriedValues.{carried_stand, kept_has_tables, replicated_show}
use Rattle.split_model.proofs.Crossings.{carried_up}
use Rattle.split_model.proofs.Descents.{comes_down}
use Rattle.split_model.proofs.Exactness.{is_exact}
use Rattle.split_model.proofs.Example.{every_part, legal, parts, program, well}
use Rattle.split_model.proofs.Fitness.{alone_fits, alone_handed, crossing_alone, done_fits, given_fits, pass_fits, post_within, pre_within, served_within}
use Rattle.split_model.proofs.PostAlike.{sent_alike}
use Rattle.split_model.proofs.Rules.{by_stages, ninth}
use Rattle.split_model.proofs.Served.{served_alike}
use Rattle.split_model.proofs.ServerAlike.{claim, server_does, whole_does}
use Rattle.split_model.proofs.PreAlike.{leaves}
use Rattle.split_model.proofs.Stages.{done_by}
use Rattle.split_model.proofs.Tabled.{posted_alike}
use Rattle.split_model.proofs.Wholes.{verdict_same}
use Rattle.split_model.specs.Crossing.{crosses_down, crosses_up, is_written_value}
use Rattle.split_model.specs.Laws.{CarriedStand, FitAcross, GoesByStages, HasDeclaredTables, HasEveryPart, IsExact, IsPostedAlike, IsSentAlike, IsSentDown, IsServedAlike, IsServedWithin, IsShownAlone, IsWhole, ShowsReplicated}
use Rattle.split_model.specs.Legal.{IsLegal}
use Rattle.split_model.specs.Passes.{AgreeOnShown, IsHanded, done_below, given_down, is_fast, pass, post_values, pre_values, served}
use Rattle.split_model.specs.Split.{is_server, post_stage, pre_stage}
use Rattle.split_model.specs.declared.split.Part.{Part}

-- A store that keeps what was declared has the declared constant tables.
pub kept_stores_have_tables : (f : Program) (st : Store) → IsKept f.objects st → HasConstantTables f st
kept_stores_have_tables = kept_has_tables

-- Tables that have the declared constant ones, and the store's replicated objects, show the store.
pub replicated_objects_show : (f : Program) (split : List Part) (st tables : Store)
    → HasConstantTables f st → HasDeclaredTables f split tables → ShowsReplicated f split st tables → AgreeOnShown f split tables st
replicated_objects_show = replicated_show

-- Preprocessing over tables that show a store finishes exactly the packets that are fast over it, with their verdicts.
pub preprocessing_is_exact : (f : Program) (split : List Part) (st tables : Store) (packet : Packet)
    → IsWellFormed f → IsLegal f split → AgreeOnShown f split tables st → IsExact f split st tables packet
preprocessing_is_exact = is_exact

-- Carried values hang on the packet and on the constant tables alone.
pub carried_values_stand : (f : Program) (split : List Part) (st tables : Store) (packet : Packet)
    → IsWellFormed f → IsLegal f split → HasConstantTables f st → HasDeclaredTables f split tables
    → CarriedStand f split st tables packet
carried_values_stand = carried_stand

-- What preprocessing hands up fits the widths of the values, over any tables that have the declared constant ones.
pub what_is_handed_up_fits : (f : Program) (split : List Part) (st tables : Store) (packet : Packet)
    → IsWellFormed f → IsLegal f split → IsArrival packet → IsKept f.objects st → HasDeclaredTables f split tables
    → FitAcross f (crosses_up f split) (pre_values f split tables packet)
what_is_handed_up_fits f split st tables packet well legal arrives kept loaded v crosses =
    subst (λ n. n < 2 ^ width_of_value f v)
    (sym (carried_values_stand f split st tables packet well legal (kept_stores_have_tables f st kept) loaded v (carried_up f split v crosses)))
    ((a_run_keeps_widths f st packet (length f.code) well arrives kept (omega arith)).fits v)

-- The server's run hangs on what is handed up alone: on no number of a value that doesn't cross.
pub a_server_reads_what_crosses : (f : Program) (split : List Part) (st : Store) (packet : Packet) (up other : Reading)
    → IsWellFormed f → IsLegal f split → IsHanded (crosses_up f split) up other
    → IsServedAlike f split st packet up other
a_server_reads_what_crosses = served_alike

-- From numbers that fit the server's store keeps what was declared, and its numbers fit: at every turn where all
-- numbers that it begins with fit, and at the end where those of values that cross do.
pub a_server_keeps_widths-turns : (f : Program) (split : List Part) (st : Store) (packet : Packet) (up : Reading) (n : ℕ)
    → IsWellFormed f → IsArrival packet → IsKept f.objects st → AllFit f up → n ≤ length f.code
    → KeepsWidths f (served f split up st packet n)
a_server_keeps_widths-turns f split st packet up zero well arrives kept fit le = record { kept = kept; fits = fit }
a_server_keeps_widths-turns f split st packet up (suc n) well arrives kept fit le =
    let m = served f split up st packet n in
    let next = do_step (is_live f.blocks m.reads (step_at f n).block) packet n (step_at f n).work m in
    let so = a_server_keeps_widths-turns f split st packet up n well arrives kept fit (omega (arith, le)) in
    elim (is_input (step_at f n).work || is_server split n) as (λ b. KeepsWidths f (if b then next else m)) [
      | true ↦ a_turn_keeps_widths f packet (is_live f.blocks m.reads (step_at f n).block) n m well arrives le so
      | false ↦ so
    ]

pub a_server_keeps_widths-runs : (f : Program) (split : List Part) (st : Store) (packet : Packet) (up : Reading)
    → IsWellFormed f → IsLegal f split → IsArrival packet → IsKept f.objects st
    → FitAcross f (crosses_up f split) up → IsServedWithin f split st packet up
a_server_keeps_widths-runs f split st packet up well legal arrives kept fit =
    let alone = crossing_alone f split up in
    served_within f split st packet up alone (a_server_reads_what_crosses f split st packet alone up well legal (alone_handed f split up))
    (a_server_keeps_widths-turns f split st packet alone (length f.code) well arrives kept (alone_fits f split up fit) (omega arith))

-- From numbers that fit, over tables that keep what was declared, all numbers of a pass fit: at every stage, and at
-- its end.
pub passes_keep_widths-pre_stages : (f : Program) (split : List Part) (tables : Store) (packet : Packet) (t : ℕ)
    → IsWellFormed f → IsLegal f split → IsArrival packet → IsKept f.objects tables
    → AllFit f (done_below f (pre_stage split) nothing tables packet t)
passes_keep_widths-pre_stages f split tables packet t well legal arrives kept =
    done_fits f packet tables well arrives kept (pre_stage split) nothing (λ v. pow_pos (width_of_value f v)) (pre_within f split legal.count) t

pub passes_keep_widths-pre : (f : Program) (split : List Part) (tables : Store) (packet : Packet)
    → IsWellFormed f → IsLegal f split → IsArrival packet → IsKept f.objects tables
    → AllFit f (pre_values f split tables packet)
passes_keep_widths-pre f split tables packet well legal arrives kept =
    pass_fits f packet tables well arrives kept (pre_stage split) nothing (λ v. pow_pos (width_of_value f v)) (pre_within f split legal.count)

pub passes_keep_widths-post_stages : (f : Program) (split : List Part) (down : Reading) (tables : Store) (packet : Packet) (t : ℕ)
    → IsWellFormed f → IsLegal f split → IsArrival packet → IsKept f.objects tables
    → FitAcross f (crosses_down f split) down
    → AllFit f (done_below f (post_stage split) (given_down f split down packet) tables packet t)
passes_keep_widths-post_stages f split down tables packet t well legal arrives kept fit =
    done_fits f packet tables well arrives kept (post_stage split) (given_down f split down packet)
    (given_fits f packet tables well arrives kept split down fit) (post_within f split legal.count) t

pub passes_keep_widths-post : (f : Program) (split : List Part) (down : Reading) (tables : Store) (packet : Packet)
    → IsWellFormed f → IsLegal f split → IsArrival packet → IsKept f.objects tables
    → FitAcross f (crosses_down f split) down → AllFit f (post_values f split down tables packet)
passes_keep_widths-post f split down tables packet well legal arrives kept fit =
    pass_fits f packet tables well arrives kept (post_stage split) (given_down f split down packet)
    (given_fits f packet tables well arrives kept split down fit) (post_within f split legal.count)

-- Both passes of a legal split go by stages: an instruction reads of its own pass only what a lower stage writes.
pub legal_passes_go_by_stages-pre : (f : Program) (split : List Part) → IsLegal f split → GoesByStages f (pre_stage split)
legal_passes_go_by_stages-pre f split legal = by_stages f (pre_stage split) (λ i within. (ninth f split legal i within).0)

pub legal_passes_go_by_stages-post : (f : Program) (split : List Part) → IsLegal f split → GoesByStages f (post_stage split)
legal_passes_go_by_stages-post f split legal = by_stages f (post_stage split) (λ i within. (ninth f split legal i within).1)

-- Once all stages of a pass up to that of a value are done, the value is the pass's: it stays.
pub a_pass_is_done_by_stages : (f : Program) (stage : ℕ → Option ℕ) (given : Reading) (tables : Store) (packet : Packet)
    (t : ℕ) (v : ValueId)
    → ((own : ℕ) → stage v.instruction ≡ Some own → own < t)
    → done_below f stage given tables packet t v ≡ pass f stage given tables packet v
a_pass_is_done_by_stages f stage given tables packet t v low = done_by f stage given tables packet t v (stage v.instruction) refl low

-- Postprocessing hangs on what is handed down alone, and on the server's numbers for the fields that the server sets.
pub postprocessing_reads_what_crosses : (f : Program) (split : List Part) (tables : Store) (packet : Packet)
    (server down other_server other_down : Reading)
    → IsHanded (is_written_value f split) server other_server → IsHanded (crosses_down f split) down other_down
    → IsSentAlike f split tables packet server down other_server other_down
postprocessing_reads_what_crosses = sent_alike

-- Postprocessing reads constant tables alone: over any tables that have the declared ones it computes the same.
pub postprocessing_reads_constant_tables : (f : Program) (split : List Part) (tables other : Store) (packet : Packet) (down : Reading)
    → IsLegal f split → HasDeclaredTables f split tables → HasDeclaredTables f split other
    → IsPostedAlike f split tables other packet down
postprocessing_reads_constant_tables = posted_alike

-- Postprocessing of the packet that comes down, in which the server's fields are set, is that of the packet as it
-- arrived.
pub what_comes_down_serves : (f : Program) (split : List Part) (tables : Store) (packet : Packet) (server down : Reading)
    → IsWellFormed f → IsLegal f split → IsSentDown f split tables packet server down
what_comes_down_serves = comes_down

-- The way up, through the server and down is the whole run from the server's store. What is handed up comes from a
-- pass over any tables that have the declared constant ones, and the numbers of other values play no part.
pub a_split_is_the_whole : (f : Program) (split : List Part) (st tables_up tables : Store) (packet : Packet) (up down : Reading)
    → IsWellFormed f → IsLegal f split → HasConstantTables f st → HasDeclaredTables f split tables_up → HasDeclaredTables f split tables
    → IsHanded (crosses_up f split) (pre_values f split tables_up packet) up
    → IsWhole f split st tables packet up down
a_split_is_the_whole f split st tables_up tables packet up down well legal has loaded_up loaded handed =
    let F = (flat_run f st packet).reads in
    let carried : (v : ValueId) → crosses_up f split v ≡ true → up v ≡ F v =
    λ v e. handed v e ∙ carried_values_stand f split st tables_up packet well legal has loaded_up v (carried_up f split v e)
    in
    let all = claim f split well legal packet st up F (served f split up st packet) (after f st packet) (server_does f split packet st up)
    (whole_does f split legal packet st) carried (length f.code) (omega arith) in
    record {
      store = all.1;
      changes = all.2;
      verdict = verdict_same f split st tables packet up down well legal has loaded carried;
    }

-- Preprocessing hangs on what it reads of the store alone.
pub what_preprocessing_reads_is_all : (f : Program) (split : List Part) (st : Store) (packet : Packet)
    → IsWellFormed f → IsLegal f split → IsShownAlone f split st packet
what_preprocessing_reads_is_all f split st packet well legal =
    let exact : (at tables : Store) → AgreeOnShown f split tables at → IsExact f split at tables packet =
    λ at tables. preprocessing_is_exact f split at tables packet well legal
    in
    let same : (other : Store) → AgreeOnShown f split other st → is_fast f split other packet ≡ is_fast f split st packet =
    λ other shows. sym (exact other other (λ o e. refl)).finishes ∙ (exact st other shows).finishes
    in
    record {
      fast = same;
      verdict = λ other shows fast.
          ap (λ o. unwrap_or o (flat_verdict f other packet))
          (sym (ap (λ b. if b then Some (flat_verdict f other packet) else None) (same other shows ∙ fast))
          ∙ sym (exact other other (λ o e. refl)).verdict
          ∙ (exact st other shows).verdict
          ∙ ap (λ b. if b then Some (flat_verdict f st packet) else None) fast);
      leaves = leaves f split st packet well;
    }

-- There is a well-formed program with a legal split in which every part has work: what these laws ask for can be met.
pub some_legal_split_has_every_part : (f : Program) × (split : List Part) × IsWellFormed f × IsLegal f split × HasEveryPart f split
some_legal_split_has_every_part = (program, parts, well, legal, every_part)
