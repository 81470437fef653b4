-- A legally split program runs packets as the state of a replay asks for.
use Rattle.std.proofs.Common.{◌≡◌, ◌≤◌, ◌<◌, ◌^◌, ℕ, true, List, [], length, refl, arith}
use Rattle.std.proofs.lemmas.Bool.{cond-true}
use Rattle.packet_fields.specs.declared.packet.Packet.{Packet}
use Rattle.state_store.specs.Kept.{IsKept}
use Rattle.state_store.specs.Store.{Store, object_at, start_store}
use Rattle.flat_ir.specs.Arrivals.{IsArrival}
use Rattle.flat_ir.specs.Program.{Program, step_at}
use Rattle.flat_ir.specs.Run.{after, flat_changes, flat_store}
use Rattle.flat_ir.specs.WellFormed.{HasConstantTables, IsWellFormed}
use Rattle.split_model.specs.declared.split.Part.{Part}
use Rattle.split_model.specs.Counts.{count_steps, writes}
use Rattle.split_model.specs.Laws.{HasDeclaredTables}
use Rattle.split_model.specs.declared.layout.Crossing.{Crossing}
use Rattle.split_model.specs.Layouts.{down_layout, up_layout}
use Rattle.transfer_header.specs.Frames.{frame_of}
use Rattle.transfer_header.specs.Told.{number_in, packet_in, port_in}
use Rattle.transfer_header.specs.Values.{low_bits, value_by}
use Rattle.split_model.specs.Passes.{sent_down, AgreeOnShown}
use Rattle.split_model.specs.Shown.{is_replicated, writes_to}
use Rattle.server_runtime.specs.Serving.{frame_run, packet_frame, served_frame, updates_of, IsWholeRun}
use Rattle.replay_state.specs.Program.{IsSplitRun}
use Rattle.replay_state.specs.SoundAnswers.{IsAlike}
use Rattle.replay_state.specs.Tied.{IsFramed}
use Rattle.split_answers.specs.Whole.{whole_of, IsSplit}
use Rattle.split_answers.proofs.Follows.{Follows}
use Rattle.switch_ir.proofs.Declared.{replicated_parts, shown_there}
use Rattle.split_answers.proofs.Runs.{run_follows}
use Rattle.flat_ir.proofs.Laws.{a_run_keeps_widths}
use Rattle.split_model.proofs.Laws.{kept_stores_have_tables, preprocessing_is_exact, replicated_objects_show, what_preprocessing_reads_is_all}
use Rattle.transfer_header.proofs.Laws.{frames_are_told_by_place-parts, frames_of_low_bits-frame}

-- an object that the switch keeps is declared
pub kept_there : (f : Program) (split : List Part) (o : ℕ) → IsWellFormed f → is_replicated f split o ≡ true → o < length f.objects
kept_there f split o well shown = shown_there f split o well (replicated_parts f split o shown).1

pub loaded : (f : Program) (split : List Part) (tables : Store) → HasConstantTables f tables → HasDeclaredTables f split tables
loaded f split tables has = record { rows = λ o d is table looked. has.tables o d is table }

module _ (f : Program) (split : List Part) (writeback : ℕ) (is : IsSplit f split writeback)
    (packet : Packet) (arrives : IsArrival packet) (store : Store) (kept : IsKept f.objects store) where
  kept_then : (n : ℕ) → n ≤ length f.code → IsKept f.objects (after f store packet n).store
  kept_then n le = (a_run_keeps_widths f store packet n is.bounded.formed arrives kept le).kept

  within : (o : ℕ) → is_replicated f split o ≡ true → (n : ℕ) → n ≤ length f.code → o < length (after f store packet n).store
  within o shown n le = omega (arith, (kept_then n le).count, kept_there f split o is.bounded.formed shown)

  alike : (other : Store) → IsKept f.objects other → IsAlike (whole_of f split writeback).replicated other store
      → AgreeOnShown f split other store
  alike other keeps same =
      replicated_objects_show f split store other (kept_stores_have_tables f store kept) (loaded f split other (kept_stores_have_tables f other keeps)) same

  follows : (o : ℕ) → is_replicated f split o ≡ true
      → Follows o (object_at store o) (object_at (flat_store f store packet) o)
      (updates_of f split (flat_changes f store packet)) (count_steps f (λ i. writes_to o (step_at f i).work))
  follows o shown = run_follows f split store packet o shown (within o shown) (length f.code) (omega arith)

  pub is_split_run : IsSplitRun (whole_of f split writeback) store packet
  is_split_run = record {
    kept = kept_then (length f.code) (omega arith);
    stays = (preprocessing_is_exact f split store store packet is.bounded.formed is.legal (λ o shown. refl)).store;
    fast = λ other keeps same.
        (what_preprocessing_reads_is_all f split store packet is.bounded.formed is.legal).fast other (alike other keeps same);
    verdict = λ other keeps same.
        (what_preprocessing_reads_is_all f split store packet is.bounded.formed is.legal).verdict other (alike other keeps same);
    changed = λ o shown. (follows o shown).changed;
    taken = λ o shown. (follows o shown).taken;
    few = λ o shown.
        let all : writes f split o ≡ count_steps f (λ i. writes_to o (step_at f i).work) =
        cond-true (is_replicated f split o) (count_steps f (λ i. writes_to o (step_at f i).work)) 0 shown in
        omega (arith, all, (follows o shown).few, is.few o);
  }

pub is_framed : (f : Program) (split : List Part) (writeback number : ℕ) (store : Store) (packet : Packet)
    → IsWholeRun f split store (start_store f.objects) number packet (packet_frame f split (start_store f.objects) number packet)
    → IsFramed (whole_of f split writeback) store number packet
is_framed f split writeback number store packet whole = record {
  numbered = whole.numbered;
  after = whole.store;
  changes = whole.updates;
  verdict = whole.verdict;
}

-- the number of a frame stands in front of all that may be too large
number_told : (layout : List Crossing) (number port : ℕ) (values : Crossing → ℕ) (packet : List ℕ) → number < 2 ^ 32
    → number_in (frame_of 2 layout number port values packet) ≡ number
number_told layout number port values packet low =
    let is = frames_of_low_bits-frame 2 layout number 0 values [] low (omega arith) (omega arith) in
    (frames_are_told_by_place-parts 2 layout number 0 (low_bits values) [] (frame_of 2 layout number 0 values []) is).numbered

pub number_down : (f : Program) (split : List Part) (store : Store) (frame : List ℕ) → number_in frame < 2 ^ 32
    → number_in (served_frame f split store frame) ≡ number_in frame
number_down f split store frame low =
    let reads = (frame_run f split store frame).reads in
    number_told (down_layout f split) (number_in frame) (port_in frame) (value_by reads)
    (sent_down f split reads (packet_in (up_layout f split) frame)).bytes low
