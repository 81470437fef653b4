-- The server keeps to the declared widths.
use Rattle.std.proofs.Common.{◌≡◌, ◌<◌, ◌≤◌, ◌^◌, ℕ, zero, suc, Bool, true, false, List, [], ◌∷◌, length, slice_index, Option, Some, None, refl, sym, ap, ◌∙◌, subst, ⊎_elim, if◌then◌else◌}
use Rattle.std.proofs.lemmas.Bool.{cond-true, cases_lt, false≢true}
use Rattle.std.proofs.lemmas.Nat.{pow_pos}
use Rattle.std.proofs.lemmas.Option.{none-some}
use Rattle.packet_fields.specs.declared.packet.Packet.{Packet}
use Rattle.state_store.specs.Kept.{IsKept}
use Rattle.state_store.specs.Store.{Store}
use Rattle.flat_ir.specs.declared.program.ValueId.{ValueId}
use Rattle.flat_ir.specs.Blocks.{Reading, nothing}
use Rattle.flat_ir.specs.Kinds.{is_input}
use Rattle.flat_ir.specs.Program.Work.{const}
use Rattle.flat_ir.specs.Arrivals.{IsArrival}
use Rattle.flat_ir.specs.Laws.{AllFit, KeepsWidths}
use Rattle.flat_ir.specs.WellFormed.{IsWellFormed}
use Rattle.flat_ir.proofs.Laws.{a_turn_keeps_widths}
use Rattle.flat_ir.specs.Program.{Program, Step, step_at, width_of_value}
use Rattle.flat_ir.specs.Run.{results}
use Rattle.split_model.specs.Crossing.{crosses_up, crosses_down, is_at_hand}
use Rattle.split_model.specs.declared.split.Part.{Part}
use Rattle.split_model.specs.Laws.{FitAcross, IsServedAlike, IsServedWithin}
use Rattle.split_model.specs.Passes.{IsHanded, is_stage, done_below, value_from, pass, given_down, server_run}
use Rattle.split_model.specs.declared.split.Slow.TheVariants.{Server}
use Rattle.split_model.specs.Split.{pre_stage, post_stage, stage_after}
use Rattle.split_model.proofs.Crossings.{input_from}
use Rattle.split_model.proofs.Sights.{input_same}
use Rattle.flat_ir.proofs.Runs.{set_own}
use Rattle.std.proofs.lemmas.List.{get_or_past}

-- the numbers of the values that cross, and 0 for all others
abbrev pub crossing_alone : Program → List Part → Reading → Reading
crossing_alone f split up v = if crosses_up f split v then up v else 0

pub alone_fits : (f : Program) (split : List Part) (up : Reading) → FitAcross f (crosses_up f split) up → AllFit f (crossing_alone f split up)
alone_fits f split up fit v = by_test (crosses_up f split v) refl
  where
    by_test : (b : Bool) → crosses_up f split v ≡ b → (if b then up v else 0) < 2 ^ width_of_value f v
    by_test true e = fit v e
    by_test false e = pow_pos (width_of_value f v)

pub alone_handed : (f : Program) (split : List Part) (up : Reading) → IsHanded (crosses_up f split) (crossing_alone f split up) up
alone_handed f split up v e = sym (cond-true (crosses_up f split v) (up v) 0 e)

pub served_within : (f : Program) (split : List Part) (st : Store) (packet : Packet) (up other : Reading) → IsServedAlike f split st packet other up → KeepsWidths f (server_run f split other st packet) → IsServedWithin f split st packet up
served_within f split st packet up other alike fit = record {
  kept = subst (IsKept f.objects) (sym alike.store) fit.kept;
  down = λ v e. subst (λ n. n < 2 ^ width_of_value f v) (sym (alike.down v e)) (fit.fits v);
  written = λ v e. subst (λ n. n < 2 ^ width_of_value f v) (sym (alike.written v e)) (fit.fits v);
}

-- ## Passes

module _ (f : Program) (packet : Packet) (tables : Store) (well : IsWellFormed f) (arrives : IsArrival packet) (kept : IsKept f.objects tables) where
  -- an instruction's results of numbers that fit
  made_fits : (r : Reading) → AllFit f r → (v : ValueId) → v.instruction < length f.code → slice_index (results r false tables packet (step_at f v.instruction).work) v.result < 2 ^ width_of_value f v
  made_fits r fit v lt =
      let rs = results r false tables packet (step_at f v.instruction).work in
      subst (λ n. n < 2 ^ width_of_value f v) (set_own v.instruction rs r v refl)
      ((a_turn_keeps_widths f packet false v.instruction (record { reads = r; store = tables; changes = [] }) well arrives lt (record { kept = kept; fits = fit })).fits v)

  module _ (stage : ℕ → Option ℕ) (given : Reading) (fit : AllFit f given) (within : (i own : ℕ) → stage i ≡ Some own → i < length f.code) where
    abbrev done : ℕ → Reading
    done = done_below f stage given tables packet

    staged_within : (t : ℕ) (v : ValueId) (o : Option ℕ) → stage v.instruction ≡ o → is_stage o t ≡ true → v.instruction < length f.code
    staged_within t v None e is = absurd (false≢true is)
    staged_within t v (Some own) e is = within v.instruction own e

    one_more : (t : ℕ) → AllFit f (done t) → (v : ValueId) (b : Bool) → is_stage (stage v.instruction) t ≡ b → (if b then slice_index (results (done t) false tables packet (step_at f v.instruction).work) v.result else done t v) < 2 ^ width_of_value f v
    one_more t so v true e = made_fits (done t) so v (staged_within t v (stage v.instruction) refl e)
    one_more t so v false e = so v

    pub done_fits : (t : ℕ) → AllFit f (done t)
    done_fits zero v = fit v
    done_fits (suc t) v = one_more t (done_fits t) v (is_stage (stage v.instruction) t) refl

    value_fits : (v : ValueId) (o : Option ℕ) → stage v.instruction ≡ o → value_from o f stage given tables packet v < 2 ^ width_of_value f v
    value_fits v None e = fit v
    value_fits v (Some own) e = made_fits (done own) (done_fits own) v (within v.instruction own e)

    pub pass_fits : AllFit f (pass f stage given tables packet)
    pass_fits v = value_fits v (stage v.instruction) refl

  -- what postprocessing has at hand
  past_the_end : (v : ValueId) → length f.code ≤ v.instruction → slice_index (results nothing false [] packet (step_at f v.instruction).work) v.result ≡ 0
  past_the_end v le =
      ap (λ (s : Step). slice_index (results nothing false [] packet s.work) v.result) (get_or_past f.code v.instruction (record { block = 0; looped = false; work = const 1 0 }) le) ∙ zero_at v.result
    where
      zero_at : (k : ℕ) → slice_index (0 ∷ []) k ≡ 0
      zero_at zero = refl
      zero_at (suc k) = refl

  hand_fits : (v : ValueId) → is_input (step_at f v.instruction).work ≡ true → slice_index (results nothing false [] packet (step_at f v.instruction).work) v.result < 2 ^ width_of_value f v
  hand_fits v input =
      ⊎_elim
      (λ lt. subst (λ rs. slice_index rs v.result < 2 ^ width_of_value f v) (input_same nothing nothing false false tables [] packet (step_at f v.instruction).work input) (made_fits nothing (λ w. pow_pos (width_of_value f w)) v lt))
      (λ le. subst (λ n. n < 2 ^ width_of_value f v) (sym (past_the_end v le)) (pow_pos (width_of_value f v)))
      (cases_lt v.instruction (length f.code))

  pub given_fits : (split : List Part) (down : Reading) → FitAcross f (crosses_down f split) down → AllFit f (given_down f split down packet)
  given_fits split down fit v = by_test (crosses_down f split v) refl (is_at_hand f split (step_at f v.instruction).work) refl
    where
      by_test : (a : Bool) → crosses_down f split v ≡ a → (b : Bool) → is_at_hand f split (step_at f v.instruction).work ≡ b → (if a then down v else (if b then slice_index (results nothing false [] packet (step_at f v.instruction).work) v.result else 0)) < 2 ^ width_of_value f v
      by_test true e b h = fit v e
      by_test false e true h = hand_fits v (input_from f split (step_at f v.instruction).work h)
      by_test false e false h = pow_pos (width_of_value f v)

-- ## Stages of a split

pub pre_within : (f : Program) (split : List Part) → length split ≡ length f.code → (i own : ℕ) → pre_stage split i ≡ Some own → i < length f.code
pre_within f split count i own e =
    ⊎_elim (λ lt. lt) (λ le. absurd (none-some own (sym (ap (λ (p : Part). p.pre) (get_or_past split i (record { pre = None; slow = Server }) (subst (λ n. n ≤ i) (sym count) le))) ∙ e))) (cases_lt i (length f.code))

pub post_within : (f : Program) (split : List Part) → length split ≡ length f.code → (i own : ℕ) → post_stage split i ≡ Some own → i < length f.code
post_within f split count i own e =
    ⊎_elim (λ lt. lt) (λ le. absurd (none-some own (sym (ap (λ (p : Part). stage_after p.slow) (get_or_past split i (record { pre = None; slow = Server }) (subst (λ n. n ≤ i) (sym count) le))) ∙ e))) (cases_lt i (length f.code))
