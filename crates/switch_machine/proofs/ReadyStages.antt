-- The instructions of a pass by place, stage by stage.
use Rattle.std.proofs.Common.{◌≡◌, ◌∙◌, ◌<◌, ◌≤◌, ◌+◌, inl, inr, ℕ, zero, suc, false, List, [], ◌∷◌, length, map, get_or, refl, sym, ap, subst, arith}
use Rattle.std.proofs.Math.ListN.{get_or-map}
use Rattle.std.proofs.lemmas.Bool.{cases_lt}
use Rattle.std.proofs.lemmas.List.{get_or_past, length-map, map-append}
use Rattle.std.proofs.lemmas.List.FromFn.{get_or-map-range_with_len, length-map-range_with_len}
use Rattle.std.specs.List.{AllByRecursion as Each}
use Rattle.std.specs.Prelude.{slice_index}
use Rattle.packet_fields.specs.declared.packet.Packet.{Packet}
use Rattle.state_store.specs.Store.{Store}
use Rattle.flat_ir.specs.Blocks.{Reading}
use Rattle.flat_ir.specs.Plan.{RegisterPlan}
use Rattle.switch_ir.specs.declared.code.PassStep.{PassStep}
use Rattle.switch_ir.specs.Code.{Step, pass_step_of}
use Rattle.switch_ir.specs.Sound.{CanStep}
use Rattle.switch_machine.specs.declared.numbering.ValueRange.{ValueRange}
use Rattle.switch_machine.specs.declared.ready.ReadyStep.{ReadyStep}
use Rattle.switch_machine.specs.Numbers.{first_gives, gives, range_at, stage_gives}
use Rattle.switch_machine.specs.Ready.{by_place, first_placed, place_in, place_name, placed_gives, places_in, ready_at, ready_gives, ready_of, resolved, AreReady, CanAll, CanReady}
use Rattle.switch_machine.specs.Staged.{of_stage, AreStages}
use Rattle.switch_machine.proofs.Members.{each_has}
use Rattle.switch_machine.proofs.Numbered.{each_of_stage}
use Rattle.flat_ir.specs.Renamed.{renamed_can, renamed_results}

module _ (plan : RegisterPlan) where
  -- ## Places of results

  first_is : (range : ValueRange) (given places : List ℕ) (n : ℕ) → ((k : ℕ) → k < n → slice_index places k ≡ place_in plan (range.first + k))
      → first_placed places given n ≡ by_place plan (first_gives range given n)
  first_is range given places zero at = refl
  first_is range given places (suc n) at =
      rw (first_is range given places n (λ k lt. at k (omega (arith, lt))), at n (omega arith), map-append)

  gives_is : (range : ValueRange) (given : List ℕ) → placed_gives (places_in plan range) given ≡ by_place plan (gives range given)
  gives_is range given =
      ap (first_placed (places_in plan range) given) (length-map-range_with_len (place_in plan) range.first range.count)
      ∙ first_is range given (places_in plan range) range.count
      (λ k lt. get_or-map-range_with_len (place_in plan) range.first range.count k (range.first + k) 0 lt refl)

-- ## Instructions

module _ (ranges : List ValueRange) (plan : RegisterPlan) where
  resolved_gives : (steps : List Step) (reads : Reading) (tables : Store) (packet : Packet)
      → ready_gives (map (resolved ranges plan) steps) reads tables packet
      ≡ by_place plan (stage_gives ranges steps (λ v. reads (place_name ranges plan v)) tables packet)
  resolved_gives [] reads tables packet = refl
  resolved_gives (s ∷ ss) reads tables packet =
      rw (
        renamed_results (place_name ranges plan) reads false tables packet s.work,
        gives_is plan (range_at ranges s.instruction),
        resolved_gives ss reads tables packet,
        map-append,
      )

  resolved_can : (steps : List Step) → Each CanStep steps → Each CanReady (map (resolved ranges plan) steps)
  resolved_can [] can = tt
  resolved_can (s ∷ ss) can = (renamed_can (place_name ranges plan) s.work can.0, resolved_can ss can.1)

  -- stages of a pass by place
  pub are_ready : (steps : List Step) (highest : ℕ) (lists : List (List PassStep)) (stages : List (List ReadyStep)) → AreStages steps highest lists
      → map (map ready_of) stages ≡ map (λ (own : List PassStep). map (resolved ranges plan) (map pass_step_of own)) lists
      → AreReady ranges plan steps highest stages
  are_ready steps highest lists stages are same =
      let by_list : List PassStep → _ = λ own. map (resolved ranges plan) (map pass_step_of own) in
      let at : (t : ℕ) → t ≤ highest → ready_at stages t ≡ map (resolved ranges plan) (of_stage t steps) =
      λ t le. sym (get_or-map (map ready_of) stages t []) ∙ ap (λ xs. get_or xs t []) same ∙ get_or-map by_list lists t []
      ∙ ap (map (resolved ranges plan)) (are.each t le) in
      record {
        count = sym (length-map stages (map ready_of)) ∙ ap length same ∙ length-map lists by_list ∙ are.count;
        can = λ can t le.
            subst (Each CanReady) (sym (at t le))
            (resolved_can (of_stage t steps) (each_of_stage CanStep t steps (λ s h is. each_has CanStep steps can s h)));
        gives = λ t le reads tables packet. ap (λ rs. ready_gives rs reads tables packet) (at t le) ∙ resolved_gives (of_stage t steps) reads tables packet;
      }

  -- each of them can be computed: past the last one there is nothing to compute
  pub can_all : (steps : List Step) (highest : ℕ) (stages : List (List ReadyStep)) → AreReady ranges plan steps highest stages → Each CanStep steps
      → CanAll stages
  can_all steps highest stages ready can t = elim (cases_lt t (length stages)) [
    | inl below ↦ ready.can can t (omega (arith, ready.count))
    | inr past ↦ rw (get_or_past stages t [] past) tt
  ]
