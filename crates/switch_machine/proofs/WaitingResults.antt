-- Results that wait until their stage is computed, and results that go into their registers at once.
use Rattle.std.proofs.Common.{◌≡◌, ◌∙◌, ◌<◌, ◌≤◌, ◌+◌, ◌++◌, ◌==◌, ℕ, zero, suc, false, List, [], ◌∷◌, length, map, take, drop, refl, sym, ap, subst, add-one, arith, get_or}
use Rattle.std.specs.Prelude.{slice_index}
use Rattle.std.proofs.lemmas.Bool.{eq-eqb, true≢false, or_parts}
use Rattle.std.proofs.lemmas.List.{get_or-set_other, length-append, length-map, map-append, take_all, take_more}
use Rattle.std.proofs.lemmas.List.Folds.{list_any-append}
use Rattle.packet_fields.specs.declared.packet.Packet.{Packet}
use Rattle.state_store.specs.Store.{Store}
use Rattle.flat_ir.specs.declared.program.ValueId.{ValueId}
use Rattle.flat_ir.specs.Blocks.{Reading}
use Rattle.flat_ir.specs.Laws.{Same}
use Rattle.flat_ir.specs.Program.{operands, work_of}
use Rattle.flat_ir.specs.Run.{results}
use Rattle.transfer_header.specs.Registers.{placed, Registers}
use Rattle.transfer_header.specs.Steps.{is_among}
use Rattle.switch_machine.specs.declared.ready.ReadyStep.{ReadyStep}
use Rattle.switch_machine.specs.Ready.{all_placed, first_placed, only_numbers, paired, placed_gives, places_of, reads_at, ready_gives, ready_of, targets_of, IsDirect, Ready}
use Rattle.transfer_header.proofs.PlacedNumbers.{placed_behind}
use Rattle.flat_ir.proofs.Laws.{readings_that_agree-operands, readings_that_agree-results}
use Rattle.lemmas.proofs.Lists.{each_weaker, folded_item}

-- ## Results that wait

paired_again : (ps : List (ℕ × ℕ)) → paired (map (λ (p : ℕ × ℕ). p.0) ps) (only_numbers ps) ≡ ps
paired_again [] = refl
paired_again (p ∷ ps) = ap (λ (rest : List (ℕ × ℕ)). p ∷ rest) (paired_again ps)

places_first : (places given : List ℕ) (k : ℕ) → k ≤ length places → map (λ (p : ℕ × ℕ). p.0) (first_placed places given k) ≡ take k places
places_first places given zero le = refl
places_first places given (suc k) le =
    map-append (λ (p : ℕ × ℕ). p.0) (first_placed places given k) ((slice_index places k, slice_index given k) ∷ [])
    ∙ ap (λ (ps : List ℕ). ps ++ slice_index places k ∷ []) (places_first places given k (omega (arith, le)))
    ∙ sym (take_more places k 0 (omega (arith, le))) ∙ ap (λ n. take n places) (add-one k)

places_are : (places given : List ℕ) → map (λ (p : ℕ × ℕ). p.0) (placed_gives places given) ≡ places
places_are places given = places_first places given (length places) (omega arith) ∙ take_all (length places) places (omega arith)

-- what instructions give has their places
targets_are : (rs : List Ready) (reads : Reading) (tables : Store) (packet : Packet)
    → map (λ (p : ℕ × ℕ). p.0) (ready_gives rs reads tables packet) ≡ targets_of rs
targets_are [] reads tables packet = refl
targets_are (r ∷ rs) reads tables packet =
    let given = results reads false tables packet r.work in
    let rest = ready_gives rs reads tables packet in
    map-append (λ (p : ℕ × ℕ). p.0) (placed_gives r.places given) rest
    ∙ ap (λ (ps : List ℕ). ps ++ map (λ (p : ℕ × ℕ). p.0) rest) (places_are r.places given)
    ∙ ap (λ (ps : List ℕ). r.places ++ ps) (targets_are rs reads tables packet)

-- as many numbers wait as there are places
pub numbers_count : (rs : List Ready) (reads : Reading) (tables : Store) (packet : Packet)
    → length (only_numbers (ready_gives rs reads tables packet)) ≡ length (targets_of rs)
numbers_count rs reads tables packet =
    let gives = ready_gives rs reads tables packet in
    length-map gives (λ (p : ℕ × ℕ). p.1) ∙ sym (length-map gives (λ (p : ℕ × ℕ). p.0)) ∙ ap length (targets_are rs reads tables packet)

-- they go into their registers
pub waiting_are : (rs : List Ready) (reads : Reading) (tables : Store) (packet : Packet) (places numbers : List ℕ) → places ≡ targets_of rs
    → numbers ≡ only_numbers (ready_gives rs reads tables packet) → paired places numbers ≡ ready_gives rs reads tables packet
waiting_are rs reads tables packet places numbers at is =
    ap (λ (ps : List ℕ). paired ps numbers) (at ∙ sym (targets_are rs reads tables packet))
    ∙ ap (paired (map (λ (p : ℕ × ℕ). p.0) (ready_gives rs reads tables packet))) is
    ∙ paired_again (ready_gives rs reads tables packet)

-- there is room for those of the next
pub room_more : (steps : List ReadyStep) (i : ℕ) (s : ReadyStep) → i < length steps → s ≡ get_or steps i s
    → length (targets_of (map ready_of (drop i steps))) ≡ length (places_of s.places) + length (targets_of (map ready_of (drop (i + 1) steps)))
room_more steps i s lt is =
    folded_item (λ ss. length (targets_of (map ready_of ss))) steps i s lt is
    ∙ length-append (places_of s.places) (targets_of (map ready_of (drop (i + 1) steps)))

-- ## Results that go into their registers at once

-- what is written elsewhere stays
other_stays : (registers : Registers) (pairs : List (ℕ × ℕ)) (place : ℕ) → is_among place (map (λ (p : ℕ × ℕ). p.0) pairs) ≡ false
    → slice_index (all_placed registers pairs).numbers place ≡ slice_index registers.numbers place
other_stays registers [] place none = refl
other_stays registers (p ∷ ps) place none =
    let parts = or_parts (p.0 == place) (is_among place (map (λ (q : ℕ × ℕ). q.0) ps)) none in
    other_stays (placed registers p.0 p.1) ps place parts.1
    ∙ get_or-set_other registers.numbers p.0 place p.1 0 (λ same. true≢false (sym (eq-eqb p.0 place (sym same)) ∙ parts.0))

module _ (tables : Store) (packet : Packet) where
  -- the registers while a stage writes them at once: what none of its instructions wrote so far is as it was
  pub record StandsDirectly (rest : List Ready) (start now total : Registers) : Type 0 where
    pub written : List ℕ
    pub direct : IsDirect written rest
    pub others : (place : ℕ) → is_among place written ≡ false → slice_index now.numbers place ≡ slice_index start.numbers place
    pub gives : all_placed now (ready_gives rest (reads_at start.numbers) tables packet) ≡ total

  pub direct_more : (steps : List ReadyStep) (i : ℕ) (s : ReadyStep) (start before after total : Registers) → i < length steps → s ≡ get_or steps i s
      → StandsDirectly (map ready_of (drop i steps)) start before total
      → after ≡ all_placed before (placed_gives (places_of s.places) (results (reads_at before.numbers) false tables packet (work_of s.kind)))
      → StandsDirectly (map ready_of (drop (i + 1) steps)) start after total
  direct_more steps i s start before after total lt is at more =
      let later = map ready_of (drop (i + 1) steps) in
      let ahead_is = folded_item (map ready_of) steps i s lt is in
      let direct = subst (IsDirect at.written) ahead_is at.direct in
      let places = places_of s.places in
      let own = results (reads_at before.numbers) false tables packet (work_of s.kind) in
      let same = readings_that_agree-results (reads_at before.numbers) (reads_at start.numbers) false tables packet (work_of s.kind)
      (readings_that_agree-operands (reads_at before.numbers) (reads_at start.numbers) (work_of s.kind)
      (each_weaker (λ (v : ValueId). is_among v.instruction at.written ≡ false) (Same (reads_at before.numbers) (reads_at start.numbers))
      (λ v apart. at.others v.instruction apart) (operands (work_of s.kind)) direct.0)) in
      record {
        written = at.written ++ places;
        direct = direct.1;
        others = λ place none.
            let parts = or_parts (is_among place at.written) (is_among place places) (sym (list_any-append (λ v. v == place) at.written places) ∙ none) in
            ap (λ (rs : Registers). slice_index rs.numbers place) more
            ∙ other_stays before (placed_gives places own) place (ap (is_among place) (places_are places own) ∙ parts.1)
            ∙ at.others place parts.0;
        gives = rw (more, same, ← placed_behind) (rw ahead_is at at.gives);
      }
