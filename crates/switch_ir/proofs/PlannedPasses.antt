-- The passes of the code of a legally split program can be planned.
use Rattle.std.proofs.Common.{◌≡◌, ◌≢◌, ℕ, zero, suc, ◌<◌, ◌≤◌, ◌*◌, ◌^◌, true, List, [], ◌∷◌, ◌++◌, length, map, Option, Some, None, refl, sym, inl, inr, arith, slice_get}
use Rattle.std.specs.Prelude.{◌==◌, unwrap_or}
use Rattle.std.specs.List.{AllPairs, list_any}
use Rattle.std.specs.Option.{option_map}
use Rattle.std.proofs.lemmas.Bool.{or_cases, eqb-true, true≢false}
use Rattle.std.proofs.lemmas.Bool.Decides.{Decides-eqb}
use Rattle.std.proofs.lemmas.List.{length-append, length-map}
use Rattle.std.proofs.lemmas.List.Elements.{All-map}
use Rattle.std.proofs.lemmas.List.Kept.{AllPairs-cons}
use Rattle.std.proofs.lemmas.Map.Made.{IsDistinct-from_AllPairs}
use Rattle.std.proofs.lemmas.Map.Steps.{length-le_from_distinct_below}
use Rattle.state_store.specs.declared.object.ObjectDecl.{ObjectDecl}
use Rattle.flat_ir.specs.Program.{Program, Work, step_at, result_count}
use Rattle.flat_ir.specs.Program.Work.{look}
use Rattle.split_model.specs.declared.layout.Crossing.{Crossing}
use Rattle.split_model.specs.declared.split.Part.{Part}
use Rattle.split_model.specs.Bounds.{IsBounded, HasFewStages}
use Rattle.split_model.specs.Counts.{stage_or_zero}
use Rattle.split_model.specs.Layouts.{first_results, values_below, values_of, down_layout}
use Rattle.split_model.specs.Legal.{IsLegal}
use Rattle.split_model.proofs.ValueLists.{count_results}
use Rattle.split_model.specs.Split.{pre_stage, post_stage}
use Rattle.switch_ir.specs.declared.code.Table.{Table}
use Rattle.switch_ir.specs.Emitted.{steps_of, given_stage, highest_of, tables_from, pre_code, post_code, emitted}
use Rattle.switch_ir.specs.LastReads.{AreInside, IsInside, HaveFewValues, CanBePlanned}
use Rattle.switch_ir.specs.Passes.{PassCode}
use Rattle.switch_ir.specs.Spans.{Written, written_by, written_in, handed_in, AreNumbered, GoByStages}
use Rattle.switch_ir.proofs.PassesByStages.{handed_inside, what_is_emitted_goes_by_stages}
use Rattle.switch_ir.proofs.Soundness.{rest_there}
use Rattle.switch_ir.proofs.ApartValues.{IsValueOf, values_are}
use Rattle.lemmas.proofs.Lists.{each_append, each_weaker}

-- ---- there are no more values than numbers
numbers_apart : (had : List Written) → AllPairs (λ (a b : Written). a.number ≢ b.number) had → AllPairs (λ x y. x ≢ y) (map (λ (w : Written). w.number) had)
numbers_apart [] apart = λ i j d lt within. absurd (omega (arith, within))
numbers_apart (w ∷ ws) apart =
    AllPairs-cons (λ x y. x ≢ y) w.number (map (λ (x : Written). x.number) ws)
    (All-map (λ y. w.number ≢ y) (λ (x : Written). x.number) ws (λ k d lt. apart 0 (suc k) d (omega arith) (omega (arith, lt))))
    (numbers_apart ws (λ i j d lt within. apart (suc i) (suc j) d (omega (arith, lt)) (omega (arith, within))))

below_any : (had : List Written) (n q : ℕ) → AreNumbered n had → list_any (λ x. q == x) (map (λ (w : Written). w.number) had) ≡ true → q < n
below_any [] n q all e = absurd (true≢false (sym e))
below_any (w ∷ ws) n q all e = elim (or_cases (q == w.number) (list_any (λ x. q == x) (map (λ (x : Written). x.number) ws)) e) [
  | inl here ↦ omega (arith, all.0, eqb-true q w.number here)
  | inr later ↦ below_any ws n q all.1 later
]

no_more : (had : List Written) (n : ℕ) → AllPairs (λ (a b : Written). a.number ≢ b.number) had → AreNumbered n had → length had ≤ n
no_more had n apart all =
    let numbers = map (λ (w : Written). w.number) had in
    omega (
      arith,
      length-map had (λ (w : Written). w.number),
      length-le_from_distinct_below numbers n (IsDistinct-from_AllPairs Decides-eqb numbers (numbers_apart had apart)) (λ q. below_any had n q all),
    )

-- ---- nine results at most
few_results : (f : Program) → HaveFewValues f.objects → (work : Work) → result_count f.objects work ≤ 9
few_results f few (look object keys) = by_case f.objects object few
  where
    by_case : (ds : List ObjectDecl) (o : ℕ) → HaveFewValues ds → length (1 ∷ unwrap_or (option_map (λ (d : ObjectDecl). d.values) (slice_get ds o)) []) ≤ 9
    by_case [] zero few = omega arith
    by_case [] (suc o) few = omega arith
    by_case (d ∷ ds) zero few = let one : length d.values ≤ 8 = few 0 d (omega arith) in omega (arith, one)
    by_case (d ∷ ds) (suc o) few = by_case ds o (λ k x lt. few (suc k) x (omega (arith, lt)))
few_results f few work = omega arith

few_values : (f : Program) → HaveFewValues f.objects → (n : ℕ) → length (values_below f n) ≤ 9 * n
few_values f few zero = omega arith
few_values f few (suc n) =
    let count = result_count f.objects (step_at f n).work in
    omega (arith, few_values f few n, few_results f few (step_at f n).work, length-append (values_below f n) (first_results n count), count_results n count)

-- ---- few stages
pub low_highest : (stage : ℕ → Option ℕ) (most : ℕ) → ((i t : ℕ) → stage i ≡ Some t → t ≤ most) → (n : ℕ) → highest_of stage n ≤ most
low_highest stage most low zero = omega arith
low_highest stage most low (suc n) = omega (arith, low_highest stage most low n, one (stage n) refl)
  where
    one : (o : Option ℕ) → stage n ≡ o → stage_or_zero o ≤ most
    one None e = omega arith
    one (Some t) e = low n t e

-- ---- both passes
module _ (f : Program) (split : List Part) (bounded : IsBounded f) (legal : IsLegal f split) (stages : HasFewStages split) (values : HaveFewValues f.objects) where
  abbrev tables : List Table
  tables = tables_from f split 0 f.objects

  go : GoByStages (emitted f split 0)
  go = what_is_emitted_goes_by_stages f split 0 bounded legal

  few : length (values_of f) < 2 ^ 32
  few = omega (arith, few_values f values (length f.code), bounded.few)

  inside_of : (stage : ℕ → Option ℕ) (w : Written) → IsValueOf f split stage w → IsInside (length f.code) w
  inside_of stage w is = (is.1, omega (arith, is.2, few_results f values (step_at f w.value.instruction).work))

  inside_by : (stage : ℕ → Option ℕ) → AreInside (length f.code) (written_by tables (steps_of f stage))
  inside_by stage =
      each_weaker (IsValueOf f split stage) (IsInside (length f.code)) (inside_of stage) (written_by tables (steps_of f stage)) (values_are f split stage (length f.code) (omega arith))

  pub pre_planned : (known : List Table) (handed : List Crossing) (pass : PassCode) (n : ℕ) → known ≡ tables → handed ≡ [] → pass ≡ pre_code f split → n ≡ length f.code
      → CanBePlanned known handed pass n
  pre_planned known handed pass n same_tables same_handed same_pass same_n =
      let had = written_in tables [] (pre_code f split) in
      let can : CanBePlanned tables [] (pre_code f split) (length f.code) = record {
        stages = go.pre;
        inside = inside_by (pre_stage split);
        numbers = each_weaker (λ (w : Written). w.number < length (values_of f)) (λ w. w.number < 2 ^ 32) (λ w lt. omega (arith, lt, few)) had go.pre_numbers;
        few = omega (arith, no_more had (length (values_of f)) go.pre.apart go.pre_numbers, few);
        parents = bounded.formed.parents;
        rest = rest_there f split bounded.formed (length f.code) (omega arith);
        instructions = omega (arith, bounded.few);
        highest = omega (arith, low_highest (pre_stage split) 4096 stages.pre (length f.code));
      } in
      rw (same_tables, same_handed, same_pass, same_n) can

  pub post_planned : (known : List Table) (handed : List Crossing) (pass : PassCode) (n : ℕ) → known ≡ tables → handed ≡ down_layout f split → pass ≡ post_code f split
      → n ≡ length f.code → CanBePlanned known handed pass n
  post_planned known handed pass n same_tables same_handed same_pass same_n =
      let had = written_in tables (down_layout f split) (post_code f split) in
      let given = written_by tables (steps_of f (given_stage f split)) in
      let steps = written_by tables (steps_of f (post_stage split)) in
      let can : CanBePlanned tables (down_layout f split) (post_code f split) (length f.code) = record {
        stages = go.post;
        inside = each_append (IsInside (length f.code)) (handed_in (down_layout f split)) (given ++ steps)
            (handed_inside f split (few_results f values))
            (each_append (IsInside (length f.code)) given steps (inside_by (given_stage f split)) (inside_by (post_stage split)));
        numbers = each_weaker (λ (w : Written). w.number < length (values_of f)) (λ w. w.number < 2 ^ 32) (λ w lt. omega (arith, lt, few)) had go.post_numbers;
        few = omega (arith, no_more had (length (values_of f)) go.post.apart go.post_numbers, few);
        parents = bounded.formed.parents;
        rest = tt;
        instructions = omega (arith, bounded.few);
        highest = omega (arith, low_highest (post_stage split) 4096 stages.post (length f.code));
      } in
      rw (same_tables, same_handed, same_pass, same_n) can
