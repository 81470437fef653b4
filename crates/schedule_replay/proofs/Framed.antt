-- What a replayer tells of the frames on their way, and of commands.
use Rattle.std.proofs.Common.{◌<◌, arith, refl, suc, true, zero, ◌≡◌, ◌≤◌, ◌-◌, ℕ, [], ◌∷◌, List, Some, ap, length, map, sym, ◌∙◌}
use Rattle.std.specs.Prelude.{is_some, nat_lt, option_map, slice_get}
use Rattle.std.proofs.lemmas.Option.{slice_get-map}
use Rattle.output_commit.specs.Batches.{Batch, commands_in, last_of}
use Rattle.schedule_replay.specs.Frames.{IsFrameAt}

-- ## Frames

-- the number of the frame at a place stands there among the numbers
number_there : (items : List (ℕ × List ℕ)) (numbers : List ℕ) (j : ℕ) (item : ℕ × List ℕ) → map (λ (i : ℕ × List ℕ). i.0) items ≡ numbers
    → slice_get items j ≡ Some item → slice_get numbers j ≡ Some item.0
number_there items numbers j item are there =
    ap (λ xs. slice_get xs j) (sym are) ∙ slice_get-map (λ (i : ℕ × List ℕ). i.0) items j
    ∙ ap (option_map (λ (i : ℕ × List ℕ). i.0)) there

-- what is at a place is its packet's frame
pub framed_there : (items : List (ℕ × List ℕ)) (numbers : List ℕ) (frame : ℕ → List ℕ) (j : ℕ) (item : ℕ × List ℕ)
    → map (λ (i : ℕ × List ℕ). i.0) items ≡ numbers → ((k : ℕ) (i : ℕ × List ℕ) → slice_get items k ≡ Some i → i.1 ≡ frame i.0)
    → slice_get items j ≡ Some item → IsFrameAt frame numbers j item.1
framed_there items numbers frame j item are frames there = record {
  number = item.0;
  there = number_there items numbers j item are there;
  is = frames j item there;
}

-- ## Commands

-- there is one exactly where one was sent
some_there : {X : Type 0} (xs : List X) (i : ℕ) → i < length xs → is_some (slice_get xs i) ≡ true
some_there [] i within = grind (arith, within)
some_there (x ∷ xs) zero within = refl
some_there (x ∷ xs) (suc i) within = some_there xs i (omega arith)

pub some_sent : (sent : ℕ) (batches : List Batch) → sent ≤ length (commands_in batches) → is_some (last_of batches sent) ≡ nat_lt 0 sent
some_sent sent batches within =
    let there : 0 < sent → is_some (slice_get (commands_in batches) (sent - 1)) ≡ true =
    λ some. some_there (commands_in batches) (sent - 1) (omega arith) in
    grind (arith, there)
