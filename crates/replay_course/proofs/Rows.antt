-- The rows that lookups on the switch see, object by object.
use Rattle.std.proofs.Common.{◌≡◌, ◌<◌, ◌≤◌, ◌+◌, ℕ, suc, zero, Bool, true, false, List, [], ◌∷◌, ◌++◌, Option, Some, refl, sym, ap, subst, ◌∙◌, arith, length, drop}
use Rattle.std.specs.Prelude.{Ok, IsSome, IfSome, if◌then◌else◌}
use Rattle.std.proofs.lemmas.List.{append_assoc, append-nil}
use Rattle.std.proofs.lemmas.List.Elements.{filter-append}
use Rattle.state_store.specs.declared.object.ObjectDecl.{ObjectDecl}
use Rattle.state_store.specs.declared.object.Row.{Row}
use Rattle.writeback_table.specs.Pair.{visible_rows}
use Rattle.run_model.specs.declared.run.ObjectRows.{ObjectRows}
use Rattle.split_model.specs.Shown.{is_replicated}
use Rattle.switch_ir.specs.Code.{Code}
use Rattle.switch_ir.specs.Port.{PortState, HasReplicated, IsLoaded, IsReplicatedIn, ShowsRows}
use Rattle.switch_ir.specs.Tables.{Told, pair_at}
use Rattle.switch_ir.specs.declared.journal.Entry.TheVariants.{Visible}
use Rattle.replay_contracts.specs.Called.{KeepsCalls, calls_in, is_of_replay}
use Rattle.replay_contracts.specs.Inputs.{Inputs, code_for}
use Rattle.replay_contracts.specs.Promise.{told_parts}
use Rattle.replay_course.specs.Telling.{ShowsParts}
use Rattle.replay_course.proofs.LeftByErrors.{keeps_more}

-- the rows of the objects below a number were found, and those behind it are to come
pub record IsShowing (x : Inputs) (n : ℕ) (parts : List ObjectRows) (first port : PortState) : Type 0 where
  pub kept : KeepsCalls first port
  pub rows : (told : Told) → first.told ≡ Some told
      → parts ++ told_parts (is_replicated x.program x.split) told n (drop n x.program.objects)
      ≡ told_parts (is_replicated x.program x.split) told 0 x.program.objects

loaded_by : (code : Option Code) (c : Code) → code ≡ Some c → IsSome code
loaded_by code c is = subst IsSome (sym is) refl

pub is_loaded : (x : Inputs) (first port : PortState) (n : ℕ) (parts : List ObjectRows) → first.code ≡ Some (code_for x) → IsShowing x n parts first port → IsLoaded port
is_loaded x first port n parts is shows = loaded_by port.code (code_for x) (shows.kept.code ∙ is)

pub has_replicated : (x : Inputs) (first port : PortState) (n : ℕ) (parts : List ObjectRows) (o : ℕ) → first.code ≡ Some (code_for x) → IsShowing x n parts first port
    → (d : ObjectDecl) × IsReplicatedIn (code_for x) o d → HasReplicated port o
has_replicated x first port n parts o is shows there =
    subst (λ c. IfSome c (λ code. (d : ObjectDecl) × IsReplicatedIn code o d)) (sym (shows.kept.code ∙ is)) there

pub rows_kept : (o : ℕ) (list : List Row) (old new : PortState) → ShowsRows (Ok list) o old new → KeepsCalls old new
rows_kept o list old new shows = record {
  code = shows.kept.code;
  told = shows.kept.told;
  passes = shows.kept.passes;
  journal = ap calls_in shows.journal ∙ filter-append is_of_replay old.journal (Visible o ∷ []) ∙ append-nil (calls_in old.journal);
  spare = shows.kept.spare;
  faults = shows.faults;
}

drop_within : (objects : List ObjectDecl) (n : ℕ) → n < length objects → (o : ObjectDecl) × (drop n objects ≡ o ∷ drop (suc n) objects)
drop_within [] n less = absurd (omega arith)
drop_within (o ∷ os) zero less = (o, refl)
drop_within (o ∷ os) (suc n) less = drop_within os n (omega arith)

next_parts : (test : ℕ → Bool) (told : Told) (n : ℕ) (objects : List ObjectDecl) → n < length objects → (b : Bool) → test n ≡ b
    → told_parts test told n (drop n objects)
    ≡ (if b then (record { object = n; rows = visible_rows told.bit (pair_at told.pairs n) }) ∷ told_parts test told (n + 1) (drop (n + 1) objects)
    else told_parts test told (n + 1) (drop (n + 1) objects))
next_parts test told n objects less b is =
    let here = drop_within objects n less in
    let one : n + 1 ≡ suc n = omega arith in
    ap (told_parts test told n) here.1
    ∙ ap (λ t. if t then (record { object = n; rows = visible_rows told.bit (pair_at told.pairs n) }) ∷ told_parts test told (suc n) (drop (suc n) objects)
    else told_parts test told (suc n) (drop (suc n) objects)) is
    ∙ ap (λ k. if b then (record { object = n; rows = visible_rows told.bit (pair_at told.pairs n) }) ∷ told_parts test told k (drop k objects)
    else told_parts test told k (drop k objects)) (sym one)

drop_past : (objects : List ObjectDecl) (n : ℕ) → length objects ≤ n → drop n objects ≡ []
drop_past [] zero h = refl
drop_past [] (suc n) h = refl
drop_past (o ∷ os) zero h = absurd (omega arith)
drop_past (o ∷ os) (suc n) h = drop_past os n (omega arith)

pub shows_past : (x : Inputs) (n : ℕ) (parts : List ObjectRows) (first port : PortState) → IsShowing x n parts first port → n < length x.program.objects
    → is_replicated x.program x.split n ≡ false → IsShowing x (n + 1) parts first port
shows_past x n parts first port shows less none = record {
  kept = shows.kept;
  rows = λ told is. ap (λ l. parts ++ l) (sym (next_parts (is_replicated x.program x.split) told n x.program.objects less _ none)) ∙ shows.rows told is;
}

pub shows_more : (x : Inputs) (n : ℕ) (parts : List ObjectRows) (list : List Row) (first old new : PortState) → IsShowing x n parts first old → n < length x.program.objects
    → is_replicated x.program x.split n ≡ true → ShowsRows (Ok list) n old new
    → IsShowing x (n + 1) (parts ++ (record { object = n; rows = list }) ∷ []) first new
shows_more x n parts list first old new shows less some seen = record {
  kept = keeps_more first old new shows.kept (rows_kept n list old new seen);
  rows = λ told is.
      append_assoc parts _ _
      ∙ ap (λ (l : List Row). parts ++ ((record { object = n; rows = l }) ∷ told_parts (is_replicated x.program x.split) told (n + 1) (drop (n + 1) x.program.objects)))
      (seen.told told (shows.kept.told ∙ is))
      ∙ ap (λ l. parts ++ l) (sym (next_parts (is_replicated x.program x.split) told n x.program.objects less _ some)) ∙ shows.rows told is;
}

pub shows_all : (x : Inputs) (n : ℕ) (parts : List ObjectRows) (first port : PortState) → IsShowing x n parts first port → length x.program.objects ≤ n → ShowsParts x first port parts
shows_all x n parts first port shows past = record {
  kept = shows.kept;
  rows = λ told is. sym (append-nil parts) ∙ ap (λ os. parts ++ told_parts (is_replicated x.program x.split) told n os) (sym (drop_past x.program.objects n past)) ∙ shows.rows told is;
}

pub shows_same : (x : Inputs) (n : ℕ) (parts others : List ObjectRows) (first port other : PortState) → IsShowing x n parts first port → others ≡ parts → other ≡ port → IsShowing x n others first other
shows_same x n parts others first port other shows is same =
    subst (λ p. IsShowing x n others first p) (sym same) (subst (λ l. IsShowing x n l first port) (sym is) shows)
