-- Carried values hang on the packet and on the constant tables alone.
use Rattle.std.proofs.Common.{◌≡◌, ℕ, zero, suc, ◌<◌, ◌≤◌, true, false, not, ◌&&◌, ◌||◌, List, [], ◌∷◌, length, Some, None, refl, sym, ap, ◌∙◌, subst, arith, ⊎_elim, slice_index, slice_get}
use Rattle.std.proofs.lemmas.Bool.{false≢true, and_from, or_left, or_right, eq-eqb, cases_Bool, cases_lt, not-false}
use Rattle.std.proofs.Math.Nat.{eq-or-lt_of_le}
use Rattle.packet_fields.specs.declared.packet.Packet.{Packet}
use Rattle.state_store.specs.declared.object.ObjectDecl.{ObjectDecl}
use Rattle.state_store.specs.declared.object.Kind.{Kind}
use Rattle.state_store.specs.declared.object.Kind.TheVariants.{Table}
use Rattle.state_store.specs.Kept.{IsKept}
use Rattle.state_store.specs.Kinds.{is_table, is_constant}
use Rattle.state_store.specs.Store.{Store, object_at}
use Rattle.flat_ir.specs.Program.{Program, Work, step_at, operands}
use Rattle.flat_ir.specs.Program.Work.{look}
use Rattle.flat_ir.specs.Blocks.{Reading, nothing, is_live}
use Rattle.flat_ir.specs.Kinds.{is_mutable_look}
use Rattle.flat_ir.specs.Run.{after, flat_run}
use Rattle.flat_ir.specs.WellFormed.{IsWellFormed, HasConstantTables}
use Rattle.flat_ir.specs.Laws.{Same}
use Rattle.split_model.specs.declared.split.Part.{Part}
use Rattle.split_model.specs.declared.split.Slow.TheVariants.{Server}
use Rattle.split_model.specs.Counts.{is_post_shown}
use Rattle.split_model.specs.Laws.{CarriedStand, ShowsReplicated, HasDeclaredTables}
use Rattle.split_model.specs.Legal.{IsLegal}
use Rattle.split_model.specs.Passes.{AgreeOnShown, pre_values}
use Rattle.split_model.specs.Shown.{is_shown, looks_at}
use Rattle.split_model.specs.Split.{pre_stage, is_pre, is_post, is_carried, is_carried_up}
use Rattle.split_model.proofs.Rules.{pre_kind, pre_rises, carried_pre, carried_look, carried_operands}
use Rattle.split_model.proofs.Sights.{SameSight, seen_same}
use Rattle.split_model.proofs.Stages.{staged_value}
use Rattle.flat_ir.proofs.AnyBelow.{any_passes}
use Rattle.flat_ir.proofs.Laws.{a_run_is_its_values, a_run_keeps_the_tables-runs, readings_that_agree-operands, readings_that_agree-results}
use Rattle.lemmas.proofs.Lists.{each_both, each_weaker}
use Rattle.std.proofs.lemmas.List.{get_or_past}

-- a constant object has its declaration
pub declared_at : (ds : List ObjectDecl) (o : ℕ) → is_constant ds o ≡ true → (d : ObjectDecl) × (slice_get ds o ≡ Some d) × (is_table d.kind ≡ true)
declared_at [] o e = absurd (false≢true e)
declared_at (d ∷ ds) zero e = (d, refl, e)
declared_at (d ∷ ds) (suc o) e = declared_at ds o e

-- a store and loaded tables agree on each constant object that a pass looks up
pub tables_agree : (f : Program) (split : List Part) (st tables : Store) → HasConstantTables f st → HasDeclaredTables f split tables → (o : ℕ) → is_constant f.objects o ≡ true → (is_shown f split o || is_post_shown f split o) ≡ true → object_at tables o ≡ object_at st o
tables_agree f split st tables has loaded o e shown =
    let d = declared_at f.objects o e in loaded.rows o d.0 d.1 d.2 shown ∙ sym (has.tables o d.0 d.1 d.2)

pub replicated_show : (f : Program) (split : List Part) (st tables : Store) → HasConstantTables f st → HasDeclaredTables f split tables → ShowsReplicated f split st tables → AgreeOnShown f split tables st
replicated_show f split st tables has loaded replicated o shown =
    ⊎_elim
    (λ constant. tables_agree f split st tables has loaded o constant (or_left (is_shown f split o) (is_post_shown f split o) shown))
    (λ mutable. replicated o (and_from (not (is_constant f.objects o)) (is_shown f split o) (ap not mutable) shown))
    (cases_Bool (is_constant f.objects o))

-- what a pass looks up
pub pre_shown : (f : Program) (split : List Part) (i o : ℕ) → i < length f.code → is_pre split i ≡ true → looks_at o (step_at f i).work ≡ true → (is_shown f split o || is_post_shown f split o) ≡ true
pre_shown f split i o within pre looks =
    or_left (is_shown f split o) (is_post_shown f split o) (any_passes (length f.code) (λ j. is_pre split j && looks_at o (step_at f j).work) i within (and_from (is_pre split i) (looks_at o (step_at f i).work) pre looks))

pub post_shown : (f : Program) (split : List Part) (i o : ℕ) → i < length f.code → is_post split i ≡ true → looks_at o (step_at f i).work ≡ true → (is_shown f split o || is_post_shown f split o) ≡ true
post_shown f split i o within post looks =
    or_right (is_shown f split o) (is_post_shown f split o) (any_passes (length f.code) (λ j. is_post split j && looks_at o (step_at f j).work) i within (and_from (is_post split i) (looks_at o (step_at f i).work) post looks))

-- a look that isn't mutable sees the same in both
pub constant_sight : (f : Program) (st st' : Store) (work : Work) → ((o : ℕ) → is_constant f.objects o ≡ true → looks_at o work ≡ true → object_at st o ≡ object_at st' o) → is_mutable_look f work ≡ false → SameSight st st' work
constant_sight f st st' (look object keys) same e = same object (not-false (is_constant f.objects object) e) (eq-eqb object object refl)
constant_sight f st st' _ same e = tt

-- what is carried is an instruction of the program
pub carried_within : (f : Program) (split : List Part) → length split ≡ length f.code → (i : ℕ) → is_carried split i ≡ true → i < length f.code
carried_within f split count i e =
    ⊎_elim (λ lt. lt) (λ le. absurd (false≢true (ap (λ (p : Part). is_carried_up p.slow) (sym (get_or_past split i (record { pre = None; slow = Server }) (subst (λ n. n ≤ i) (sym count) le))) ∙ e))) (cases_lt i (length f.code))

module _ (f : Program) (split : List Part) (st tables : Store) (packet : Packet) where
  abbrev P : Reading
  P = pre_values f split tables packet

  abbrev F : Reading
  F = (flat_run f st packet).reads

  abbrev work_at : ℕ → Work
  work_at i = (step_at f i).work

  module _ (well : IsWellFormed f) (legal : IsLegal f split) (has : HasConstantTables f st) (loaded : HasDeclaredTables f split tables) where
    -- at any time of the run the constant tables are those of the pass
    pub constants : (n : ℕ) → n ≤ length f.code → (o : ℕ) → is_constant f.objects o ≡ true → (is_shown f split o || is_post_shown f split o) ≡ true → object_at tables o ≡ object_at (after f st packet n).store o
    constants n le o e shown = tables_agree f split st tables has loaded o e shown ∙ sym (a_run_keeps_the_tables-runs f st packet well o n e le)

    abbrev StandsAt : ℕ → Type 0
    StandsAt i = is_carried split i ≡ true → (place : ℕ) → Same P F (record { instruction = i; result = place })

    stands_step : (n : ℕ) → n < length f.code → ((i : ℕ) → i < n → StandsAt i) → StandsAt n
    stands_step n within before carried place =
        let pre = carried_pre f split legal n within carried in
        let now = (after f st packet n).store in
        let l = is_live f.blocks F (step_at f n).block in
        staged_value f (pre_stage split) nothing tables packet (record { instruction = n; result = place }) pre (pre_rises f split legal) within
        ∙ ap (λ rs. slice_index rs place) (readings_that_agree-results P F false tables packet (work_at n) (readings_that_agree-operands P F (work_at n) (each_weaker (λ v. (v.instruction < n) × (is_carried split v.instruction ≡ true)) (Same P F) (λ v h. before v.instruction h.0 h.1 v.result) (operands (work_at n)) (each_both (λ v. v.instruction < n) (λ v. is_carried split v.instruction ≡ true) (operands (work_at n)) (well.after_operands n within) (carried_operands f split legal n within carried)))))
        ∙ ap (λ rs. slice_index rs place) (seen_same F false l tables now packet (work_at n) (pre_kind f split legal n within pre) (constant_sight f tables now (work_at n) (λ o constant looks. constants n (omega (arith, within)) o constant (pre_shown f split n o within pre looks)) (carried_look f split legal n within carried)))
        ∙ sym ((a_run_is_its_values f st packet n well within).value place)

    stands : (n : ℕ) → n ≤ length f.code → (i : ℕ) → i < n → StandsAt i
    stands zero le i lt = absurd (omega (arith, lt))
    stands (suc n) le i lt =
        ⊎_elim (λ e. subst StandsAt (sym e) (stands_step n le (stands n (omega (arith, le))))) (λ less. stands n (omega (arith, le)) i less) (eq-or-lt_of_le {n = i} {m = n} (omega (arith, lt)))

    pub carried_stand : CarriedStand f split st tables packet
    carried_stand v carried =
        stands (length f.code) (omega arith) v.instruction (carried_within f split legal.count v.instruction carried) carried v.result

-- ## Stores that keep what was declared

a_table : (kind : Kind) → is_table kind ≡ true → kind ≡ Table
a_table Table e = refl
a_table _ e = absurd (false≢true e)

pub kept_has_tables : (f : Program) (st : Store) → IsKept f.objects st → HasConstantTables f st
kept_has_tables f st kept = record {
  tables = λ o d e table.
      let x = object_at st o in
      let h = kept.each o d e in
      ap (λ k. record { kind = k; size = x.size; count = x.count; contents = x.contents }) h.kind
      ∙ ap (λ n. record { kind = d.kind; size = n; count = x.count; contents = x.contents }) h.size
      ∙ ap (λ n. record { kind = d.kind; size = d.size; count = n; contents = x.contents }) h.count
      ∙ ap (λ rows. record { kind = d.kind; size = d.size; count = length d.values; contents = rows }) (h.table (a_table d.kind table));
}
