-- Which splits are legal: nine rules, each a test of one instruction that says whether it breaks the rule.
use Rattle.std.specs.Prelude.{◌≡◌, ℕ, zero, suc, ◌==◌, ◌<◌, Bool, true, false, not, ◌&&◌, ◌||◌, List, [], ◌∷◌, length}
use Rattle.std.specs.Prelude.{nat_lt, Option, Some, None, slice_index_or}
use Rattle.std.specs.List.{list_all, list_any}
use Rattle.flat_ir.specs.Program.{Program, step_at, operands}
use Rattle.flat_ir.specs.Blocks.{line, block_at, same}
use Rattle.flat_ir.specs.Kinds.{fits_switch, is_write, is_field, is_input, is_mutable_look, needed}
use Rattle.split_model.specs.declared.split.Part.{Part}
use Rattle.split_model.specs.Split.{pre_stage, post_stage, is_pre, is_carried, is_server, is_post}

-- preprocessing computes what the switch can
abbrev pub rule_1 : Program → List Part → ℕ → Bool
rule_1 f split i = is_pre split i && not (fits_switch (step_at f i))

-- from operands that it computes; the sides of a select don't count
abbrev pub rule_2 : Program → List Part → ℕ → Bool
rule_2 f split i = is_pre split i && not (list_all (λ v. is_pre split v.instruction) (needed (step_at f i).work))

-- what is carried is computed by preprocessing
abbrev pub rule_3 : Program → List Part → ℕ → Bool
rule_3 f split i = is_carried split i && not (is_pre split i)

-- is no look of rows that can change
abbrev pub rule_4 : Program → List Part → ℕ → Bool
rule_4 f split i = is_carried split i && is_mutable_look f (step_at f i).work

-- and has carried operands alone, the sides of a select too
abbrev pub rule_5 : Program → List Part → ℕ → Bool
rule_5 f split i = is_carried split i
    && not (list_all (λ v. is_carried split v.instruction) (operands (step_at f i).work))

-- a condition of the block, or of one above it, is a value of postprocessing
abbrev pub is_post_condition : Program → List Part → ℕ → Bool
is_post_condition f split zero = false
is_post_condition f split (suc k) = is_post split (block_at f.blocks k).cond.instruction

-- the server needs nothing of postprocessing: no operand, and no condition of a write
abbrev pub rule_6 : Program → List Part → ℕ → Bool
rule_6 f split i =
    let one = step_at f i in
    (is_server split i && list_any (λ v. is_post split v.instruction) (operands one.work))
    || (is_write one.work && list_any (is_post_condition f split) (line f.blocks one.block))

-- postprocessing computes what the switch can, and neither looks up rows that can change nor reads the packet
abbrev pub rule_7 : Program → List Part → ℕ → Bool
rule_7 f split i =
    let one = step_at f i in
    is_post split i && (not (fits_switch one) || (is_mutable_look f one.work || is_field one.work))

-- a write is the server's alone
abbrev pub rule_8 : Program → List Part → ℕ → Bool
rule_8 f split i = is_write (step_at f i).work && (is_pre split i || not (is_server split i))

-- an operand of the same pass that hasn't a lower stage
abbrev pub is_not_lower : Option ℕ → ℕ → Bool
is_not_lower None own = false
is_not_lower (Some other) own = not (nat_lt other own)

-- Consts and fields have stage 0, and nothing else has; an operand that the same pass computes has a lower stage.
abbrev pub is_misplaced : Program → (ℕ → Option ℕ) → ℕ → Option ℕ → Bool
is_misplaced f stage i None = false
is_misplaced f stage i (Some own) =
    let work = (step_at f i).work in
    not (same (is_input work) (own == 0)) || list_any (λ v. is_not_lower (stage v.instruction) own) (operands work)

-- stages rise in each pass
abbrev pub rule_9 : Program → List Part → ℕ → Bool
rule_9 f split i =
    is_misplaced f (pre_stage split) i (pre_stage split i) || is_misplaced f (post_stage split) i (post_stage split i)

-- the rules in order
abbrev pub rules : List (Program → List Part → ℕ → Bool)
rules = rule_1 ∷ rule_2 ∷ rule_3 ∷ rule_4 ∷ rule_5 ∷ rule_6 ∷ rule_7 ∷ rule_8 ∷ rule_9 ∷ []

-- an instruction breaks the rule of this number, from 1
abbrev pub breaks : ℕ → Program → List Part → ℕ → Bool
breaks zero f split i = false
breaks (suc n) f split i = (slice_index_or rules n (λ f split i. false)) f split i

-- a part for each instruction, and no instruction breaks a rule
pub record IsLegal (f : Program) (split : List Part) : Type 0 where
  pub count : length split ≡ length f.code
  pub kept : (rule i : ℕ) → i < length f.code → breaks rule f split i ≡ false

-- the lowest rule that is broken, and the first instruction that breaks it
pub record IsFirstBroken (f : Program) (split : List Part) (rule i : ℕ) : Type 0 where
  pub within : i < length f.code
  pub broken : breaks rule f split i ≡ true
  pub lowest : (lower j : ℕ) → lower < rule → j < length f.code → breaks lower f split j ≡ false
  pub first : (j : ℕ) → j < i → breaks rule f split j ≡ false
