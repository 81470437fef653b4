-- Blocks and those above them.
use Rattle.std.proofs.Common.{◌≡◌, ℕ, zero, suc, ◌==◌, ◌-◌, ◌<◌, ◌≤◌, Bool, true, false, ◌&&◌, ◌||◌, List, ◌∷◌, length, refl, sym, ap, ◌∙◌, arith, get_or, ⊎_elim}
use Rattle.std.proofs.lemmas.Bool.{cases_lt, or_cases, and_parts, eqb-true, false≢true}
use Rattle.std.specs.List.{list_all, list_any}
use mathlib.Core.Bool.{beq}
use Rattle.flat_ir.specs.declared.program.ValueId.{ValueId}
use Rattle.flat_ir.specs.declared.program.Block.{Block}
use Rattle.flat_ir.specs.Program.{Program, step_at}
use Rattle.flat_ir.specs.Blocks.{Reading, is_on, same, block_at, line, line_up, holds, is_live, is_above, HasLowParents}
use Rattle.flat_ir.specs.WellFormed.{IsWellFormed, IsSeenFrom, IsInArm}
use Rattle.std.proofs.lemmas.List.{get_or_default, get_or_past}

pub beq_same : (a b : Bool) → beq a b ≡ same b a
beq_same true true = refl
beq_same true false = refl
beq_same false true = refl
beq_same false false = refl

abbrev blank : Block
blank = record { parent = 0; cond = record { instruction = 0; result = 0 }; polarity = true }

module _ (blocks : List Block) (low : HasLowParents blocks) where
  pub parent_le : (k : ℕ) → (block_at blocks k).parent ≤ k
  parent_le k =
      ⊎_elim (λ lt. low k lt) (λ le. let e = ap (λ (b : Block). b.parent) (get_or_past blocks k blank le) in omega (arith, e)) (cases_lt k (length blocks))

  pub fuel : (n n' k : ℕ) → k ≤ n → k ≤ n' → line_up n blocks k ≡ line_up n' blocks k
  fuel n n' zero le le' = refl
  fuel zero n' (suc k) le le' = absurd (omega (arith, le))
  fuel (suc n) zero (suc k) le le' = absurd (omega (arith, le'))
  fuel (suc n) (suc n') (suc k) le le' =
      ap (λ l. suc k ∷ l) (fuel n n' (block_at blocks k).parent (omega (arith, parent_le k, le)) (omega (arith, parent_le k, le')))

  -- above a block stand its parent and what stands above that
  pub line_suc : (k : ℕ) → line blocks (suc k) ≡ suc k ∷ line blocks (block_at blocks k).parent
  line_suc k = ap (λ l. suc k ∷ l) (fuel k (block_at blocks k).parent (block_at blocks k).parent (parent_le k) (omega arith))

  -- the same by the list's entry, whatever stands past its end
  pub line_at : (n : ℕ) (d : Block) → 0 < n → n ≤ length blocks → line blocks n ≡ n ∷ line blocks (get_or blocks (n - 1) d).parent
  line_at zero d pos le = absurd (omega (arith, pos))
  line_at (suc k) d pos le =
      let last : suc k - 1 ≡ k = omega arith in
      line_suc k ∙ ap (λ (b : Block). suc k ∷ line blocks b.parent) (get_or_default blocks k blank d le ∙ ap (λ i. get_or blocks i d) (sym last))

  pub parent_below : (n : ℕ) (d : Block) → 0 < n → n ≤ length blocks → (get_or blocks (n - 1) d).parent < n
  parent_below zero d pos le = absurd (omega (arith, pos))
  parent_below (suc k) d pos le =
      let last : suc k - 1 ≡ k = omega arith in
      let here = ap (λ (b : Block). b.parent) (get_or_default blocks k blank d le ∙ ap (λ i. get_or blocks i d) (sym last)) in
      omega (arith, here, parent_le k)

  -- a block is live where its condition holds and its parent is live
  pub live_suc : (r : Reading) (k : ℕ) → is_live blocks r (suc k) ≡ (holds blocks r (suc k) && is_live blocks r (block_at blocks k).parent)
  live_suc r k = ap (list_all (holds blocks r)) (line_suc k)

  pub live_at : (r : Reading) (n : ℕ) (d : Block) → 0 < n → n ≤ length blocks → is_live blocks r n ≡ (same (get_or blocks (n - 1) d).polarity (is_on (r (get_or blocks (n - 1) d).cond)) && is_live blocks r (get_or blocks (n - 1) d).parent)
  live_at r zero d pos le = absurd (omega (arith, pos))
  live_at r (suc k) d pos le =
      let last : suc k - 1 ≡ k = omega arith in
      live_suc r k ∙ ap (λ (b : Block). same b.polarity (is_on (r b.cond)) && is_live blocks r b.parent) (get_or_default blocks k blank d le ∙ ap (λ i. get_or blocks i d) (sym last))

  pub above_at : (a n : ℕ) (d : Block) → 0 < n → n ≤ length blocks → is_above blocks a n ≡ (n == a || is_above blocks a (get_or blocks (n - 1) d).parent)
  above_at a n d pos le = ap (list_any (λ b. b == a)) (line_at n d pos le)

  -- a block above one that is live is live
  pub above_live : (r : Reading) (n k a : ℕ) → k ≤ n → list_any (λ b. b == a) (line_up n blocks k) ≡ true → list_all (holds blocks r) (line_up n blocks k) ≡ true → is_live blocks r a ≡ true
  above_live r n zero a le has all =
      ⊎_elim (λ e. ap (is_live blocks r) (sym (eqb-true 0 a e))) (λ e. absurd (false≢true e)) (or_cases (0 == a) false has)
  above_live r zero (suc k) a le has all = absurd (omega (arith, le))
  above_live r (suc n) (suc k) a le has all =
      ⊎_elim
      (λ e. ap (is_live blocks r) (sym (eqb-true (suc k) a e)) ∙ ap (list_all (holds blocks r)) (fuel (suc k) (suc n) (suc k) (omega arith) le) ∙ all)
      (λ e. above_live r n (block_at blocks k).parent a (omega (arith, parent_le k, le)) e ((and_parts (holds blocks r (suc k)) (list_all (holds blocks r) (line_up n blocks (block_at blocks k).parent)) all).1))
      (or_cases (suc k == a) (list_any (λ b. b == a) (line_up n blocks (block_at blocks k).parent)) has)

module _ (f : Program) (well : IsWellFormed f) where
  pub seen_live : (r : Reading) (k : ℕ) (v : ValueId) → IsSeenFrom f k v → is_live f.blocks r k ≡ true → is_live f.blocks r (step_at f v.instruction).block ≡ true
  seen_live r k v seen live = above_live f.blocks well.parents r k k (step_at f v.instruction).block (omega arith) seen live

  -- an arm is live where the select's block is, and the condition has its polarity
  pub arm_live : (r : Reading) (k : ℕ) (c : ValueId) (polarity : Bool) (v : ValueId) → IsInArm f k c polarity v → is_live f.blocks r k ≡ true → same polarity (is_on (r c)) ≡ true → is_live f.blocks r (step_at f v.instruction).block ≡ true
  arm_live r k c polarity v arm live on =
      ap (is_live f.blocks r) arm.stands
      ∙ live_suc f.blocks well.parents r arm.arm
      ∙ ap (λ (b : Block). same b.polarity (is_on (r b.cond)) && is_live f.blocks r b.parent) arm.block
      ∙ ap (λ b. b && is_live f.blocks r k) on
      ∙ live
