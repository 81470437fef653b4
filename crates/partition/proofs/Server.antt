-- The split that leaves all to the server.
use Rattle.std.proofs.Common.{◌≡◌, ℕ, zero, suc, Bool, false, ◌&&◌, List, ◌∷◌, refl, sym, ap, ◌∙◌, subst, arith, length, replicate, map, is_some}
use Rattle.std.proofs.lemmas.List.{length-map, length-replicate}
use Rattle.flat_ir.specs.Program.{Program, step_at}
use Rattle.flat_ir.specs.Sets.{IsMarked, IsPreClosed, IsCarriedClosed}
use Rattle.flat_ir.specs.Stages.{IsStaged}
use Rattle.split_model.specs.declared.split.Part.{Part}
use Rattle.split_model.specs.Split.{part_at, pre_stage, post_stage, is_pre, is_carried, is_post, is_carried_up, stage_after, any_below}
use Rattle.split_model.specs.Shown.{looks_at, is_shown}
use Rattle.split_model.specs.Counts.{stage_or_zero, highest_below, stages}
use Rattle.split_model.specs.Legal.{IsLegal}
use Rattle.split_model.specs.Greatest.{pre_marks, carried_marks, post_marks, pre_stages, post_stages, IsGreatestSplit}
use Rattle.partition.proofs.Lawful.{left, and_no, none_closed, closed_legal, pre_at, carried_at, post_at, pre_stage_at, post_stage_at}

-- each instruction is the server's
abbrev pub IsBlank : List Part → Type 0
IsBlank split = (i : ℕ) → part_at split i ≡ left

pub blank : (n : ℕ) → IsBlank (replicate n left)
blank (suc n) (suc i) = blank n i
blank _ _ = refl

map_same : {X Y : Type 0} (g : X → Y) (n : ℕ) (x : X) → map g (replicate n x) ≡ replicate n (g x)
map_same g zero x = refl
map_same g (suc n) x = ap (λ l. g x ∷ l) (map_same g n x)

module _ (split : List Part) (of : IsBlank split) where
  pub no_pre : (i : ℕ) → is_pre split i ≡ false
  no_pre i = ap (λ (p : Part). is_some p.pre) (of i)

  pub no_carried : (i : ℕ) → is_carried split i ≡ false
  no_carried i = ap (λ (p : Part). is_carried_up p.slow) (of i)

  pub no_post : (i : ℕ) → is_post split i ≡ false
  no_post i = ap (λ (p : Part). is_some (stage_after p.slow)) (of i)

  pub no_pre_stage : (i : ℕ) → stage_or_zero (pre_stage split i) ≡ 0
  no_pre_stage i = ap (λ (p : Part). stage_or_zero p.pre) (of i)

  pub no_post_stage : (i : ℕ) → stage_or_zero (post_stage split i) ≡ 0
  no_post_stage i = ap (λ (p : Part). stage_or_zero (stage_after p.slow)) (of i)

  pre_out : (i : ℕ) → IsMarked (pre_marks split) i → ⊥
  pre_out i m = let a = sym (pre_at split i) ∙ m in let b = no_pre i in cc

  carried_out : (i : ℕ) → IsMarked (carried_marks split) i → ⊥
  carried_out i m = let a = sym (carried_at split i) ∙ m in let b = no_carried i in cc

  post_out : (i : ℕ) → IsMarked (post_marks split) i → ⊥
  post_out i m = let a = sym (post_at split i) ∙ m in let b = no_post i in cc

  pub no_stages : (n : ℕ) → highest_below split n ≡ 0
  no_stages zero = refl
  no_stages (suc n) = rw (no_stages n, no_pre_stage n, no_post_stage n) refl

  pub none_below : (g : ℕ → Bool) (n : ℕ) → ((i : ℕ) → g i ≡ false) → any_below n g ≡ false
  none_below g zero h = refl
  none_below g (suc n) h = rw (none_below g n h, h n) refl

  pub unseen : (f : Program) (o : ℕ) → is_shown f split o ≡ false
  unseen f o = none_below (λ i. is_pre split i && looks_at o (step_at f i).work) (length f.code)
      (λ i. and_no (is_pre split i) (looks_at o (step_at f i).work) (λ p. let q = no_pre i in cc))

  module _ (f : Program) (count : length split ≡ length f.code) where
    pre_closed : IsPreClosed f 0 (pre_marks split)
    pre_closed = record {
      below = λ i m. absurd (pre_out i m);
      kinds = λ i m. absurd (pre_out i m);
      needs = λ i j one m at r. absurd (pre_out i m);
    }

    carried_closed : IsCarriedClosed f (pre_marks split) (carried_marks split)
    carried_closed = record {
      within = λ i m. absurd (carried_out i m);
      looks = λ i m. absurd (carried_out i m);
      operands = λ i j one m at r. absurd (carried_out i m);
    }

    staged : (members : List Bool) (depths : List ℕ) → ((i : ℕ) → IsMarked members i → ⊥) → IsStaged f members depths
    staged members depths none = record {
      given = λ i one m at h. absurd (none i m);
      later = λ i one m at h. absurd (none i m);
      rising = λ i j one m at r n. absurd (none i m);
    }

    pub blank_legal : IsLegal f split
    blank_legal = closed_legal f split count (record {
      number = 0;
      pre = pre_closed;
      carried = carried_closed;
      post = none_closed f (carried_marks split) (post_marks split) post_out;
      pre_staged = staged (pre_marks split) (pre_stages split) pre_out;
      post_staged = staged (post_marks split) (post_stages split) post_out;
    })

    pub blank_greatest : post_marks split ≡ replicate (length f.code) false → IsGreatestSplit f 0 false split
    blank_greatest none = record {
      pre = record {
        count = length-map split (λ (part : Part). is_some part.pre) ∙ count;
        closed = pre_closed;
        greatest = λ others closed i m. absurd (let l = closed.below i m in omega (arith, l));
      };
      carried = record {
        count = length-map split (λ (part : Part). is_carried_up part.slow) ∙ count;
        closed = carried_closed;
        greatest = λ others closed i m. absurd (pre_out i (closed.within i m));
      };
      post = none;
      pre_depths = record {
        count = length-map split (λ (part : Part). stage_or_zero part.pre) ∙ count;
        others = λ i m. pre_stage_at split i ∙ no_pre_stage i;
        depth = λ i one m at. absurd (pre_out i m);
      };
      post_depths = record {
        count = length-map split (λ (part : Part). stage_or_zero (stage_after part.slow)) ∙ count;
        others = λ i m. post_stage_at split i ∙ no_post_stage i;
        depth = λ i one m at. absurd (post_out i m);
      };
    }

-- what all_on_server promises, of the list itself
pub record IsServer (f : Program) (split : List Part) : Type 0 where
  pub greatest : IsGreatestSplit f 0 false split
  pub legal : IsLegal f split
  pub low : stages f split ≡ 0
  pub unseen_all : (o : ℕ) → is_shown f split o ≡ false

pub server_split : (f : Program) (n : ℕ) → n ≡ length f.code → IsServer f (replicate n left)
server_split f n e =
    let of : IsBlank (replicate n left) = blank n in
    let count : length (replicate n left) ≡ length f.code = length-replicate n left ∙ e in
    record {
      greatest = blank_greatest (replicate n left) of f count (map_same (λ (part : Part). is_some (stage_after part.slow)) n left ∙ ap (λ m. replicate m false) e);
      legal = blank_legal (replicate n left) of f count;
      low = no_stages (replicate n left) of (length f.code);
      unseen_all = unseen (replicate n left) of f;
    }

pub served : (f : Program) (n : ℕ) (split : List Part) → split ≡ replicate n left → n ≡ length f.code → IsServer f split
served f n split e count = subst (λ (s : List Part). IsServer f s) (sym e) (server_split f n count)
