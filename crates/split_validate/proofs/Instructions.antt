-- Instructions, by their place, and the rules that look at all operands of one.
use Rattle.std.proofs.Common.{◌≡◌, ℕ, true, not, ◌&&◌, List, sym, ap, ◌∙◌, length}
use Rattle.std.specs.List.{list_all}
use Rattle.std.proofs.lemmas.List.{length-map}
use Rattle.flat_ir.specs.declared.program.Flat.{Flat}
use Rattle.flat_ir.specs.Kinds.{needed}
use Rattle.flat_ir.specs.Program.{Program, Work, operands, program_of, step_at, step_of}
use Rattle.split_model.specs.declared.split.Part.{Part}
use Rattle.split_model.specs.Split.{is_pre, is_carried}
use Rattle.split_model.specs.Legal.{rule_2, rule_5}
use Rattle.split_validate.specs.declared.operand.Flaw.TheVariants.{NotBefore, NotCarried}
use Rattle.split_validate.specs.Flaws.{any_flawed}
use Rattle.split_validate.proofs.Operands.{not_all}

-- as many instructions as the program has
pub same_count : (f : Flat) → length (program_of f).code ≡ length f.code
same_count f = length-map f.code step_of

pub second_rule : (f : Program) (split : List Part) (i : ℕ) (work : Work) → (step_at f i).work ≡ work → is_pre split i ≡ true → any_flawed NotBefore split (needed work) ≡ rule_2 f split i
second_rule f split i work at pre =
    let all = list_all (λ v. is_pre split v.instruction) (needed (step_at f i).work) in
    ap (λ w. any_flawed NotBefore split (needed w)) (sym at)
    ∙ sym (not_all (λ v. is_pre split v.instruction) (needed (step_at f i).work))
    ∙ sym (ap (λ b. b && not all) pre)

pub fifth_rule : (f : Program) (split : List Part) (i : ℕ) (work : Work) → (step_at f i).work ≡ work → is_carried split i ≡ true → any_flawed NotCarried split (operands work) ≡ rule_5 f split i
fifth_rule f split i work at carried =
    let all = list_all (λ v. is_carried split v.instruction) (operands (step_at f i).work) in
    ap (λ w. any_flawed NotCarried split (operands w)) (sym at)
    ∙ sym (not_all (λ v. is_carried split v.instruction) (operands (step_at f i).work))
    ∙ sym (ap (λ b. b && not all) carried)
