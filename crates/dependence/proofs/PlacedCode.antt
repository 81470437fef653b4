-- From a well formed program to what the scans rest on, and from Rust's instructions to those of the program.
use Rattle.std.proofs.Common.{◌≡◌, ℕ, ◌<◌, ◌≤◌, false, List, [], ◌∷◌, inl, inr, refl, sym, ap, ◌∙◌, subst, length, map, get_or}
use Rattle.std.specs.Prelude.{slice_get, nat_lt}
use Rattle.std.specs.Option.{option_map}
use Rattle.std.specs.List.{AllByRecursion as Each}
use Rattle.std.proofs.lemmas.List.{length-map}
use Rattle.std.proofs.lemmas.Option.{slice_get-map, slice_get_within, slice_get_read, get_or_from_slice_get}
use Rattle.flat_ir.specs.declared.program.ValueId.{ValueId}
use Rattle.flat_ir.specs.declared.program.Instr.{Instr}
use Rattle.flat_ir.specs.declared.program.Flat.{Flat}
use Rattle.flat_ir.specs.Program.{Program, Step, const, step_of, program_of, step_at, operands, result_count}
use Rattle.flat_ir.specs.Blocks.{block_at}
use Rattle.flat_ir.specs.WellFormed.{IsWellFormed}
use Rattle.flat_ir.specs.Sets.{IsAt, Reads}
use Rattle.dependence.specs.Placed.{IsPlaced}
use Rattle.std.proofs.lemmas.Bool.{and_parts, ltb-true}

-- the instruction that is there is the one that `step_at` gives
pub step_there : (f : Program) (i : ℕ) (one : Step) → IsAt f i one → step_at f i ≡ one
step_there f i one at = get_or_from_slice_get f.code i one (record { block = 0; looped = false; work = const 1 0 }) at

pub each_read : (P : ℕ → Type 0) (vs : List ValueId) → Each (λ v. P v.instruction) vs → (j : ℕ) → Reads vs j → P j
each_read P [] all j r = absurd r
each_read P (v ∷ vs) all j (inl e) = subst P e all.0
each_read P (v ∷ vs) all j (inr r) = each_read P vs all.1 j r

pub placed : (f : Program) → IsWellFormed f → IsPlaced f
placed f well = record {
  operands = λ i j one at r.
      let within = slice_get_within f.code i one at in
      each_read (λ n. n < i) (operands one.work) (subst (λ (s : Step). Each (λ v. v.instruction < i) (operands s.work)) (step_there f i one at) (well.after_operands i within)) j r;
  blocks = λ i one at.
      let within = slice_get_within f.code i one at in
      subst (λ (s : Step). s.block ≤ length f.blocks) (step_there f i one at) (well.blocks i within);
  parents = well.parents;
  conditions = λ k within.
      let c = (block_at f.blocks k).cond in
      ltb-true c.instruction (length f.code) (and_parts (nat_lt c.instruction (length f.code)) (nat_lt c.result (result_count f.objects (step_at f c.instruction).work)) (well.names_conditions k within)).0;
}

-- an instruction that is read at its place is there in the program
pub here : (f : Flat) (code : List Instr) (i : ℕ) (one : Instr) → code ≡ f.code → i < length code → one ≡ get_or code i one → IsAt (program_of f) i (step_of one)
here f code i one same within is =
    ap (λ c. slice_get (map step_of c) i) (sym same) ∙ slice_get-map step_of code i ∙ ap (option_map step_of) (slice_get_read code (length code) i one refl within is)

pub as_many : (f : Flat) (code : List Instr) → code ≡ f.code → length code ≡ length (program_of f).code
as_many f code same = ap length same ∙ sym (length-map f.code step_of)
