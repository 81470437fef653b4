use Rattle.std.proofs.Common.{◌<◌, ◌∙◌, length, ◌&&◌, ◌∷◌, [], not, Some, None, ap, sym, arith}
use Rattle.std.proofs.lemmas.Bool.{cond-true, cond-false}
use Rattle.std.proofs.lemmas.List.{length-map}
use Rattle.flat_ir.specs.Program.{program_of, step_at, step_of}
use Rattle.split_model.specs.Crossing.{is_among, is_at_hand}
use Rattle.split_model.specs.Split.{is_post}
use Rattle.switch_ir.specs.Emitted.{is_given, only_value}
use Rattle.switch_ir.proofs.Givens.{given_simply}
use Rattle.switch_ir.proofs.steps.given_stage.Goals as goal

pub returns-then-is_given : goal.returns-then-is_given
returns-then-is_given c =
    let f = program_of c.args.f.now in
    let split = c.args.s.now in
    let i = c.args.i in
    let v = only_value i in
    let within : i < length f.code = omega (arith, c.requires.within, length-map c.args.f.now.code step_of) in
    let marked = c.requires.marked.exact v c.requires.within (omega arith) in
    let told = ap (λ m. is_at_hand f split (step_at f i).work && (not (is_post split i) && (not (is_among v (f.send ∷ f.port ∷ [])) && m))) (sym marked) in
    sym (cond-true (is_given f split i) (Some 0) None (given_simply f split i within ∙ told ∙ sym c.is_given.ensures ∙ c.if-is_given.true))

pub returns-else-is_given : goal.returns-else-is_given
returns-else-is_given c =
    let f = program_of c.args.f.now in
    let split = c.args.s.now in
    let i = c.args.i in
    let v = only_value i in
    let within : i < length f.code = omega (arith, c.requires.within, length-map c.args.f.now.code step_of) in
    let marked = c.requires.marked.exact v c.requires.within (omega arith) in
    let told = ap (λ m. is_at_hand f split (step_at f i).work && (not (is_post split i) && (not (is_among v (f.send ∷ f.port ∷ [])) && m))) (sym marked) in
    sym (cond-false (is_given f split i) (Some 0) None (given_simply f split i within ∙ told ∙ sym c.is_given.ensures ∙ c.if-is_given.false))
