use Rattle.std.proofs.Common.{◌≡◌, ◌∙◌, ◌-◌, ◌∷◌, [], ◌++◌, ◌<◌, arith, sym, subst, true, false, List, length, get_or, set}
use Rattle.std.specs.Prelude.{slice_index_or}
use Rattle.std.proofs.lemmas.List.{get_or_default}
use Rattle.flat_ir.specs.declared.program.Block.{Block}
use Rattle.flat_ir.specs.Program.{program_of}
use Rattle.flat_ir.specs.Guarding.{AreGuardsFrom}
use Rattle.flat_ir.proofs.GuardValues.{lifted, passed}
use Rattle.flat_ir.proofs.guards.lift.Goals as goal

abbrev none : Block
none = record { parent = 0; cond = record { instruction = 0; result = 0 }; polarity = false }

pub returns-in_ok-push : goal.returns-in_ok-push
returns-in_ok-push c =
    let f = program_of c.args.f.now in
    let b = c.args.b in
    let covering = c.args.covering.now.items in
    let found = c.args.found.now.items in
    let inside : b < length covering = omega arith in
    let covers : slice_index_or covering b false ≡ true = get_or_default covering b false c.index.result.now inside ∙ sym c.index.ensures ∙ c.if-index.true in
    subst (AreGuardsFrom f (b - 1) (set covering (get_or c.as_slice.result.now (b - 1) none).parent true)) (sym c.in_ok-push.ensures.items)
    (subst (λ (bs : List Block). AreGuardsFrom f (b - 1) (set covering (get_or bs (b - 1) none).parent true) (found ++ (get_or bs (b - 1) none).cond ∷ [])) (sym c.as_slice.ensures)
    (lifted f b none covering found c.requires.formed c.requires.inside.0 c.requires.inside.1 covers c.requires.from))

pub returns-else-index : goal.returns-else-index
returns-else-index c =
    let covering = c.args.covering.now.items in
    let inside : c.args.b < length covering = omega arith in
    let out : slice_index_or covering c.args.b false ≡ false = get_or_default covering c.args.b false c.index.result.now inside ∙ sym c.index.ensures ∙ c.if-index.false in
    passed (program_of c.args.f.now) c.args.b covering c.args.found.now.items c.requires.inside.0 out c.requires.from
