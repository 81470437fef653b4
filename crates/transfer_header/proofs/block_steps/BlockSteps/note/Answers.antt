use Rattle.std.proofs.Common.{◌≡◌, ◌<◌, ℕ, List, max, get_or, length, ap, ◌∙◌, arith}
use Rattle.std.proofs.lemmas.List.{get_or_default}
use Rattle.transfer_header.specs.BlockSteps.{greatest, step_if}
use Rattle.transfer_header.proofs.SweptBlocks.{noted}
use Rattle.transfer_header.proofs.block_steps.BlockSteps.note.Goals as goal

pub returns-clause-greatest : goal.returns-clause-greatest
returns-clause-greatest c test =
    let steps = c.self.inside.steps.items in
    let lt : c.args.block < length steps = omega (arith, c.requires, ap (λ (l : List ℕ). length l) c.self.view_is) in
    let is : c.max.result ≡ max (get_or steps c.args.block 0) c.args.step = c.max.ensures ∙ ap (λ x. max x c.args.step) (c.index.ensures ∙ get_or_default steps c.args.block _ 0 lt) in
    noted test steps c.args.block c.args.step c.max.result lt is
    ∙ ap (λ (l : List ℕ). max (greatest test l) (step_if (test c.args.block) c.args.step)) c.self.view_is
