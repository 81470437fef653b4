use Rattle.std.proofs.Common.{◌≡◌, ◌<◌, ℕ, suc, List, max, length, get_or, true, false, ap, sym, ◌∙◌, arith, add-one}
use Rattle.std.proofs.lemmas.List.{get_or_default, length-set}
use Rattle.flat_ir.specs.declared.program.Block.{Block}
use Rattle.flat_ir.specs.Blocks.{block_at}
use Rattle.flat_ir.specs.Program.{program_of}
use Rattle.split_model.specs.Layouts.{number_of}
use Rattle.transfer_header.specs.BlockSteps.{greatest_below}
use Rattle.server_runtime.specs.Noting.{is_condition_of}
use Rattle.server_runtime.proofs.Noted.{condition_noted, number_low}
use Rattle.server_runtime.proofs.allocation.note_conditions.Goals as goal

abbrev none : Block
none = record { parent = 0; cond = record { instruction = 0; result = 0 }; polarity = false }

abbrev root : Block
root = record { parent = 0; cond = record { instruction = 0; result = 0 }; polarity = true }

pub note_one-requires : goal.note_one-requires
note_one-requires c =
    let f = program_of c.args.whole.now.flat in
    let k = c.loop-place.place in
    let items = c.as_slice-block-items.result.now in
    let within : k < length f.blocks = omega (arith, c.loop-place-test.true, ap (λ (l : List Block). length l) c.as_slice-block-items.ensures) in
    let is : get_or items k none ≡ block_at f.blocks k = ap (λ (l : List Block). get_or l k none) c.as_slice-block-items.ensures ∙ get_or_default f.blocks k none root within in
    let number : c.number_of-number.result ≡ number_of f (block_at f.blocks k).cond = c.number_of-number.ensures ∙ ap (λ (b : Block). number_of f b.cond) is in
    omega (arith, number, number_low f (block_at f.blocks k).cond (c.requires.prepared.bounded.formed.names_conditions k within), c.loop-place.invariant.count, c.requires.count)

pub loop-place-preserved : goal.loop-place-preserved
loop-place-preserved c =
    let f = program_of c.args.whole.now.flat in
    let k = c.loop-place.place in
    let items = c.as_slice-block-items.result.now in
    let within : k < length f.blocks = omega (arith, c.loop-place-test.true, ap (λ (l : List Block). length l) c.as_slice-block-items.ensures) in
    let is : get_or items k none ≡ block_at f.blocks k = ap (λ (l : List Block). get_or l k none) c.as_slice-block-items.ensures ∙ get_or_default f.blocks k none root within in
    let number : c.number_of-number.result ≡ number_of f (block_at f.blocks k).cond = c.number_of-number.ensures ∙ ap (λ (b : Block). number_of f b.cond) is in
    let low : c.number_of-number.result < length c.loop-place.last.items =
    omega (arith, number, number_low f (block_at f.blocks k).cond (c.requires.prepared.bounded.formed.names_conditions k within), c.loop-place.invariant.count, c.requires.count)
    in
    let steps = c.args.blocks.now in
    let at : c.at.result ≡ get_or steps (suc k) 0 = c.at.ensures ∙ ap (λ j. get_or steps j 0) (add-one k) in
    record {
      count = ap (λ (l : List ℕ). length l) c.note_one.ensures ∙ length-set _ _ _ ∙ c.loop-place.invariant.count;
      last = λ n lt.
          let start = get_or c.args.last.now.items n 0 in
          ap (λ (l : List ℕ). get_or l n 0) c.note_one.ensures
          ∙ condition_noted f n k c.number_of-number.result c.at.result start steps c.loop-place.last.items low number at (c.loop-place.invariant.last n lt)
          ∙ ap (λ m. max start (greatest_below (suc m) (is_condition_of f n) steps)) (sym (add-one k));
    }

pub returns-clause-last : goal.returns-clause-last
returns-clause-last c n lt =
    let f = program_of c.args.whole.now.flat in
    let end : suc c.loop-place.place ≡ length c.args.blocks.now =
    omega (arith, c.loop-place.auto.place-end, c.loop-place-test.false, c.requires.blocks, ap (λ (l : List Block). length l) c.as_slice-block-items.ensures)
    in
    c.loop-place.invariant.last n lt ∙ ap (λ m. max (get_or c.args.last.now.items n 0) (greatest_below m (is_condition_of f n) c.args.blocks.now)) end
