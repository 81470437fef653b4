use Rattle.std.proofs.Common.{◌≡◌, ◌+◌, ◌&&◌, ◌∙◌, false, List, Bool, add-one, arith, ap, get_or, set, length-set, ℕ, suc, ◌<◌, ◌≤◌, true, length}
use Rattle.std.proofs.Common.{get_or-set_other, get_or-set_same, sym, subst, ⊎_elim}
use Rattle.flat_ir.specs.declared.program.Block.{Block}
use Rattle.flat_ir.specs.Blocks.{is_on, same, Reading, block_at, is_live, HasLowParents}
use Rattle.std.proofs.lemmas.Bool.{cases_lt}
use Rattle.std.proofs.lemmas.List.{get_or_default}
use Rattle.flat_ir.proofs.Laws.{lines_of_blocks-live}
use Rattle.switch_machine.proofs.live.mark_live.Goals as goal

-- one block more has a mark
one_more_live : (blocks : List Block) (reads : Reading) (k : ℕ) (marks after : List Bool) (d : Block) (live : Bool)
    → HasLowParents blocks
    → k < length blocks → suc k < length marks → after ≡ set marks (suc k) live
    → live ≡ (same (get_or blocks k d).polarity (is_on (reads (get_or blocks k d).cond)) && get_or marks (get_or blocks k d).parent false)
    → ((b : ℕ) → b ≤ k → get_or marks b false ≡ is_live blocks reads b)
    → (b : ℕ) → b ≤ k + 1 → get_or after b false ≡ is_live blocks reads b
one_more_live blocks reads k marks after d live low within count more own so_far b le =
    ap (λ ms. get_or ms b false) more
    ∙ ⊎_elim
    (λ lt. get_or-set_other marks (suc k) b live false (omega (arith, lt)) ∙ so_far b (omega (arith, lt)))
    (λ ge.
    let last : b ≡ suc k = omega (arith, ge, le) in
    ap (λ n. get_or (set marks n live) b false) (sym last) ∙ get_or-set_same marks b live false (omega (arith, count, last)) ∙ own
    ∙ ap (λ m. same (get_or blocks k d).polarity (is_on (reads (get_or blocks k d).cond)) && m) (so_far (get_or blocks k d).parent parent)
    ∙ ap (λ (x : Block). same x.polarity (is_on (reads x.cond)) && is_live blocks reads x.parent) (sym here)
    ∙ sym (lines_of_blocks-live blocks reads k low)
    ∙ ap (is_live blocks reads) (sym last))
    (cases_lt b (suc k))
  where
    here : block_at blocks k ≡ get_or blocks k d
    here = get_or_default blocks k (record { parent = 0; cond = record { instruction = 0; result = 0 }; polarity = true }) d within

    parent : (get_or blocks k d).parent ≤ k
    parent = subst (λ (x : Block). x.parent ≤ k) here (low k within)

pub loop-index-preserved : goal.loop-index-preserved
loop-index-preserved g c =
    let reads = g.R.Numbers.reads c.args.numbers.now in
    let blocks = c.args.blocks.now in
    let marks = c.loop-index.marks.items in
    let k = c.loop-index.index in
    let d : Block = record { parent = 0; cond = record { instruction = 0; result = 0 }; polarity = false } in
    let live = c.is_live_below-live.result in
    let one : Block = get_or blocks k d in
    let own : live ≡ (same one.polarity (is_on (reads one.cond)) && get_or marks one.parent false) =
    c.is_live_below-live.ensures ∙ ap (λ (ms : List Bool). same one.polarity (is_on (reads one.cond)) && get_or ms one.parent false) c.as_slice.ensures.value in
    record {
      count = length-set marks (k + 1) live ∙ c.loop-index.invariant.count;
      exact = one_more_live blocks reads k marks (set marks (k + 1) live) d live c.requires.parents c.loop-index-test.true
          (omega (arith, c.loop-index-test.true, c.loop-index.invariant.count)) (ap (λ n. set marks n live) (add-one k)) own c.loop-index.invariant.exact;
    }
