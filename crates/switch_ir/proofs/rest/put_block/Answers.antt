use Rattle.std.proofs.Common.{◌+◌, true, false, ap, sym, subst, ◌∙◌, arith, length, slice_set}
use Rattle.std.specs.Prelude.{slice_index_or, not, ◌&&◌}
use Rattle.flat_ir.specs.Program.{program_of}
use Rattle.split_model.specs.Split.{is_pre}
use Rattle.switch_ir.specs.Emitting.{AreMarks}
use Rattle.switch_ir.proofs.Places.{block_is, block_below}
use Rattle.switch_ir.proofs.Marks.{more_marked, rest_more}
use Rattle.switch_ir.proofs.rest.put_block.Goals as goal

pub is_new-requires : goal.is_new-requires
is_new-requires c =
    let below = block_below c.args.f.now c.as_slice.result.now c.args.i c.index-as_slice-i.result c.requires.formed c.as_slice.ensures c.requires.within c.index-as_slice-i.is in
    omega (arith, below, ap length c.deref.ensures.value, c.requires.marks.count)

pub index_mut-requires : goal.index_mut-requires
index_mut-requires c =
    let below = block_below c.args.f.now c.as_slice.result.now c.args.i c.index-as_slice-i.result c.requires.formed c.as_slice.ensures c.requires.within c.index-as_slice-i.is in
    omega (arith, below, ap length c.deref.ensures.value, c.deref.ensures.len, c.requires.marks.count)

pub returns-in_ok-push-clause-rest : goal.returns-in_ok-push-clause-rest
returns-in_ok-push-clause-rest c =
    let f = c.args.f.now in
    let code = c.as_slice.result.now in
    let one = c.index-as_slice-i.result in
    let block = (slice_index_or code c.args.i one).block in
    c.in_ok-push.ensures.items
    ∙ rest_more (program_of f) c.args.s.now c.args.i block (length f.blocks + 1) c.args.rest.now.items c.args.marks.now.items true
    (block_is f code c.args.i one c.as_slice.ensures c.requires.within c.index-as_slice-i.is)
    (block_below f code c.args.i one c.requires.formed c.as_slice.ensures c.requires.within c.index-as_slice-i.is)
    c.requires.marks c.requires.so_far
    (sym c.if-is_new.true ∙ c.is_new.ensures ∙ ap (λ marks. not (is_pre c.args.s.now c.args.i) && not (slice_index_or marks block false)) c.deref.ensures.value)

pub returns-in_ok-push-clause-marks : goal.returns-in_ok-push-clause-marks
returns-in_ok-push-clause-marks c =
    let f = c.args.f.now in
    let code = c.as_slice.result.now in
    let one = c.index-as_slice-i.result in
    let block = (slice_index_or code c.args.i one).block in
    let marks = c.args.marks.now.items in
    subst (λ blocks. AreMarks (length f.blocks + 1) blocks (slice_set marks block true)) (sym c.in_ok-push.ensures.items)
    (more_marked (length f.blocks + 1) c.args.rest.now.items marks block c.requires.marks
    (block_below f code c.args.i one c.requires.formed c.as_slice.ensures c.requires.within c.index-as_slice-i.is))

pub returns-else-is_new-clause-rest : goal.returns-else-is_new-clause-rest
returns-else-is_new-clause-rest c =
    let f = c.args.f.now in
    let code = c.as_slice.result.now in
    let one = c.index-as_slice-i.result in
    let block = (slice_index_or code c.args.i one).block in
    rest_more (program_of f) c.args.s.now c.args.i block (length f.blocks + 1) c.args.rest.now.items c.args.marks.now.items false
    (block_is f code c.args.i one c.as_slice.ensures c.requires.within c.index-as_slice-i.is)
    (block_below f code c.args.i one c.requires.formed c.as_slice.ensures c.requires.within c.index-as_slice-i.is)
    c.requires.marks c.requires.so_far
    (sym c.if-is_new.false ∙ c.is_new.ensures ∙ ap (λ marks. not (is_pre c.args.s.now c.args.i) && not (slice_index_or marks block false)) c.deref.ensures.value)
