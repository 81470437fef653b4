use Rattle.std.proofs.Common.{◌≡◌, ◌∙◌, ap, sym, refl, List, length}
use Rattle.state_store.specs.declared.object.ObjectDecl.{ObjectDecl}
use Rattle.flat_ir.specs.Program.{program_of}
use Rattle.split_model.specs.Counts.{accesses, writes, table_bits}
use Rattle.resource_limits.specs.Counts.{each_object, first_numbers}
use Rattle.resource_limits.specs.Uses.{told_at}
use Rattle.resource_limits.proofs.Shown.{accesses_are, writes_are}
use Rattle.resource_limits.proofs.counting.count_by_guards.Goals as goal

pub returns : goal.returns
returns c =
    let f = program_of c.args.f.now in
    let split = c.args.s.now in
    let before = c.in_ok-before.ensures.exact in
    let after = c.in_ok-after.ensures.exact in
    let changes = c.in_ok-changes.ensures.exact in
    let looks : c.in_ok-sums.field-0 ≡ each_object f (accesses f split) =
    c.in_ok-sums.ensures ∙ accesses_are f split c.deref.result.now c.deref-2.result.now
    (c.deref.ensures.value ∙ before) (c.deref-2.ensures.value ∙ after) in
    let bits : c.table_bits.result ≡ table_bits f split c.args.writeback =
    c.table_bits.ensures f split (sym c.as_slice-objects.ensures) (c.deref-3.ensures.value ∙ before) (c.deref-4.ensures.value ∙ after) in
    let told : c.in_ok-told.field-0 ≡ each_object f (writes f split) =
    c.in_ok-told.ensures
    ∙ ap (λ (ds : List ObjectDecl). first_numbers (length ds) (λ o. told_at ds c.deref-5.result.now c.deref-6.result.now o)) c.as_slice-objects.ensures
    ∙ writes_are f split c.deref-5.result.now c.deref-6.result.now
    (c.deref-5.ensures.value ∙ before) (c.deref-6.ensures.value ∙ changes) in
    rw (looks, c.stages.ensures, bits, told, c.in_ok-transfer_bytes.ensures) refl
