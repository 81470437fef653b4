use Rattle.std.proofs.Common.{◌≡◌, ◌++◌, true, List, length, map, get_or, take, sym, ap, ◌∙◌, subst, arith}
use Rattle.std.proofs.lemmas.List.Elements.{All-from_recursion}
use Rattle.std.proofs.Math.Seq.{take-length}
use Rattle.packet_fields.specs.declared.field.Field.TheVariants.{MetaPort}
use Rattle.flat_ir.specs.declared.program.FieldValue.{FieldValue}
use Rattle.flat_ir.specs.Program.{is_named, program_of}
use Rattle.split_model.specs.Passes.{server_fields}
use Rattle.server_runtime.specs.Spans.{numbers_of}
use Rattle.server_runtime.proofs.Listed.{written_named}
use Rattle.server_runtime.proofs.allocation.push_written.Goals as goal

pub number_of-requires-clause-named : goal.number_of-requires-clause-named
number_of-requires-clause-named c =
    let f = program_of c.args.whole.now.flat in
    let split = c.args.whole.now.split in
    let i = c.loop-written.written-index in
    let d : FieldValue = record { field = MetaPort; value = record { instruction = 0; result = 0 } } in
    let same = c.deref-written-items.ensures.value ∙ c.requires.prepared.fields in
    subst (λ (ws : List FieldValue). is_named f (get_or ws i d).value ≡ true) (sym same)
    (All-from_recursion (λ (w : FieldValue). is_named f w.value ≡ true) (server_fields f split) (written_named f split f.fields c.requires.prepared.bounded.formed.fields) i d
    (omega (arith, c.loop-written-test.true, ap length same)))

pub returns : goal.returns
returns c =
    let f = program_of c.args.whole.now.flat in
    let items = c.args.whole.now.fields.items in
    let end : c.loop-written.written-index ≡ length items = omega (arith, c.loop-written.auto.written-index-end, c.loop-written-test.false, ap length c.deref-written-items.ensures.value) in
    c.loop-written.invariant
    ∙ ap (λ (ws : List FieldValue). c.args.numbers.now.items ++ numbers_of f (map (λ (w : FieldValue). w.value) ws)) (ap (λ n. take n items) end ∙ take-length items ∙ c.requires.prepared.fields)
