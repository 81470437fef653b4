use Rattle.std.proofs.Common.{◌++◌, List, ℕ, map, ap, ◌∙◌}
use Rattle.flat_ir.specs.declared.program.FieldValue.{FieldValue}
use Rattle.flat_ir.specs.Program.{program_of}
use Rattle.split_model.specs.declared.layout.Crossing.{Crossing}
use Rattle.split_model.specs.Passes.{server_fields}
use Rattle.server_runtime.specs.Spans.{numbers_of}
use Rattle.server_runtime.proofs.Listed.{kept_numbers}
use Rattle.server_runtime.proofs.allocation.numbers_kept.Goals as goal

pub returns : goal.returns
returns c =
    let f = program_of c.args.whole.now.flat in
    let split = c.args.whole.now.split in
    let layout = c.args.whole.now.down in
    let more = numbers_of f (map (λ (w : FieldValue). w.value) (server_fields f split)) in
    c.in_ok-push_written.ensures
    ∙ ap (λ (l : List ℕ). l ++ more) (c.in_ok-push_layout.ensures ∙ ap (λ (l : List ℕ). l ++ map (λ (x : Crossing). x.number) layout) c.new-numbers.ensures.items)
    ∙ kept_numbers f split layout c.requires.prepared.down
