use Rattle.std.proofs.Common.{◌∙◌, ◌++◌, ◌<◌, ◌^◌, map, ap, sym, append_assoc}
use Rattle.std.proofs.lemmas.List.{map-append}
use Rattle.switch_ir.specs.LastReads.{noted}
use Rattle.switch_ir.specs.Passes.{pass_of}
use Rattle.switch_ir.specs.Spans.{Written, handed_in, written_by, last_read, span_of}
use Rattle.switch_ir.proofs.PassSteps.{each_parts, spans_same}
use Rattle.switch_ir.proofs.spans.spans_of.Goals as goal

pub push_steps-requires : goal.push_steps-requires
push_steps-requires c =
    let pass = pass_of c.args.pass.now in
    let tables = c.args.tables.now in
    let parts = each_parts (λ (w : Written). w.number < 2 ^ 32) (handed_in c.args.handed.now) (written_by tables pass.given ++ written_by tables pass.steps) c.requires.numbers in
    (each_parts (λ (w : Written). w.number < 2 ^ 32) (written_by tables pass.given) (written_by tables pass.steps) parts.1).0

pub push_steps-requires-2 : goal.push_steps-requires-2
push_steps-requires-2 c =
    let pass = pass_of c.args.pass.now in
    let tables = c.args.tables.now in
    let parts = each_parts (λ (w : Written). w.number < 2 ^ 32) (handed_in c.args.handed.now) (written_by tables pass.given ++ written_by tables pass.steps) c.requires.numbers in
    (each_parts (λ (w : Written). w.number < 2 ^ 32) (written_by tables pass.given) (written_by tables pass.steps) parts.1).1

pub returns : goal.returns
returns c =
    let pass = pass_of c.args.pass.now in
    let handed = handed_in c.args.handed.now in
    let given = written_by c.args.tables.now pass.given in
    let steps = written_by c.args.tables.now pass.steps in
    let reads = noted c.in_ok-last.last in
    c.in_ok-push_steps-2.ensures
    ∙ ap (λ l. l ++ map (span_of reads) steps)
    (c.in_ok-push_steps.ensures ∙ ap (λ l. l ++ map (span_of reads) given) (c.in_ok-push_handed.ensures ∙ ap (λ l. l ++ map (span_of reads) handed) c.new-spans.ensures))
    ∙ append_assoc (map (span_of reads) handed) (map (span_of reads) given) (map (span_of reads) steps)
    ∙ ap (λ l. map (span_of reads) handed ++ l) (sym (map-append (span_of reads) given steps))
    ∙ sym (map-append (span_of reads) handed (given ++ steps))
    ∙ spans_same c.args.instructions (last_read c.args.up.now pass) c.in_ok-last.last c.in_ok-last.ensures (handed ++ (given ++ steps)) c.requires.inside
