use Rattle.std.proofs.Common.{◌≡◌, subst, sym, arith}
use Rattle.flat_ir.specs.Program.{program_of}
use Rattle.split_model.specs.Layouts.{up_layout}
use Rattle.transfer_header.specs.declared.frame.Head.{Head}
use Rattle.transfer_header.specs.Frames.{IsUnpacked}
use Rattle.transfer_header.specs.Registers.{FitsLayout}
use Rattle.server_runtime.specs.Registers.{AreServing}
use Rattle.server_runtime.specs.Resolved.{AreResolved}
use Rattle.server_runtime.specs.StepsTaken.{IsRead}
use Rattle.server_runtime.proofs.Handed.{by_result, ok_more}
use Rattle.server_runtime.proofs.Needed.{cleared_serving, still_serving}
use Rattle.server_runtime.proofs.ByPlaces.{planned_resolved, still_resolved}
use Rattle.server_runtime.proofs.Laws.{a_frame_is_read-fits, a_frame_is_read-read}
use Rattle.server_runtime.proofs.run.read.Goals as goal

pub unpack_up-requires : goal.unpack_up-requires
unpack_up-requires c =
    let f = program_of c.args.whole.now.flat in
    subst (λ l. FitsLayout l c.clear.new.self) (sym c.requires.prepared.up)
    (a_frame_is_read-fits f c.args.whole.now.split c.clear.new.self c.requires.prepared.bounded.formed
    (cleared_serving f c.args.whole.now.split c.args.values.now c.clear.new.self c.clear.ensures.plan c.clear.ensures.numbers c.requires.serving))

pub returns-clause-ok : goal.returns-clause-ok
returns-clause-ok c =
    let f = program_of c.args.whole.now.flat in
    let split = c.args.whole.now.split in
    let frame = c.args.frame.now in
    let before = c.clear.new.self in
    let after = c.unpack_up.new.into in
    let cleared = cleared_serving f split c.args.values.now before c.clear.ensures.plan c.clear.ensures.numbers c.requires.serving in
    ok_more (λ (head : Head). IsUnpacked 1 c.args.whole.now.up frame before after head) (IsRead f split frame after)
    (λ head h.
    let here : IsUnpacked 1 (up_layout f split) frame before after head = subst (λ l. IsUnpacked 1 l frame before after head) c.requires.prepared.up h in
    a_frame_is_read-read f split frame before after head c.requires.prepared.bounded.formed
    (still_serving f split before after here.kept.plan here.kept.count cleared) (λ i. omega (arith, c.type_inv.frame i)) here)
    c.unpack_up.result c.unpack_up.ensures.ok

pub returns-clause-serving : goal.returns-clause-serving
returns-clause-serving c =
    let f = program_of c.args.whole.now.flat in
    let split = c.args.whole.now.split in
    let before = c.clear.new.self in
    let after = c.unpack_up.new.into in
    let cleared = cleared_serving f split c.args.values.now before c.clear.ensures.plan c.clear.ensures.numbers c.requires.serving in
    by_result (λ (head : Head). IsUnpacked 1 c.args.whole.now.up c.args.frame.now before after head) (after ≡ before) (AreServing f split after)
    (λ head h. still_serving f split before after h.kept.plan h.kept.count cleared) (λ e. subst (AreServing f split) (sym e) cleared)
    c.unpack_up.result c.unpack_up.ensures.ok c.unpack_up.ensures.kept

pub returns-clause-resolved : goal.returns-clause-resolved
returns-clause-resolved c =
    let whole = c.args.whole.now in
    let f = program_of whole.flat in
    let seats = whole.seats.items in
    let steps = whole.steps.items in
    let before = c.clear.new.self in
    let after = c.unpack_up.new.into in
    let cleared = still_resolved f c.args.values.now before c.clear.ensures.places seats steps c.requires.resolved in
    by_result (λ (head : Head). IsUnpacked 1 whole.up c.args.frame.now before after head) (after ≡ before) (AreResolved f seats steps after)
    (λ head h. planned_resolved f seats steps before after h.kept.plan h.kept.count cleared) (λ e. subst (AreResolved f seats steps) (sym e) cleared)
    c.unpack_up.result c.unpack_up.ensures.ok c.unpack_up.ensures.kept
