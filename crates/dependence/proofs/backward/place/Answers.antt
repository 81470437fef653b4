use Rattle.std.proofs.Common.{◌≡◌, ◌<◌, ◌∙◌, ◌&&◌, false, length, subst, sym}
use Rattle.flat_ir.specs.Program.{program_of, step_of}
use Rattle.dependence.proofs.PlacedCode.{placed, here}
use Rattle.dependence.proofs.PostSets.{may, enters, take_one, leave_out}
use Rattle.dependence.proofs.backward.place.Goals.{else-may-via-then-may+else-enters_post, else-may-via-else-may}
use Rattle.std.proofs.lemmas.Bool.{and_left, and_right}
use Rattle.dependence.proofs.backward.place.Goals as goal

pub returns-then-enters_post : goal.returns-then-enters_post
returns-then-enters_post c =
    let at = here c.args.f.now c.as_slice.result.now c.args.i c.index-as_slice-i.result c.as_slice.ensures (subst (λ l. c.args.i < length l) (sym c.as_slice.ensures) c.requires.inside) c.index-as_slice-i.is in
    rw c.set.ensures (take_one (program_of c.args.f.now) c.args.uses.now c.args.guards.now c.args.carried.now c.args.i (step_of c.index-as_slice-i.result) c.args.post.now c.requires.uses c.requires.guards at
    (sym c.may_be_post-may.ensures ∙ c.if-may.true) (sym c.enters_post.ensures ∙ c.if-enters_post.true) c.requires.from)

pub returns-else-may : goal.returns-else-may
returns-else-may c =
    let at = here c.args.f.now c.as_slice.result.now c.args.i c.index-as_slice-i.result c.as_slice.ensures (subst (λ l. c.args.i < length l) (sym c.as_slice.ensures) c.requires.inside) c.index-as_slice-i.is in
    let fits = may (program_of c.args.f.now) (step_of c.index-as_slice-i.result) in
    let goes = enters c.args.uses.now c.args.guards.now c.args.carried.now c.args.post.now c.args.i in
    let out : (fits && goes) ≡ false = elim c.else-may.branch [
      | else-may-via-then-may+else-enters_post w ↦ and_right fits goes (sym w.enters_post.ensures ∙ w.if-enters_post.false)
      | else-may-via-else-may w ↦ and_left fits goes (sym c.may_be_post-may.ensures ∙ w.if-may.false)
    ] in
    leave_out (program_of c.args.f.now) c.args.uses.now c.args.guards.now c.args.carried.now c.args.i (step_of c.index-as_slice-i.result) c.args.post.now (placed (program_of c.args.f.now) c.requires.formed) c.requires.uses c.requires.guards at out c.requires.from
