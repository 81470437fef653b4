use Rattle.std.proofs.Common.{◌≡◌, ◌<◌, ◌≤◌, ◌∙◌, Some, refl, sym, subst, ap, arith, length}
use Rattle.std.specs.Prelude.{slice_get, remove}
use Rattle.output_commit.specs.Kept.{batches_in}
use Rattle.std.proofs.lemmas.Option.{slice_get-get_or, same_Some}
use Rattle.output_commit.specs.Commit.{Commit}
use Rattle.output_commit.proofs.KeptCommit.{after_goes, answer_goes}
use Rattle.output_commit.proofs.commit.Commit.release.Goals.{in-Some-remove, in-None}
use Rattle.output_commit.proofs.commit.Commit.release.Goals as goal

pub returns-clause-answer : goal.returns-clause-answer
returns-clause-answer c = elim c.match-remove.branch [
  | in-Some-remove w ↦
      let held = c.self.inside.held in
      let o = w.in-Some-remove.output in
      let lt = w.in-Some-remove.ensures.variant.0 refl in
      let within : c.args.j < length held.items = omega (arith, lt, held.ok.0) in
      let here : slice_get held.items c.args.j ≡ Some o = slice_get-get_or held.items c.args.j o within ∙ ap (λ x. Some x) (sym w.in-Some-remove.ensures.value) in
      let got : slice_get held.items c.args.j ≡ Some c.in-Some.output.now =
      slice_get-get_or held.items c.args.j c.in-Some.output.now within ∙ ap (λ x. Some x) (sym c.in-Some.ensures.lookup) in
      let same : c.in-Some.output.now ≡ o = same_Some _ _ (sym got ∙ here) in
      let low = subst (λ x. x.need ≤ c.acknowledged-acknowledged.result) same c.if-acknowledged-output.false in
      w.result-is ∙ sym (answer_goes c.args.self.now c.args.j o (ap (λ k. slice_get k.held c.args.j) (sym c.self.view_is) ∙ here) (omega (arith, low, c.acknowledged-acknowledged.ensures)))
  | in-None w ↦ grind arith
]

pub returns-clause-after : goal.returns-clause-after
returns-clause-after c = elim c.match-remove.branch [
  | in-Some-remove w ↦
      let i = c.self.inside in
      let held = c.self.inside.held in
      let o = w.in-Some-remove.output in
      let lt = w.in-Some-remove.ensures.variant.0 refl in
      let within : c.args.j < length held.items = omega (arith, lt, held.ok.0) in
      let here : slice_get held.items c.args.j ≡ Some o = slice_get-get_or held.items c.args.j o within ∙ ap (λ x. Some x) (sym w.in-Some-remove.ensures.value) in
      let got : slice_get held.items c.args.j ≡ Some c.in-Some.output.now =
      slice_get-get_or held.items c.args.j c.in-Some.output.now within ∙ ap (λ x. Some x) (sym c.in-Some.ensures.lookup) in
      let same : c.in-Some.output.now ≡ o = same_Some _ _ (sym got ∙ here) in
      let low = subst (λ x. x.need ≤ c.acknowledged-acknowledged.result) same c.if-acknowledged-output.false in
      let left : c.remove.new.self.items ≡ remove held.items c.args.j = w.in-Some-remove.ensures.items in
      (λ k. record { writeback = i.writeback; batches = batches_in i.batches; sent = i.sent; done = i.done; acked = i.acked; held = left k })
      ∙ ap (λ (v : Commit). record v { held = remove v.held c.args.j }) c.self.view_is
      ∙ sym (after_goes c.args.self.now c.args.j o (ap (λ k. slice_get k.held c.args.j) (sym c.self.view_is) ∙ here) (omega (arith, low, c.acknowledged-acknowledged.ensures)))
  | in-None w ↦ grind arith
]
