use Rattle.std.proofs.Common.{◌≡◌, ◌∙◌, ◌++◌, List, ap, append-nil, append_assoc, arith, map, sym, true}
use Rattle.std.proofs.lemmas.Grind.{common_steps}
use Rattle.run_model.specs.declared.event.Event.{Event}
use Rattle.gal_io.specs.Lines.{lined}
use Rattle.run_text.specs.Printed.{drain_lines, event_text, fine_lines}
use Rattle.run_text.specs.Trace.{schedule_of}
use Rattle.run_text.proofs.PrintedBack.{schedule_back}
use Rattle.run_text.proofs.schedule.print_schedule.Goals as goal
use Rattle.run_text.proofs.schedule.print_schedule.Goals.{then-plan+in_ok-extend, else-plan, then-plan-2+in_ok-extend-2, else-plan-2}

begun : (c : goal.Joined-plan-2) → c.if-plan.text ≡ lined (fine_lines c.args.plan.now.fine)
begun c = elim c.if-plan.branch [
  | then-plan+in_ok-extend w ↦ rw w.if-plan.true (grind (arith, common_steps))
  | else-plan w ↦ rw w.if-plan.false (grind (arith, common_steps))
]

gone_on : (c : goal.Joined-plan-2) → c.put_events.new.text ≡ c.if-plan.text ++ lined (map event_text c.args.plan.now.events)
gone_on c = c.in_ok-put_events.ensures.text ∙ ap (λ (es : List Event). c.if-plan.text ++ lined (map event_text es)) c.as_slice.ensures

ended : (c : goal.Joined-plan-2) → c.if-plan-2.text ≡ c.if-plan.text ++ (lined (map event_text c.args.plan.now.events) ++ lined (drain_lines c.args.plan.now.drain))
ended c =
    let events = lined (map event_text c.args.plan.now.events) in
    elim c.if-plan-2.branch [
      | then-plan-2+in_ok-extend-2 w ↦ rw w.if-plan-2.true
          (w.text-is ∙ w.in_ok-extend-2.ensures.ok ∙ ap (λ text. text ++ lined (drain_lines true)) (gone_on c) ∙ append_assoc c.if-plan.text events (lined (drain_lines true)))
      | else-plan-2 w ↦ rw w.if-plan-2.false (w.text-is ∙ gone_on c ∙ sym (ap (λ text. c.if-plan.text ++ text) (append-nil events)))
    ]

pub returns-clause-back : goal.returns-clause-back
returns-clause-back c few =
    let events = rw c.as_slice.ensures at c.in_ok-put_events.ensures.back in
    ap schedule_of (ended c ∙ ap (λ text. text ++ (lined (map event_text c.args.plan.now.events) ++ lined (drain_lines c.args.plan.now.drain))) (begun c))
    ∙ schedule_back c.args.plan.now events few
