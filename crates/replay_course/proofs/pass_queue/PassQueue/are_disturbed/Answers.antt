use Rattle.std.proofs.Common.{◌≡◌, false, true, ◌&&◌, nat_lt, refl, ◌∙◌}
use Rattle.std.proofs.lemmas.Bool.{le-ltb}
use Rattle.writeback_table.specs.Views.{disturbs}
use Rattle.replay_course.proofs.DisturbedPasses.{by_two_tests, first_fails, first_holds, there_are, there_are_none}
use Rattle.replay_course.proofs.pass_queue.PassQueue.are_disturbed.Goals as goal
use Rattle.replay_course.proofs.pass_queue.PassQueue.are_disturbed.Goals.{then-self-len, else-self-len}

pub returns-then-disturbs : goal.returns-then-disturbs
returns-then-disturbs c =
    let me = c.self.inside in
    let command = c.args.command.now in
    let clear : c.if-self-len.value ≡ (nat_lt me.with_bit c.len.result && disturbs false command) = elim c.if-self-len.branch [
      | then-self-len w ↦ w.value-is ∙ (w.disturbs.ensures ∙ there_are me.with_bit c.len.result (disturbs false command) w.if-self-len.true)
      | else-self-len w ↦
          w.value-is
          ∙ (le-ltb me.with_bit c.len.result w.if-self-len.false ∙ there_are_none me.with_bit c.len.result (disturbs false command) w.if-self-len.false)
    ] in
    by_two_tests command me.passes.items c.args.self.now me.with_bit c.len.result c.if-self-len.value (nat_lt 0 me.with_bit && disturbs true command)
    c.if-self-len.value c.self.view_is c.self.invariant (c.len.ensures ∙ me.passes.ok.0) clear refl
    (first_holds c.if-self-len.value (nat_lt 0 me.with_bit && disturbs true command) c.if-disturbs.true)

pub returns-then-self-gt0 : goal.returns-then-self-gt0
returns-then-self-gt0 c =
    let me = c.self.inside in
    let command = c.args.command.now in
    let clear : c.if-self-len.value ≡ (nat_lt me.with_bit c.len.result && disturbs false command) = elim c.if-self-len.branch [
      | then-self-len w ↦ w.value-is ∙ (w.disturbs.ensures ∙ there_are me.with_bit c.len.result (disturbs false command) w.if-self-len.true)
      | else-self-len w ↦
          w.value-is
          ∙ (le-ltb me.with_bit c.len.result w.if-self-len.false ∙ there_are_none me.with_bit c.len.result (disturbs false command) w.if-self-len.false)
    ] in
    by_two_tests command me.passes.items c.args.self.now me.with_bit c.len.result c.if-self-len.value c.disturbs-then-self-gt0.result
    c.disturbs-then-self-gt0.result c.self.view_is c.self.invariant (c.len.ensures ∙ me.passes.ok.0) clear (c.disturbs-then-self-gt0.ensures ∙ there_are 0 me.with_bit (disturbs true command) c.if-self-gt0.true)
    (first_fails c.if-self-len.value c.disturbs-then-self-gt0.result c.if-disturbs.false)

pub returns-else-self-gt0 : goal.returns-else-self-gt0
returns-else-self-gt0 c =
    let me = c.self.inside in
    let command = c.args.command.now in
    let clear : c.if-self-len.value ≡ (nat_lt me.with_bit c.len.result && disturbs false command) = elim c.if-self-len.branch [
      | then-self-len w ↦ w.value-is ∙ (w.disturbs.ensures ∙ there_are me.with_bit c.len.result (disturbs false command) w.if-self-len.true)
      | else-self-len w ↦
          w.value-is
          ∙ (le-ltb me.with_bit c.len.result w.if-self-len.false ∙ there_are_none me.with_bit c.len.result (disturbs false command) w.if-self-len.false)
    ] in
    by_two_tests command me.passes.items c.args.self.now me.with_bit c.len.result c.if-self-len.value false
    (nat_lt 0 me.with_bit) c.self.view_is c.self.invariant (c.len.ensures ∙ me.passes.ok.0) clear (there_are_none 0 me.with_bit (disturbs true command) c.if-self-gt0.false)
    (le-ltb 0 me.with_bit c.if-self-gt0.false ∙ first_fails c.if-self-len.value false c.if-disturbs.false)
