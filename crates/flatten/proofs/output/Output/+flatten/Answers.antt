use Rattle.std.proofs.Common.{◌≡◌, ℕ, List, ◌+◌, ◌-◌, drop, sym, ap, ◌∙◌, subst, if◌then◌else◌, Bool, true, rules, [], length}
use Rattle.element_lang.specs.View.{expr_tree, stmt_tree, body_tree}
use Rattle.flatten.specs.Flatten as pure
use Rattle.flatten.specs.Sized.{IsSizedBody}
use Rattle.flatten.specs.Journal.{before}
use Rattle.flatten.specs.Open.{closed, outermost}
use Rattle.flatten.specs.Pending.{placed, valued, rest_at}
use Rattle.flatten.specs.Over.{IsOver}
use Rattle.flatten.specs.Tracked.{started}
use Rattle.flatten.proofs.Growth.{first_over, second_over, turns_grow, body_grows}
use Rattle.flatten.proofs.Steps.{order_step, order_over, as_wide}
use Rattle.flatten.proofs.Branches.{split_at, turns_split, choice_made}
use Rattle.flatten.proofs.Trees.{tree_if, tree_repeat}
use Rattle.element_lang.specs.Rules.{is_empty}
use Rattle.flatten.proofs.output.Output.+flatten.Goals as goal

-- this turn and those that follow
abbrev all_turns : List ℕ → pure.Flattener → ℕ → ℕ → ℕ → pure.Flattener
all_turns ws go count i x p g w =
    let r = pure.flat_turn i x go p g w in
    pure.flat_turns ws (count - (i + 1)) (i + 1) x go p r.given r.view

pub body-loop-s-preserved : goal.body-loop-s-preserved
body-loop-s-preserved t c =
    let ws = c.args.frame.now.locals.items in
    let l = c.loop-s in
    let n = c.goes_on.new in
    let u = c.stmt.new.w in
    let split = split_at c.args.body.now l.s-index c.s-item.result c.loop-s-test.true c.s-item.is in
    let rest = drop (l.s-index + 1) c.args.body.now in
    let told = subst (λ b. closed ws l.stretch.pending.items (started l.w) (pure.flat_body ws (body_tree b) l.stretch.place l.self l.w.state) ≡ pure.flat_body ws (body_tree c.args.body.now) c.args.place c.args.self.now c.args.w.now.state) split l.invariant.told in
    let sized = subst (λ b. IsSizedBody ws (body_tree b)) split l.invariant.sized in
    let same = c.in_ok-stmt.ensures.start in
    record {
      told = ap (λ s. closed ws n.stretch.pending.items s (pure.flat_body ws (body_tree rest) n.stretch.place c.stmt.new.self u.state)) same
          ∙ order_step ws (pure.flat_stmt ws (stmt_tree c.s-item.result)) (pure.flat_body ws (body_tree rest)) l.stretch.pending.items n.stretch.pending.items (started l.w) (started n.w) l.stretch.place n.stretch.place l.self n.self l.w.state n.w.state (placed c.stmt.new.self u.state) _ told
          (λ widths go. subst (λ (b : Bool). closed widths n.stretch.pending.items (started n.w) (if b then go n.stretch.place n.self n.w.state else placed n.self n.w.state) ≡ closed widths l.stretch.pending.items (started l.w) (pure.go_on widths l.w.state.ended l.stretch.place go l.self l.w.state)) c.if-not-goes.false (c.in_ok-goes.ensures.told widths go))
          c.in_ok-stmt.ensures.ok;
      start = ap (outermost n.stretch.pending.items) same ∙ c.in_ok-goes.ensures.start ∙ l.invariant.start;
      wide = as_wide [] [] n.w u same ∙ c.in_ok-goes.ensures.wide ∙ l.invariant.wide;
      sized = sized.1;
      fields = l.invariant.fields;
    }

pub body-close-requires-clause-wide : goal.body-close-requires-clause-wide
body-close-requires-clause-wide t c = c.in_ok-goes.ensures.wide ∙ c.loop-s.invariant.wide

pub turns-turn-requires : goal.turns-turn-requires
turns-turn-requires t c =
    let wide : length c.goes_on.new.w.state.locals ≡ length c.args.frame.now.locals.items = c.in_ok-goes.ensures.wide ∙ c.loop-turn.invariant.wide in
    search (rules, wide)

pub turns-close-requires-clause-wide : goal.turns-close-requires-clause-wide
turns-close-requires-clause-wide t c = c.in_ok-goes.ensures.wide ∙ c.loop-turn.invariant.wide

pub turns-returns-then-not-goes-clause-ok : goal.turns-returns-then-not-goes-clause-ok
turns-returns-then-not-goes-clause-ok t c =
    let ws = c.args.frame.now.locals.items in
    let go = pure.flat_body ws (body_tree c.args.body.now) in
    let l = c.loop-turn in
    let n = c.goes_on.new in
    let i = l.turn in
    let split = turns_split ws c.args.count i c.args.index go l.stretch.place l.self l.w.state c.loop-turn-test.true in
    c.in_ok-close.ensures.told
    ∙ subst (λ (b : Bool). closed ws n.stretch.pending.items (started n.w) (if b then all_turns ws go c.args.count i c.args.index n.stretch.place n.self n.w.state else placed n.self n.w.state) ≡ closed ws l.stretch.pending.items (started l.w) (pure.go_on ws l.w.state.ended l.stretch.place (all_turns ws go c.args.count i c.args.index) l.self l.w.state))
    c.if-not-goes.true (c.in_ok-goes.ensures.told ws (all_turns ws go c.args.count i c.args.index))
    ∙ ap (closed ws l.stretch.pending.items (started l.w)) (sym split) ∙ l.invariant.told

pub turns-loop-turn-preserved : goal.turns-loop-turn-preserved
turns-loop-turn-preserved t c =
    let ws = c.args.frame.now.locals.items in
    let go = pure.flat_body ws (body_tree c.args.body.now) in
    let l = c.loop-turn in
    let n = c.goes_on.new in
    let u = c.turn.new.w in
    let i = l.turn in
    let split = turns_split ws c.args.count i c.args.index go l.stretch.place l.self l.w.state c.loop-turn-test.true in
    let same = c.in_ok-turn.ensures.start in
    record {
      told = ap (λ s. closed ws n.stretch.pending.items s (pure.flat_turns ws (c.args.count - (i + 1)) (i + 1) c.args.index go n.stretch.place c.turn.new.self u.state)) same
          ∙ order_step ws (pure.flat_turn i c.args.index go) (pure.flat_turns ws (c.args.count - (i + 1)) (i + 1) c.args.index go) l.stretch.pending.items n.stretch.pending.items (started l.w) (started n.w) l.stretch.place n.stretch.place l.self n.self l.w.state n.w.state (placed c.turn.new.self u.state) _
          (ap (closed ws l.stretch.pending.items (started l.w)) (sym split) ∙ l.invariant.told)
          (λ widths go. subst (λ (b : Bool). closed widths n.stretch.pending.items (started n.w) (if b then go n.stretch.place n.self n.w.state else placed n.self n.w.state) ≡ closed widths l.stretch.pending.items (started l.w) (pure.go_on widths l.w.state.ended l.stretch.place go l.self l.w.state)) c.if-not-goes.false (c.in_ok-goes.ensures.told widths go))
          c.in_ok-turn.ensures.ok;
      start = ap (outermost n.stretch.pending.items) same ∙ c.in_ok-goes.ensures.start ∙ l.invariant.start;
      wide = as_wide [] [] n.w u same ∙ c.in_ok-goes.ensures.wide ∙ l.invariant.wide;
      sized = l.invariant.sized;
      fields = l.invariant.fields;
    }

pub body-returns-in_err-stmt-clause-large : goal.body-returns-in_err-stmt-clause-large
body-returns-in_err-stmt-clause-large t c =
    let ws = c.args.frame.now.locals.items in
    let l = c.loop-s in
    let n = c.goes_on.new in
    let split = split_at c.args.body.now l.s-index c.s-item.result c.loop-s-test.true c.s-item.is in
    let rest = drop (l.s-index + 1) c.args.body.now in
    let told = subst (λ b. closed ws l.stretch.pending.items (started l.w) (pure.flat_body ws (body_tree b) l.stretch.place l.self l.w.state) ≡ pure.flat_body ws (body_tree c.args.body.now) c.args.place c.args.self.now c.args.w.now.state) split l.invariant.told in
    let over : IsOver (pure.flat_body ws (body_tree c.args.body.now) c.args.place c.args.self.now c.args.w.now.state).given c.in_err-stmt.field-0.0 =
    order_over ws (pure.flat_stmt ws (stmt_tree c.s-item.result)) (pure.flat_body ws (body_tree rest)) l.stretch.pending.items n.stretch.pending.items (started l.w) (started n.w) l.stretch.place n.stretch.place l.self n.self l.w.state n.w.state _ c.in_err-stmt.field-0.0
    (body_grows ws (body_tree rest)) told
    (λ widths go. subst (λ (b : Bool). closed widths n.stretch.pending.items (started n.w) (if b then go n.stretch.place n.self n.w.state else placed n.self n.w.state) ≡ closed widths l.stretch.pending.items (started l.w) (pure.go_on widths l.w.state.ended l.stretch.place go l.self l.w.state)) c.if-not-goes.false (c.in_ok-goes.ensures.told widths go))
    c.in_err-stmt.ensures.large in
    search (rules, over)

pub turns-returns-in_err-turn-clause-large : goal.turns-returns-in_err-turn-clause-large
turns-returns-in_err-turn-clause-large t c =
    let ws = c.args.frame.now.locals.items in
    let go = pure.flat_body ws (body_tree c.args.body.now) in
    let l = c.loop-turn in
    let n = c.goes_on.new in
    let i = l.turn in
    let split = turns_split ws c.args.count i c.args.index go l.stretch.place l.self l.w.state c.loop-turn-test.true in
    let over : IsOver (pure.flat_turns ws c.args.count 0 c.args.index go c.args.place c.args.self.now c.args.w.now.state).given c.in_err-turn.field-0.0 =
    order_over ws (pure.flat_turn i c.args.index go) (pure.flat_turns ws (c.args.count - (i + 1)) (i + 1) c.args.index go) l.stretch.pending.items n.stretch.pending.items (started l.w) (started n.w) l.stretch.place n.stretch.place l.self n.self l.w.state n.w.state _ c.in_err-turn.field-0.0
    (turns_grow ws (c.args.count - (i + 1)) (i + 1) c.args.index go (body_grows ws (body_tree c.args.body.now))) (ap (closed ws l.stretch.pending.items (started l.w)) (sym split) ∙ l.invariant.told)
    (λ widths go. subst (λ (b : Bool). closed widths n.stretch.pending.items (started n.w) (if b then go n.stretch.place n.self n.w.state else placed n.self n.w.state) ≡ closed widths l.stretch.pending.items (started l.w) (pure.go_on widths l.w.state.ended l.stretch.place go l.self l.w.state)) c.if-not-goes.false (c.in_ok-goes.ensures.told widths go))
    c.in_err-turn.ensures.large in
    search (rules, over)

pub turns-returns-in_err-close-clause-large : goal.turns-returns-in_err-close-clause-large
turns-returns-in_err-close-clause-large t c =
    let ws = c.args.frame.now.locals.items in
    let go = pure.flat_body ws (body_tree c.args.body.now) in
    let l = c.loop-turn in
    let n = c.goes_on.new in
    let i = l.turn in
    let split = turns_split ws c.args.count i c.args.index go l.stretch.place l.self l.w.state c.loop-turn-test.true in
    let total = pure.flat_turns ws c.args.count 0 c.args.index go c.args.place c.args.self.now c.args.w.now.state in
    let whole : closed ws n.stretch.pending.items (started n.w) (placed n.self n.w.state) ≡ total =
    subst (λ (b : Bool). closed ws n.stretch.pending.items (started n.w) (if b then all_turns ws go c.args.count i c.args.index n.stretch.place n.self n.w.state else placed n.self n.w.state) ≡ closed ws l.stretch.pending.items (started l.w) (pure.go_on ws l.w.state.ended l.stretch.place (all_turns ws go c.args.count i c.args.index) l.self l.w.state))
    c.if-not-goes.true (c.in_ok-goes.ensures.told ws (all_turns ws go c.args.count i c.args.index))
    ∙ ap (closed ws l.stretch.pending.items (started l.w)) (sym split) ∙ l.invariant.told in
    let over : IsOver total.given c.in_err-close.field-0.0 = subst (λ r. IsOver r.given c.in_err-close.field-0.0) whole c.in_err-close.ensures.large in
    search (rules, over)

pub stmt-returns-in_err-turns-in-Repeat-clause-large : goal.stmt-returns-in_err-turns-in-Repeat-clause-large
stmt-returns-in_err-turns-in-Repeat-clause-large t c =
    let ws = c.args.frame.now.locals.items in
    let p = c.args.place in
    let w = c.args.w.now.state in
    let e = c.in_err-turns-in-Repeat.field-0.0 in
    let told = subst (λ y. IsOver (pure.flat_turns ws c.in-Repeat.count 0 c.in-Repeat.index (pure.flat_body ws (body_tree y)) (pure.looping p) c.args.self.now w).given e) c.deref-in-Repeat.ensures.value c.in_err-turns-in-Repeat.ensures.large in
    let over : IsOver (pure.flat_stmt ws (stmt_tree c.args.s.now) p c.args.self.now w).given e =
    subst (λ s. IsOver (pure.flat_stmt ws s p c.args.self.now w).given e) (sym (tree_repeat c.in-Repeat.index c.in-Repeat.count c.in-Repeat.body) ∙ sym (ap stmt_tree c.in-Repeat.is)) told in
    search (rules, over)

-- ## Choices

pub first-returns-clause-ok : goal.first-returns-clause-ok
first-returns-clause-ok t c =
    let ws = c.args.frame.now.locals.items in
    let yes = body_tree c.args.yes.now in
    let k = c.in_ok-inner.inner in
    let o = pure.opened c.args.place c.args.cond true c.args.self.now in
    c.in_ok-body.ensures.ok ∙ ap (λ g. pure.flat_body ws yes k g c.enter.new.self.state) c.in_ok-inner.ensures.given
    ∙ ap (pure.flat_body ws yes k o) c.in_ok-outer.ensures.state ∙ ap (λ k. pure.flat_body ws yes k o c.args.w.now.state) c.in_ok-inner.ensures.inner

pub first-returns-clause-wide : goal.first-returns-clause-wide
first-returns-clause-wide t c = ap (λ w. length w.locals) (c.in_ok-body.ensures.start ∙ c.in_ok-outer.ensures.start) ∙ c.requires.wide

pub first-returns-in_err-body-clause-large : goal.first-returns-in_err-body-clause-large
first-returns-in_err-body-clause-large t c =
    let ws = c.args.frame.now.locals.items in
    let yes = body_tree c.args.yes.now in
    let k = c.in_ok-inner.inner in
    let o = pure.opened c.args.place c.args.cond true c.args.self.now in
    let e = c.in_err-body.field-0.0 in
    let given = subst (λ g. IsOver (pure.flat_body ws yes k g c.enter.new.self.state).given e) c.in_ok-inner.ensures.given c.in_err-body.ensures.large in
    let state = subst (λ w. IsOver (pure.flat_body ws yes k o w).given e) c.in_ok-outer.ensures.state given in
    let over : IsOver (pure.flat_body ws yes (pure.below c.args.place c.args.self.now) o c.args.w.now.state).given e = subst (λ k. IsOver (pure.flat_body ws yes k o c.args.w.now.state).given e) c.in_ok-inner.ensures.inner state in
    search (rules, over)

pub rest-join-requires-clause-wide : goal.rest-join-requires-clause-wide
rest-join-requires-clause-wide t c =
    as_wide [] [] c.flip.new.self c.second.new.w c.in_ok-second.ensures.start ∙ ap (λ w. length w.locals) c.in_ok-first.ensures.state ∙ c.requires.wide

pub rest-returns-clause-ok : goal.rest-returns-clause-ok
rest-returns-clause-ok t c =
    let ws = c.args.frame.now.locals.items in
    let p = c.args.place in
    let v = c.args.cond in
    let no = body_tree c.args.no.now in
    let rb = placed c.second.new.self c.second.new.w.state in
    let eb : rb ≡ pure.second_side (is_empty no) p v (pure.flat_body ws no) c.args.self.now (started c.args.w.now) =
    c.in_ok-second.ensures.ok ∙ ap (pure.second_side (is_empty no) p v (pure.flat_body ws no) c.args.self.now) c.in_ok-first.ensures.state in
    let ef : before c.in_ok-first.first (started c.second.new.w) ≡ c.args.w.now.state =
    ap (before c.in_ok-first.first) (c.in_ok-second.ensures.start ∙ c.in_ok-first.ensures.start) ∙ c.in_ok-first.ensures.first in
    c.in_ok-join.ensures.told ∙ ap (λ a. pure.join ws p v a rb) ef ∙ ap (pure.join ws p v c.args.w.now.state) eb

pub rest-returns-in_err-second-clause-large : goal.rest-returns-in_err-second-clause-large
rest-returns-in_err-second-clause-large t c =
    let ws = c.args.frame.now.locals.items in
    let no = body_tree c.args.no.now in
    let first = placed c.args.self.now c.args.w.now.state in
    let e = c.in_err-second.field-0.0 in
    let large = subst (λ w. IsOver (pure.second_side (is_empty no) c.args.place c.args.cond (pure.flat_body ws no) c.args.self.now w).given e) c.in_ok-first.ensures.state c.in_err-second.ensures.large in
    let over : IsOver (rest_at ws c.args.place no c.args.cond first (started c.args.w.now)).given e = second_over ws c.args.place no c.args.cond first (started c.args.w.now) e large in
    search (rules, over)

pub stmt-returns-in_ok-rest-in-If-clause-ok : goal.stmt-returns-in_ok-rest-in-If-clause-ok
stmt-returns-in_ok-rest-in-If-clause-ok t c =
    let ws = c.args.frame.now.locals.items in
    let p = c.args.place in
    let x = valued c.value.new.self c.in_ok-v-in-If.v in
    let w = c.args.w.now.state in
    let told = choice_made ws p (expr_tree c.in-If.cond) (body_tree c.in-If.yes.items) (body_tree c.in-If.no.items) _ _ c.args.self.now w (started c.first.new.w) x (placed c.first.new.self c.first.new.w.state)
    c.in_ok-v-in-If.ensures c.in_ok-outer-in-If.ensures.ok (ap body_tree c.deref-in-If.ensures.value) (ap body_tree c.deref-in-If-2.ensures.value) c.in_ok-outer-in-If.ensures.start in
    c.in_ok-rest-in-If.ensures.ok ∙ told
    ∙ ap (λ s. pure.flat_stmt ws s p c.args.self.now w) (sym (tree_if c.in-If.cond c.in-If.yes c.in-If.no) ∙ sym (ap stmt_tree c.in-If.is))

pub stmt-returns-in_err-outer-in-If-clause-large : goal.stmt-returns-in_err-outer-in-If-clause-large
stmt-returns-in_err-outer-in-If-clause-large t c =
    let ws = c.args.frame.now.locals.items in
    let p = c.args.place in
    let w = c.args.w.now.state in
    let e = c.in_err-outer-in-If.field-0.0 in
    let x = valued c.value.new.self c.in_ok-v-in-If.v in
    let told = first_over ws p (expr_tree c.in-If.cond) (body_tree c.in-If.yes.items) (body_tree c.in-If.no.items) _ c.args.self.now w x e
    c.in_ok-v-in-If.ensures (ap body_tree c.deref-in-If.ensures.value) c.in_err-outer-in-If.ensures.large in
    let over : IsOver (pure.flat_stmt ws (stmt_tree c.args.s.now) p c.args.self.now w).given e =
    subst (λ s. IsOver (pure.flat_stmt ws s p c.args.self.now w).given e) (sym (tree_if c.in-If.cond c.in-If.yes c.in-If.no) ∙ sym (ap stmt_tree c.in-If.is)) told in
    search (rules, over)

pub stmt-returns-in_err-rest-in-If-clause-large : goal.stmt-returns-in_err-rest-in-If-clause-large
stmt-returns-in_err-rest-in-If-clause-large t c =
    let ws = c.args.frame.now.locals.items in
    let p = c.args.place in
    let x = valued c.value.new.self c.in_ok-v-in-If.v in
    let w = c.args.w.now.state in
    let e = c.in_err-rest-in-If.field-0.0 in
    let told = choice_made ws p (expr_tree c.in-If.cond) (body_tree c.in-If.yes.items) (body_tree c.in-If.no.items) _ _ c.args.self.now w (started c.first.new.w) x (placed c.first.new.self c.first.new.w.state)
    c.in_ok-v-in-If.ensures c.in_ok-outer-in-If.ensures.ok (ap body_tree c.deref-in-If.ensures.value) (ap body_tree c.deref-in-If-2.ensures.value) c.in_ok-outer-in-If.ensures.start in
    let over : IsOver (pure.flat_stmt ws (stmt_tree c.args.s.now) p c.args.self.now w).given e =
    subst (λ r. IsOver r.given e) (told ∙ ap (λ s. pure.flat_stmt ws s p c.args.self.now w) (sym (tree_if c.in-If.cond c.in-If.yes c.in-If.no) ∙ sym (ap stmt_tree c.in-If.is))) c.in_err-rest-in-If.ensures.large in
    search (rules, over)
