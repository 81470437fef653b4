use Rattle.std.proofs.Common.{◌≡◌, ◌-◌, drop, length}
use Rattle.element_lang.specs.View.{body_tree}
use Rattle.flatten.specs.Flatten as pure
use Rattle.flatten.specs.Sized.{IsSizedBody}
use Rattle.flatten.specs.Open.{closed, outermost}
use Rattle.flatten.specs.Tracked.{started}
use Rattle.flatten.proofs.output.Output.+flatten.Given as goal

-- the statements that are left give from here what all give from the start
abbrev pub invariant-body-loop-s : goal.invariant-body-loop-s
invariant-body-loop-s l = record {
  told : closed l.frame.locals.items l.stretch.pending.items (started l.w) (pure.flat_body l.frame.locals.items (body_tree (drop l.s-index l.body)) l.stretch.place l.self l.w.state)
      ≡ pure.flat_body l.frame.locals.items (body_tree l.body) l.fn.place l.fn.self l.fn.w.state;
  start : outermost l.stretch.pending.items (started l.w) ≡ started l.fn.w;
  wide : length l.w.state.locals ≡ length l.frame.locals.items;
  sized : IsSizedBody l.frame.locals.items (body_tree (drop l.s-index l.body));
  fields : l.frame.fields.items ≡ pure.field_widths;
}

-- the turns that are left give from here what all give from the start
abbrev pub invariant-turns-loop-turn : goal.invariant-turns-loop-turn
invariant-turns-loop-turn l = record {
  told : closed l.frame.locals.items l.stretch.pending.items (started l.w) (pure.flat_turns l.frame.locals.items (l.count - l.turn) l.turn l.index (pure.flat_body l.frame.locals.items (body_tree l.body)) l.stretch.place l.self l.w.state)
      ≡ pure.flat_turns l.frame.locals.items l.count 0 l.index (pure.flat_body l.frame.locals.items (body_tree l.body)) l.fn.place l.fn.self l.fn.w.state;
  start : outermost l.stretch.pending.items (started l.w) ≡ started l.fn.w;
  wide : length l.w.state.locals ≡ length l.frame.locals.items;
  sized : IsSizedBody l.frame.locals.items (body_tree l.body);
  fields : l.frame.fields.items ≡ pure.field_widths;
}
