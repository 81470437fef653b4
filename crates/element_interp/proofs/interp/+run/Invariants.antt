use Rattle.std.proofs.Common.{◌≡◌, ◌-◌, drop}
use Rattle.element_lang.specs.View.{body_tree}
use Rattle.element_lang.specs.Meaning.{turns, do_body}
use Rattle.element_interp.specs.Runs.{packet_of, frame_widths, state_of}
use Rattle.element_interp.specs.Runnable.{IsRunnableBody}
use Rattle.element_interp.proofs.interp.+run.Given as goal

-- the turns that are left do from here what all do from the start
abbrev pub invariant-run_turns-loop-turn : goal.invariant-run_turns-loop-turn
invariant-run_turns-loop-turn l = record {
  told : turns (l.count - l.turn) l.turn l.index (do_body (frame_widths l.frame) (packet_of l.frame) (body_tree l.body)) (state_of l.frame l.vars l.store)
      ≡ turns l.count 0 l.index (do_body (frame_widths l.frame) (packet_of l.frame) (body_tree l.body)) (state_of l.frame l.fn.vars l.fn.store);
  good : IsRunnableBody (body_tree l.body);
}

-- the statements that are left do from here what all do from the start
abbrev pub invariant-run_body-loop-s : goal.invariant-run_body-loop-s
invariant-run_body-loop-s l = record {
  told : do_body (frame_widths l.frame) (packet_of l.frame) (body_tree (drop l.s-index l.body)) (state_of l.frame l.vars l.store) ≡ do_body (frame_widths l.frame) (packet_of l.frame) (body_tree l.body) (state_of l.frame l.fn.vars l.fn.store);
  good : IsRunnableBody (body_tree (drop l.s-index l.body));
}
