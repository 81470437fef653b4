use Rattle.element_lang.specs.View.{tree}
use Rattle.run_audit.proofs.Answers.{answer_ok, answer_serial, answer_refused, answer_exact, answer_found, answer_serialises}
use Rattle.run_audit.proofs.whole.audit.Goals as goal

pub returns-clause-ok : goal.returns-clause-ok
returns-clause-ok c = answer_ok (tree c.args.m.now) (c.args.packets.now) (c.args.run.now) (c.judge.result) c.judge.ensures

pub returns-clause-serial : goal.returns-clause-serial
returns-clause-serial c = answer_serial (tree c.args.m.now) (c.args.packets.now) (c.args.run.now) (c.judge.result) c.judge.ensures

pub returns-clause-refused : goal.returns-clause-refused
returns-clause-refused c = answer_refused (tree c.args.m.now) (c.args.packets.now) (c.args.run.now) (c.judge.result) c.judge.ensures

pub returns-clause-exact : goal.returns-clause-exact
returns-clause-exact c = answer_exact (tree c.args.m.now) (c.args.packets.now) (c.args.run.now) (c.judge.result) c.judge.ensures

pub returns-clause-found : goal.returns-clause-found
returns-clause-found c = answer_found (tree c.args.m.now) (c.args.packets.now) (c.args.run.now) (c.judge.result) c.judge.ensures

pub returns-clause-serialises : goal.returns-clause-serialises
returns-clause-serialises c = answer_serialises (tree c.args.m.now) (c.args.packets.now) (c.args.run.now) (c.judge.result) c.judge.ensures
