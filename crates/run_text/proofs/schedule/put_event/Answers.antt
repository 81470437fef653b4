use Rattle.std.proofs.Common.{rules}
use Rattle.run_model.specs.declared.event.Event.TheVariants.{Serve, Hold, Down, Stage}
use Rattle.run_text.proofs.PrintedBack.{item_back, names_serve, names_hold, names_down, names_stage}
use Rattle.run_text.proofs.schedule.put_event.Goals as goal

pub returns-in-Stage-clause-back : goal.returns-in-Stage-clause-back
returns-in-Stage-clause-back c = let back = item_back 115 Stage c.in-Stage.item names_stage c.put_item.ensures.fits in rw c.in-Stage.is (search rules)

pub returns-in-Serve-clause-back : goal.returns-in-Serve-clause-back
returns-in-Serve-clause-back c = let back = item_back 117 Serve c.in-Serve.item names_serve c.put_item-in-Serve.ensures.fits in rw c.in-Serve.is (search rules)

pub returns-in-Hold-clause-back : goal.returns-in-Hold-clause-back
returns-in-Hold-clause-back c = let back = item_back 104 Hold c.in-Hold.item names_hold c.put_item-in-Hold.ensures.fits in rw c.in-Hold.is (search rules)

pub returns-in-Down-clause-back : goal.returns-in-Down-clause-back
returns-in-Down-clause-back c = let back = item_back 100 Down c.in-Down.item names_down c.put_item-in-Down.ensures.fits in rw c.in-Down.is (search rules)
