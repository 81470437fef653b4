use Rattle.std.proofs.Common.{arith}
use Rattle.run_model.specs.declared.event.Event.TheVariants.{Serve, Hold, Down, Stage}
use Rattle.run_text.proofs.PrintedBack.{item_back, names_serve, names_hold, names_down, names_stage}
use Rattle.run_text.proofs.schedule.event_with.Goals as goal

pub returns-in-117 : goal.returns-in-117
returns-in-117 c = rw c.in-117.is (item_back 117 Serve c.args.item names_serve (omega arith))

pub returns-in-104 : goal.returns-in-104
returns-in-104 c = rw c.in-104.is (item_back 104 Hold c.args.item names_hold (omega arith))

pub returns-in-100 : goal.returns-in-100
returns-in-100 c = rw c.in-100.is (item_back 100 Down c.args.item names_down (omega arith))

pub returns-in-115 : goal.returns-in-115
returns-in-115 c = rw c.in-115.is (item_back 115 Stage c.args.item names_stage (omega arith))
