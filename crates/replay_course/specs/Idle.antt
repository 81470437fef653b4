-- Events that can't apply, as a course tells without a look at what waits for what.
use Rattle.std.specs.Prelude.{ℕ, Bool, ◌==◌, nat_le, length}
use Rattle.output_commit.specs.Commit.{commands}
use Rattle.run_model.specs.declared.event.Event.{Event}
use Rattle.run_model.specs.declared.event.Event.TheVariants.{Admit, Stage, Serve, Send, Apply, Ack, Hold, Down}
use Rattle.replay_course.specs.declared.course.Course.{Course}

-- whether an event finds nothing in a run over so many packets: no packet, pass, frame, output or command
abbrev pub finds_nothing : ℕ → Course → Event → Bool
finds_nothing packets c Admit = nat_le packets (length c.fates.items)
finds_nothing packets c (Stage j) = nat_le (length c.passes) j
finds_nothing packets c (Serve j) = nat_le (length c.up.items) j
finds_nothing packets c Send = c.commit.sent == length (commands c.commit)
finds_nothing packets c Apply = c.commit.done == c.commit.sent
finds_nothing packets c Ack = c.commit.acked == c.commit.done
finds_nothing packets c (Hold j) = nat_le (length c.commit.held) j
finds_nothing packets c (Down j) = nat_le (length c.down.items) j
