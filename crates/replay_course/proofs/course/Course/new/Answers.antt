use Rattle.std.proofs.Common.{refl, ap, ◌∙◌}
use Rattle.output_commit.specs.Commit.{first}
use Rattle.replay_course.proofs.SoundCourse.{first_sound}
use Rattle.replay_course.proofs.course.Course.new.Goals as goal

pub returns-clause-sound : goal.returns-clause-sound
returns-clause-sound c = λ x program split writeback pre post.
    first_sound x _ program split pre post c.new.ensures c.new-2.ensures.items c.requires (c.new-3.ensures ∙ ap first writeback) c.new-4.ensures.items c.new-5.ensures.items refl refl
