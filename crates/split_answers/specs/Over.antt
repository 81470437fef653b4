-- Answers of a switch over the tables that it tells.
use Rattle.std.specs.Prelude.{◌≡◌, ⊤, List}
use Rattle.std.specs.List.{AllByRecursion as Each}
use Rattle.flat_ir.specs.Arrivals.{IsArrival}
use Rattle.transfer_header.specs.Frames.{IsFrame}
use Rattle.transfer_header.specs.Told.{number_in}
use Rattle.switch_ir.specs.Code.{Code}
use Rattle.switch_ir.specs.Port.{EndsDown, EndsUp, IsCommandOf}
use Rattle.switch_ir.specs.Tables.{Told}
use Rattle.replay_state.specs.Journal.{Call, CalledUp, CalledCommand, CalledDown}
use Rattle.split_answers.specs.Through.{down_end_of, end_of}

-- what the call is given has its form
abbrev pub IsGiven : Code → Call → Type 0
IsGiven code (CalledUp fine n packet answer) = IsArrival packet
IsGiven code (CalledCommand command) = IsCommandOf code command
IsGiven code (CalledDown fine n frame answer) = IsFrame 2 code.down frame × (number_in frame ≡ n)
IsGiven code call = ⊤

-- What a call answers over these tables, where it takes a packet or a frame. What one answers that takes a pass by a
-- stage rests on the pass.
abbrev pub IsAnswerOver : Code → Told → Call → Type 0
IsAnswerOver code told (CalledUp fine n packet answer) = EndsUp code told n packet (end_of answer)
IsAnswerOver code told (CalledDown fine n frame answer) = EndsDown code told frame (down_end_of answer)
IsAnswerOver code told call = ⊤

abbrev pub AreAnswersOver : Code → Told → List Call → Type 0
AreAnswersOver code told calls = Each (IsAnswerOver code told) calls
